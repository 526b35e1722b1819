use Rattle.std.proofs.Common.{◌∙◌, sym, arith}
use Rattle.secret_rules.proofs.Groups.{first_filled-here, first_filled-next}
use Rattle.secret_rules.proofs.reader.first_secret.Goals as goal

pub returns-in-Some : goal.returns-in-Some
returns-in-Some c = λ m are. sym (c.groups.invariant m are ∙ first_filled-here m c.args.locations.now are c.groups.number _ (omega arith) (omega (arith, c.len-number-end.ensures)) (sym c.in-Some.ensures))

pub groups-preserved : goal.groups-preserved
groups-preserved c = λ m are. c.groups.invariant m are ∙ first_filled-next m c.args.locations.now are c.groups.number (omega arith) (omega (arith, c.len-number-end.ensures)) (sym c.in_default.ensures)
