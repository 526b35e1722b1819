-- The line names the rule, or tells that memory ran out.
use Rattle.acgrep.proofs.Common.{some-one}
use Rattle.std.proofs.Common.{[], inl, inr}
use Rattle.acgrep.specs.ToldByRules.{IsMarkTold}
use Rattle.acgrep.proofs.MarksTold.{some-told}
use Rattle.acgrep.proofs.marked_files.tell_too_big.Goals as goal

pub returns-in-Ok : goal.returns-in-Ok
returns-in-Ok g c =
    let (line, is, told) = c.tell_rule.ensures.told in
    record { told = some-one g.E.Sink IsMarkTold c.args.errors.now c.tell_rule.new.errors line (inr (inr (inl (c.in-Ok.bad, is)))) told }

pub returns : goal.returns
returns g c = record { told = some-told g.E.Sink [] c.args.errors.now c.tell_memory.new.errors (c.tell_memory.ensures.told []) }
