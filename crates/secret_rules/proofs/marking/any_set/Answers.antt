use Rattle.std.proofs.Common.{◌+◌, drop, false, subst, sym}
use Rattle.std.proofs.lemmas.List.{drop_more}
use Rattle.secret_rules.specs.Markers.{NoneIsSet, flag_at}
use Rattle.secret_rules.proofs.Turns.{neither-set, none-more}
use Rattle.secret_rules.proofs.marking.any_set.Goals as goal

pub loop-flag-preserved : goal.loop-flag-preserved
loop-flag-preserved c = λ unset rest.
    let flags = c.args.flags.now in
    let index = c.loop-flag.flag-index in
    let both = neither-set c.loop-flag.set (flag_at flags index) c.either-set.result c.either-set.ensures unset in
    c.loop-flag.invariant both.0
    (subst NoneIsSet (sym (drop_more flags index false c.loop-flag-test.true)) (none-more (flag_at flags index) (drop (index + 1) flags) both.1 rest))
