-- The line tells of all rules.
use Rattle.acgrep.proofs.Common.{some-one}
use Rattle.std.proofs.Common.{inl, inr, refl}
use Rattle.acgrep.proofs.rule_lists.tell_all.Goals as goal

pub returns : goal.returns
returns g c = record { told = some-one g.E.Sink _ _ _ _ (inr (inr (inr (inl (c.args.error.now, refl))))) c.tell_build.ensures.told }
