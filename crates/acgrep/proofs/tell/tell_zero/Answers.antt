-- A message is told.
use Rattle.std.proofs.Common.{Some, inl, inr, refl}
use Rattle.acgrep.specs.Told.{zero_text}
use Rattle.acgrep.proofs.Told.{tells-cause}
use Rattle.acgrep.proofs.tell.tell_zero.Goals as goal

pub returns : goal.returns
returns g c = record { told = λ names may. tells-cause g.E.Sink names _ _ (Some c.args.name.now) c.args.line zero_text may (inl (inr (inr (inr (inr (inr refl)))))) c.tell.ensures.told }
