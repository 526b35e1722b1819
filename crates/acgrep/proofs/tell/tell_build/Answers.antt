-- A message is told.
use Rattle.std.proofs.Common.{Some, inl, inr, refl}
use Rattle.aho_core.specs.Texts.{build_error_text}
use Rattle.acgrep.proofs.Told.{tells-cause}
use Rattle.acgrep.proofs.tell.tell_build.Goals as goal

pub returns : goal.returns
returns g c = record { told = λ names may. tells-cause g.E.Sink names _ _ (Some c.args.name.now) c.args.line (build_error_text c.args.error.now) may (inl (inr (inl (c.args.error.now, refl)))) c.tell_build.ensures.told }
