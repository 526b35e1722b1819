-- A message is told.
use Rattle.acgrep.proofs.Common.{reason_text}
use Rattle.std.proofs.Common.{None, Some, codes, inl, refl}
use Rattle.acgrep.proofs.Told.{tells-cause}
use Rattle.acgrep.proofs.tell.tell_write.Goals as goal

pub returns : goal.returns
returns g c = record {
  told = λ names. let (reason, told) = c.tell_unwritten.ensures.told in tells-cause g.E.Sink names _ _ (Some (codes "write error")) None (reason_text reason) (inl (inl refl)) (inl (inl (reason, refl))) told;
}
