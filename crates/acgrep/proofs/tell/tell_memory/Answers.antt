-- A message is told.
use Rattle.acgrep.proofs.Common.{reason_text}
use Rattle.std.proofs.Common.{None, inl, refl}
use Rattle.tool_parts.specs.declared.reason.Reason.TheVariants.{OutOfMemory}
use Rattle.acgrep.proofs.Told.{tells-cause}
use Rattle.acgrep.proofs.tell.tell_memory.Goals as goal

pub returns : goal.returns
returns g c =
    let exact = rw (c.as_bytes.ensures.value, c.text.ensures.text) at c.tell.ensures.told in
    record { told = λ names. tells-cause g.E.Sink names _ _ None None (reason_text OutOfMemory) tt (inl (inl (OutOfMemory, refl))) exact; exact = exact }
