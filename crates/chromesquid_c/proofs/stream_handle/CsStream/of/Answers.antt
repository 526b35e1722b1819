use Rattle.std.proofs.Common.{ap, ◌∙◌, Some}
use Rattle.chromesquid_c.proofs.stream_handle.CsStream.of.Goals as goal

pub returns : goal.returns
returns c = record { holds = (c.in_ok-boxed.boxed.value, c.of-2.ensures ∙ ap Some c.of.ensures, c.in_ok-boxed.ensures.ok) }
