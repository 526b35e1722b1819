use Rattle.std.proofs.Common.{ap, subst, sym}
use Rattle.aho_devices.specs.Buffer.{Buffered}
use Rattle.aho_stream.specs.After.{EndsWith}
use Rattle.aho_stream.proofs.GivenBytes.{EndsWith-drop}
use Rattle.aho_stream.proofs.progress.make_room.Goals as goal

pub returns-then-buffer-min_buffer_len-clause-last : goal.returns-then-buffer-min_buffer_len-clause-last
returns-then-buffer-min_buffer_len-clause-last c given e =
    subst (EndsWith given) (sym (ap (λ (b : Buffered). b.bytes) c.roll.ensures.rolled)) (EndsWith-drop given _ _ e)
