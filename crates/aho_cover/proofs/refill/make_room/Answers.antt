-- The last bytes are still the last.
use Rattle.std.proofs.Common.{◌-◌, length, sym, ap, subst}
use Rattle.aho_devices.specs.Buffer.{Buffered}
use Rattle.aho_stream.specs.After.{EndsWith}
use Rattle.aho_cover.proofs.Copied.{ends-drop}
use Rattle.aho_cover.proofs.refill.make_room.Goals as goal

pub returns-then-buffer-min_buffer_len-clause-last : goal.returns-then-buffer-min_buffer_len-clause-last
returns-then-buffer-min_buffer_len-clause-last c = λ given ends.
    let old = c.args.buffer.now in
    subst (EndsWith given) (sym (ap (λ (b : Buffered). b.bytes) c.roll.ensures.rolled)) (ends-drop given old.bytes (length old.bytes - old.least) ends)
