use Rattle.std.proofs.Common.{◌≡◌}
use Rattle.std.specs.Prelude.{vec_len, vec_capacity}
use Rattle.aho_devices.proofs.buffer.filled_block.Given as goal

-- so many bytes were put, in memory of this length
abbrev pub invariant-loop-place : goal.invariant-loop-place
invariant-loop-place l = (vec_len l.bytes ≡ l.place) × (vec_capacity l.bytes ≡ l.fn.size)
