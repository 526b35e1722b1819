-- The bytes before the place of the loop were noted.
use Rattle.std.proofs.Common.{◌≡◌, ℕ, ◌<◌, cond, get_or, take}
use Rattle.aho_prefilter.specs.FirstBytes.{has_byte}
use Rattle.aho_prefilter.proofs.strided.sizes.see.Given as goal

abbrev pub invariant-loop-byte : goal.invariant-loop-byte
invariant-loop-byte l = (byte : ℕ) → byte < 256 → get_or l.seen byte 0 ≡ cond (has_byte (take l.byte-index l.pattern) byte) 1 (get_or l.initial.seen byte 0)
