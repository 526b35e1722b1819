-- What is left decides.
use Rattle.std.proofs.Common.{◌+◌, ◌≡◌, [], drop, length}
use Rattle.acgrep.specs.Globs.{any_suffix, fits}
use Rattle.acgrep.proofs.globs.fits_some_suffix.Given as goal

abbrev pub invariant-loop-left : goal.invariant-loop-left
invariant-loop-left l = any_suffix (fits 0 l.fn.glob) l.fn.name ≡ any_suffix (fits 0 l.rest) l.left

abbrev pub invariant-loop-byte : goal.invariant-loop-byte
invariant-loop-byte l = any_suffix (fits 0 l.fn.glob) l.fn.name ≡ fits 0 (drop l.byte-index l.byte-items) []

abbrev pub decreases-loop-left : goal.decreases-loop-left
decreases-loop-left l = length l.rest + length l.left
