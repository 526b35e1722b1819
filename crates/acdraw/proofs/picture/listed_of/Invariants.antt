-- The patterns so far.
use Rattle.std.proofs.Common.{◌≡◌, length, take}
use Rattle.acdraw.proofs.picture.listed_of.Given as goal

abbrev pub invariant-loop-pattern : goal.invariant-loop-pattern
invariant-loop-pattern l = l.listed.items ≡ take (length l.yielded) l.fn.matches
