-- It is the last of the transitions so far that leads to the state.
use Rattle.std.proofs.Common.{length, take}
use Rattle.acdraw.specs.Words.{IsLastTo}
use Rattle.acdraw.proofs.picture.words.last_to.Given as goal

abbrev pub invariant-loop-byte : goal.invariant-loop-byte
invariant-loop-byte l = IsLastTo l.sid (take (length l.yielded) l.fn.transitions) l.last
