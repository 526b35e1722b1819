-- The bytes before the place were added.
use Rattle.acredact.proofs.Common.{List, as_compared, take, ℕ, ◌++◌}
use Rattle.sha2.specs.Hashers.{Holds256}
use Rattle.std.specs.Prelude.{true}
use Rattle.acredact.proofs.pseudonym.add_folded.Given as goal

abbrev pub invariant-loop-byte : goal.invariant-loop-byte
invariant-loop-byte l = (message : List ℕ) → Holds256 l.initial.hasher message → Holds256 l.hasher (message ++ as_compared true (take l.byte-index l.fn.bytes))
