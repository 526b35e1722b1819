use Rattle.std.proofs.Common.{◌≡◌, ◌++◌, length, take}
use Rattle.aho_hybrid.specs.Filled.{flat}
use Rattle.aho_hybrid.proofs.fill.push_moves.Given as goal

abbrev pub invariant-loop-byte : goal.invariant-loop-byte
invariant-loop-byte l = l.moves.items ≡ l.fn.moves.items ++ flat l.numbers (take (length l.yielded) l.fn.transitions)
