use Rattle.std.proofs.Common.{◌≡◌, ◌++◌, length, take}
use Rattle.aho_hybrid.proofs.lists.push_patterns.Given as goal

abbrev pub invariant-loop-pattern : goal.invariant-loop-pattern
invariant-loop-pattern l = l.lists.items ≡ l.fn.lists.items ++ take (length l.yielded) l.fn.matches
