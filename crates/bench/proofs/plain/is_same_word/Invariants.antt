use Rattle.std.proofs.Common.{◌≡◌, ℕ, ◌<◌, get_or}
use Rattle.aho_core.specs.Bytes.{folded}
use Rattle.bench.proofs.plain.is_same_word.Given as goal

abbrev pub invariant-loop-i : goal.invariant-loop-i
invariant-loop-i l = (k : ℕ) → k < l.i → folded l.patterns (get_or l.x k 0) ≡ folded l.patterns (get_or l.y k 0)
