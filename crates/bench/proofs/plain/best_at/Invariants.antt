use Rattle.std.proofs.Common.{◌≡◌, ℕ, ◌<◌, false}
use Rattle.std.specs.Prelude.{slice_range}
use Rattle.aho_core.specs.Bytes.{is_same_word}
use Rattle.aho_core.specs.Patterns.{pattern_at}
use Rattle.bench.proofs.plain.best_at.Given as goal

abbrev pub invariant-loop-number : goal.invariant-loop-number
invariant-loop-number l = (k : ℕ) → k < l.number → is_same_word l.patterns (pattern_at l.patterns k) (slice_range l.input.haystack l.at.start l.at.end) ≡ false
