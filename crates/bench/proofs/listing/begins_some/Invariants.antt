use Rattle.std.proofs.Common.{◌≡◌, ◌<◌, ℕ, false}
use Rattle.aho_core.specs.Bytes.{folded_word}
use Rattle.aho_core.specs.Trie.{begins, pattern_word}
use Rattle.bench.proofs.listing.begins_some.Given as goal

abbrev pub invariant-loop-number : goal.invariant-loop-number
invariant-loop-number l = (k : ℕ) → k < l.number → begins (folded_word l.patterns l.word) (pattern_word l.patterns k) ≡ false
