-- Which patterns can be found, and the same patterns turned round.
use Rattle.std.specs.Prelude.{◌≡◌, ℕ, ◌<◌, List, EachIndex, SomeIndex, length, map, reverse, slice_index, slice_index_or, []}
use Rattle.aho_core.specs.declared.search.Anchored.TheVariants.{Yes}
use Rattle.aho_core.specs.declared.search.MatchKind.TheVariants.{Standard}
use Rattle.aho_core.specs.Best.{IsBest}
use Rattle.aho_core.specs.Occurrence.{occurrence}
use Rattle.aho_core.specs.Occurs.{Occurs}
use Rattle.aho_core.specs.Patterns.{Patterns, pattern_at}

-- how many bytes the pattern of this number has
abbrev pub size_of : Patterns → ℕ → ℕ
size_of p number = length (pattern_at p number)

-- the pattern is the best of all patterns that begin it. No other is ever found by a leftmost kind: wherever it begins, a better
-- one does
abbrev pub IsLeader : Patterns → ℕ → Type 0
IsLeader p number =
    IsBest p.kind (Occurs p Yes (pattern_at p number) 0 (size_of p number)) (occurrence 0 (size_of p number) number)

-- these are the numbers of the patterns that lead, and of no others
pub record AreLeading (p : Patterns) (given : List ℕ) : Type 0 where
  pub each : EachIndex given (λ i. (slice_index given i < length p.words) × IsLeader p (slice_index given i))
  pub all : (number : ℕ) → number < length p.words → IsLeader p number
      → SomeIndex given (λ i. slice_index given i ≡ number)

-- the words of these numbers, each with its last byte first
abbrev pub turned_words_of : List (List ℕ) → List ℕ → List (List ℕ)
turned_words_of words given = map (λ number. reverse (slice_index_or words number [])) given

-- the patterns of these numbers turned round, by the standard kind
abbrev pub turned : Patterns → List ℕ → Patterns
turned p given = record { words = turned_words_of p.words given; kind = Standard; ignore_case = p.ignore_case }
