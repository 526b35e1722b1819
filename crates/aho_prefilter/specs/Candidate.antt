-- What a prefilter answers for a span of a haystack. All is said of unanchored searches.
use Rattle.std.specs.Prelude.{ℕ, ◌+◌, ◌<◌, ◌≤◌, List, Option, Some, None as Nothing}
use Rattle.aho_core.specs.declared.search.Anchored.TheVariants.{No}
use Rattle.aho_core.specs.Best.{IsBest}
use Rattle.aho_core.specs.Occurrence.{Occurrence}
use Rattle.aho_core.specs.Occurs.{Occurs}
use Rattle.aho_core.specs.Patterns.{Patterns}
use Rattle.aho_prefilter.specs.declared.prefilter.Candidate.{Candidate}
use Rattle.aho_prefilter.specs.declared.prefilter.Candidate.TheVariants.{None, Match, PossibleStartOfMatch}

-- whatever occurs in the span starts at this place or later
abbrev pub NoneStartsBefore : Patterns → List ℕ → ℕ → ℕ → ℕ → Type 0
NoneStartsBefore p haystack start end place = (m : Occurrence) → Occurs p No haystack start end m → place ≤ m.start

-- nothing starts in the span, at its end neither
abbrev pub NoneStarts : Patterns → List ℕ → ℕ → ℕ → Type 0
NoneStarts p haystack start end = NoneStartsBefore p haystack start end (end + 1)

-- whatever occurs in the span starts at this place of it or later
abbrev pub AllStartFrom : Patterns → List ℕ → ℕ → ℕ → ℕ → Type 0
AllStartFrom p haystack start end place = (start ≤ place) × (place ≤ end) × NoneStartsBefore p haystack start end place

-- nothing occurs in the span
abbrev pub NothingOccurs : Patterns → List ℕ → ℕ → ℕ → Type 0
NothingOccurs p haystack start end = (m : Occurrence) → Occurs p No haystack start end m → ⊥

-- m is the best of the span, and none starts before it
pub record IsWholeMatch (p : Patterns) (haystack : List ℕ) (start end : ℕ) (m : Occurrence) : Type 0 where
  pub best : IsBest p.kind (Occurs p No haystack start end) m
  pub first : NoneStartsBefore p haystack start end m.start

-- the place lies in the span, and none starts before it
pub record IsPossibleStart (p : Patterns) (haystack : List ℕ) (start end place : ℕ) : Type 0 where
  pub after_start : start ≤ place
  pub before_end : place < end
  pub first : NoneStartsBefore p haystack start end place

-- what each answer means
abbrev pub IsCandidate : Patterns → List ℕ → ℕ → ℕ → Candidate → Type 0
IsCandidate p haystack start end None = NothingOccurs p haystack start end
IsCandidate p haystack start end (Match m) = IsWholeMatch p haystack start end m
IsCandidate p haystack start end (PossibleStartOfMatch place) = IsPossibleStart p haystack start end place

-- where a match starts or may start
abbrev pub place_of : Candidate → Option ℕ
place_of None = Nothing
place_of (Match m) = Some m.start
place_of (PossibleStartOfMatch place) = Some place
