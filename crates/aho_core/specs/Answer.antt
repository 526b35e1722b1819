-- What a search answers.
use Rattle.std.specs.Prelude.{ℕ, ◌≤◌, Option, Some, None, MatchBool}
use Rattle.aho_core.specs.Best.{IsBest, IsBestOrNone}
use Rattle.aho_core.specs.Occurrence.{Occurrence}
use Rattle.aho_core.specs.Occurs.{Occurs, OccursIn}
use Rattle.aho_core.specs.Patterns.{Patterns}
use Rattle.aho_core.specs.Search.{Search}

-- what occurs in the front of the span that ends at this place
abbrev pub OccursUpTo : Patterns → Search → ℕ → Occurrence → Type 0
OccursUpTo p search front m = Occurs p search.anchored search.haystack search.start front m

-- the place where the shortest front of the span ends that holds an occurrence
pub record IsFront (p : Patterns) (search : Search) (front : ℕ) : Type 0 where
  pub within : front ≤ search.end
  pub some : (m : Occurrence) × OccursUpTo p search front m
  pub least : (end : ℕ) (m : Occurrence) → OccursUpTo p search end m → front ≤ end

-- an earliest search answers the best occurrence of the shortest front that holds one
abbrev pub IsEarliestAnswer : Patterns → Search → Option Occurrence → Type 0
IsEarliestAnswer p search None = (m : Occurrence) → OccursIn p search m → ⊥
IsEarliestAnswer p search (Some m) = (front : ℕ) × IsFront p search front × IsBest p.kind (OccursUpTo p search front) m

-- any other search the best occurrence of its span; nothing occurs in a span that starts above its end
abbrev pub IsAnswer : Patterns → Search → Option Occurrence → Type 0
IsAnswer p search answer = MatchBool search.earliest (IsEarliestAnswer p search answer) (IsBestOrNone p.kind (OccursIn p search) answer)
