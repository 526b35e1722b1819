-- The best of a set of occurrences.
use Rattle.std.specs.Prelude.{◌≡◌, ◌⊎◌, Option, Some, None}
use Rattle.aho_core.specs.declared.search.MatchKind.{MatchKind}
use Rattle.aho_core.specs.Occurrence.{Occurrence}
use Rattle.aho_core.specs.Order.{IsBefore}

-- the member that is before every other member
abbrev pub IsBest : MatchKind → (Occurrence → Type 0) → Occurrence → Type 0
IsBest kind Member m = Member m × ((other : Occurrence) → Member other → (other ≡ m) ⊎ IsBefore kind m other)

-- the best member, or none where there is no member
abbrev pub IsBestOrNone : MatchKind → (Occurrence → Type 0) → Option Occurrence → Type 0
IsBestOrNone kind Member None = (other : Occurrence) → Member other → ⊥
IsBestOrNone kind Member (Some m) = IsBest kind Member m
