-- The better of two occurrences.
use Rattle.std.specs.Prelude.{◌≡◌, ◌⊎◌, Option, Some, None}
use Rattle.aho_core.specs.declared.search.MatchKind.{MatchKind}
use Rattle.aho_core.specs.Occurrence.{Occurrence}
use Rattle.aho_core.specs.Order.{IsBefore}

-- one of the two: the second where it is alone or before the first, and else the first
abbrev pub IsBetter : MatchKind → Option Occurrence → Option Occurrence → Option Occurrence → Type 0
IsBetter kind None y better = better ≡ y
IsBetter kind (Some x) None better = better ≡ Some x
IsBetter kind (Some x) (Some y) better = ((better ≡ Some x) × (IsBefore kind y x → ⊥)) ⊎ ((better ≡ Some y) × IsBefore kind y x)
