-- Which of two occurrences is before the other: a strict order for each match kind, as the crate's documentation of its
-- match kinds tells them.
use Rattle.std.specs.Prelude.{◌≡◌, ℕ, ◌<◌, ◌⊎◌}
use Rattle.aho_core.specs.declared.search.MatchKind.{MatchKind}
use Rattle.aho_core.specs.declared.search.MatchKind.TheVariants.{Standard, LeftmostFirst, LeftmostLongest}
use Rattle.aho_core.specs.Occurrence.{Occurrence}

-- the smaller decides, and at a tie the rest
abbrev pub IsLessOr : ℕ → ℕ → Type 0 → Type 0
IsLessOr x y rest = (x < y) ⊎ ((x ≡ y) × rest)

-- the greater decides, and at a tie the rest
abbrev pub IsMoreOr : ℕ → ℕ → Type 0 → Type 0
IsMoreOr x y rest = (y < x) ⊎ ((x ≡ y) × rest)

abbrev pub IsBefore : MatchKind → Occurrence → Occurrence → Type 0
-- by end, then start, then number
IsBefore Standard x y = IsLessOr x.end y.end (IsLessOr x.start y.start (x.pattern < y.pattern))
-- by start, then number
IsBefore LeftmostFirst x y = IsLessOr x.start y.start (x.pattern < y.pattern)
-- by start, then the greater length (of two that start together the longer ends later), then number
IsBefore LeftmostLongest x y = IsLessOr x.start y.start (IsMoreOr x.end y.end (x.pattern < y.pattern))
