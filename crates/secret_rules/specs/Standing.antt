-- Where a text stands in a line.
use Rattle.std.specs.Prelude.{ℕ, ◌≤◌, List}
use Rattle.memchr.specs.Find.{OccursAt}

-- the text stands in the line, at this place or behind it
abbrev pub StandsFrom : List ℕ → List ℕ → ℕ → Type 0
StandsFrom text line from = (at : ℕ) × (from ≤ at) × OccursAt line text at

-- the text stands in the line
abbrev pub StandsInLine : List ℕ → List ℕ → Type 0
StandsInLine text line = StandsFrom text line 0
