-- What occurs at one range, or ends at one place, of what is searched.
use Rattle.std.specs.Prelude.{◌≡◌, ℕ}
use Rattle.aho_core.specs.Occurrence.{Occurrence}
use Rattle.aho_core.specs.Occurs.{OccursIn}
use Rattle.aho_core.specs.Patterns.{Patterns}
use Rattle.aho_core.specs.Search.{Search}

-- from `start` up to `end`
abbrev pub OccursAt : Patterns → Search → ℕ → ℕ → Occurrence → Type 0
OccursAt p search start end m = OccursIn p search m × (m.start ≡ start) × (m.end ≡ end)

abbrev pub OccursEndingAt : Patterns → Search → ℕ → Occurrence → Type 0
OccursEndingAt p search end m = OccursIn p search m × (m.end ≡ end)
