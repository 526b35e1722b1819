-- Where an overlapping search over an automaton stands, and how it goes on. All is said of each list of patterns that the
-- automaton is of.
use Rattle.std.specs.Prelude.{◌≡◌, ℕ, ◌+◌, min, length, Option, slice_get}
use Rattle.aho_core.specs.Overlapping.{overlapping}
use Rattle.aho_core.specs.Patterns.{Patterns}
use Rattle.aho_core.specs.Progress.{FitsFrom, IsPartWay, Progress, StandsAt}
use Rattle.aho_core.specs.Search.{Search}
use Rattle.aho_automaton.specs.Overlaps.{SkipsTo, WalksToPlace, left, left_at}
use Rattle.aho_automaton.specs.declared.automaton.Automaton.{Ghosts as Automata}

module _ {A : Type 0} (automata : Automata A) (a : A) (search : Search) where
  -- the state is held at a place
  abbrev pub Stands : ℕ → ℕ → Type 0
  Stands sid at = (p : Patterns) × automata.is_of a p × StandsAt (automata.valid a) (automata.held a p) p search sid at

  -- from there a walk comes to a later place
  abbrev pub Walks : ℕ → ℕ → Option (ℕ × ℕ) → Type 0
  Walks sid at next =
      (p : Patterns) → automata.is_of a p → StandsAt (automata.valid a) (automata.held a p) p search sid at
      → WalksToPlace (automata.valid a) (automata.held a p) p search at next

  -- and a candidate lies at a place that may be skipped to
  abbrev pub Skips : ℕ → ℕ → Option ℕ → Type 0
  Skips sid at origin =
      (p : Patterns) → automata.is_of a p → StandsAt (automata.valid a) (automata.held a p) p search sid at
      → SkipsTo (automata.valid a) (automata.held a p) p search sid at origin

  -- a number of matches were found, some of those that end at the place among them
  abbrev pub StandsPartWay : ℕ → ℕ → ℕ → Type 0
  StandsPartWay sid at index =
      (p : Patterns) × (n : ℕ) × automata.is_of a p × IsPartWay (automata.valid a) (automata.held a p) p search sid at index n

  -- the next one is found
  abbrev pub FindsFrom : ℕ → ℕ → ℕ → Progress → Type 0
  FindsFrom sid at index new =
      (p : Patterns) (n : ℕ) → automata.is_of a p → IsPartWay (automata.valid a) (automata.held a p) p search sid at index n
      → new.mat ≡ slice_get (overlapping p search) n

  -- and the new state says so
  abbrev pub FitsAfter : ℕ → ℕ → ℕ → Progress → Type 0
  FitsAfter sid at index new =
      (p : Patterns) (n : ℕ) → automata.is_of a p → IsPartWay (automata.valid a) (automata.held a p) p search sid at index n
      → FitsFrom (automata.valid a) (automata.held a p) p search new.id new.at new.next_match_index (min (n + 1) (length (overlapping p search)))

  -- how many may still be found at most
  abbrev pub left_of : Progress → ℕ
  left_of progress = left (length (automata.lengths a)) search progress

  abbrev pub left_from_place : ℕ → ℕ → ℕ
  left_from_place at index = left_at (length (automata.lengths a)) search at index
