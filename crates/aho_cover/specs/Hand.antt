-- The runs in hand of a cover of a stream.
use Rattle.std.specs.Prelude.{◌≡◌, ℕ, ◌≤◌, List, [], ◌∷◌, Option, Some, None}
use Rattle.std.specs.VecDeque.{deque_capacity}
use Rattle.aho_core.specs.Occurrence.{Occurrence}
use Rattle.aho_cover.specs.declared.hand.Hand.{Hand}

-- a first run, where there is one, and those behind it
abbrev pub runs_from : Option Occurrence → List Occurrence → List Occurrence
runs_from None rest = rest
runs_from (Some run) rest = run ∷ rest

abbrev pub held_runs : Hand → List Occurrence
held_runs hand = runs_from hand.first hand.rest.runs.items

-- where there is no first run, there is none
abbrev pub HasItsFirst : Hand → Type 0
HasItsFirst hand = hand.first ≡ None → hand.rest.runs.items ≡ []

-- how many runs may stand behind the first
abbrev pub room_in : Hand → ℕ
room_in hand = deque_capacity hand.rest.runs

-- where the first of some runs begins
abbrev pub first_start : List Occurrence → Option ℕ
first_start [] = None
first_start (run ∷ runs) = Some run.start

-- the first run, if there is one, ends at a place or behind it
abbrev pub FirstEndsBehind : ℕ → List Occurrence → Type 0
FirstEndsBehind place runs = (run : Occurrence) (rest : List Occurrence) → runs ≡ run ∷ rest → place ≤ run.end
