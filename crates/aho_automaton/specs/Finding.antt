-- What an iterator over matches has before and after it gives the next one.
use Rattle.std.specs.Prelude.{◌≡◌, ℕ, suc, ◌+◌, ◌-◌, ◌<◌, Bool, true, false, nat_eq, cond, List, [], ◌∷◌, Option, Some, None}
use Rattle.std.specs.Iterator.Runs.{EachRunFrom}
use Rattle.aho_core.specs.Iteration.{AreFinds, IsNextFind}
use Rattle.aho_core.specs.Occurrence.{Occurrence}
use Rattle.aho_core.specs.Patterns.{Patterns}
use Rattle.aho_core.specs.Search.{Search, plain_search}

-- after a match the search goes on where it ended; after none it is done
abbrev pub search_after : Search → Option Occurrence → Search
search_after search None = record search { start = suc search.end }
search_after search (Some m) = record search { start = m.end }

-- the same search from one place further on
abbrev pub from_next_place : Search → Search
from_next_place search = record search { start = suc search.start }

-- where the last match ended, once this was given
abbrev pub last_after : Option ℕ → Option Occurrence → Option ℕ
last_after last None = last
last_after last (Some m) = Some m.end

-- whether the last match ended at this place
abbrev pub ended_at : Option ℕ → ℕ → Bool
ended_at None place = false
ended_at (Some last) place = nat_eq last place

-- the places where a further match may end: those from the start of the search on, but not where the last match ended
abbrev pub places_left : Search → Option ℕ → ℕ
places_left search last = search.end + 1 - search.start - cond (ended_at last search.start) 1 0

-- what was given is the next find, whatever patterns the automaton is of, and the search goes on after it
pub record GivesNext (IsOf : Patterns → Type 0) (search : Search) (last : Option ℕ) (found : Option Occurrence) (search' : Search) (last' : Option ℕ) : Type 0 where
  pub next : (p : Patterns) → IsOf p → IsNextFind p search last found
  -- nothing is left of a search that is done, so that none comes again after none
  pub done : search.end < search.start → found ≡ None
  pub goes_on : search' ≡ search_after search found
  pub ended : last' ≡ last_after last found

-- the matches that iteration gives first: as many as these, and more may follow
abbrev pub AreFirstFinds : Patterns → Search → Option ℕ → List Occurrence → Type 0
AreFirstFinds p search last [] = Unit {0}
AreFirstFinds p search last (m ∷ ms) =
    IsNextFind p search last (Some m) × AreFirstFinds p (record search { start = m.end }) (Some m.end) ms

-- an iterator whose calls give these gives all finds of the search, once it has come to its end
abbrev pub GivesFinds : {S : Type 0} → (S → Option Occurrence → S → Type 0) → Patterns → Search → S → Type 0
GivesFinds gives p search it = EachRunFrom gives it (λ run. run.whole ≡ true → AreFinds p search None run.items)

-- and at any time the first of them
abbrev pub GivesFirstFinds : {S : Type 0} → (S → Option Occurrence → S → Type 0) → Patterns → Search → S → Type 0
GivesFirstFinds gives p search it = EachRunFrom gives it (λ run. AreFirstFinds p search None run.items)

-- the places of a span, its end among them
abbrev pub span_places : Search → ℕ
span_places search = search.end + 1 - search.start

-- so it is of the finds of a haystack, whatever patterns the automaton is of
abbrev pub HoldsOfFinds : (Patterns → Type 0) → List ℕ → (List Occurrence → Type 0) → Type 0
HoldsOfFinds is_of haystack Holds = (p : Patterns) (ms : List Occurrence) → is_of p → AreFinds p (plain_search haystack) None ms → Holds ms
