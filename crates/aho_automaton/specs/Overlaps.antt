-- What the steps of an overlapping search promise.
use Rattle.std.specs.Prelude.{◌≡◌, ℕ, ◌+◌, ◌-◌, ◌*◌, ◌<◌, ◌≤◌, min, Bool, true, false, List, [], length, Option, Some, None, Result, Ok, Err, IfOk, take, slice_get, slice_index}
use Rattle.std.specs.Iterator.Runs.{EachRunFrom}
use Rattle.aho_core.specs.declared.error.MatchErrorKind.{MatchErrorKind}
use Rattle.aho_core.specs.declared.search.Anchored.{Anchored}
use Rattle.aho_core.specs.declared.search.Anchored.TheVariants.{No, Yes}
use Rattle.aho_core.specs.declared.search.MatchKind.{MatchKind}
use Rattle.aho_core.specs.declared.search.MatchKind.TheVariants.{Standard}
use Rattle.aho_core.specs.Occurrence.{Occurrence, occurrence}
use Rattle.aho_core.specs.Overlapping.{all_occurrences, overlapping}
use Rattle.aho_core.specs.Patterns.{Patterns}
use Rattle.aho_core.specs.Progress.{FitsSearch, Progress, StandsAt, listed_at, without_match}
use Rattle.aho_core.specs.Search.{Search}

-- the match of a pattern that ends at a place
abbrev pub ended : List ℕ → ℕ → ℕ → Occurrence
ended lengths at k = occurrence (at - slice_index lengths k) at k

-- nothing that is listed ends after the first place and before the second
abbrev pub NoneEnds : Patterns → Search → ℕ → ℕ → Type 0
NoneEnds p search from upto = (end : ℕ) → from < end → end < upto → listed_at p search end ≡ []

-- from a place the search comes to a later one, or to the end of its span, and nothing that is listed ends on the way
abbrev pub WalksToPlace : (ℕ → Type 0) → (Anchored → List ℕ → ℕ → Type 0) → Patterns → Search → ℕ → Option (ℕ × ℕ) → Type 0
WalksToPlace valid held p search at None = NoneEnds p search at (search.end + 1)
WalksToPlace valid held p search at (Some (sid, place)) =
    (at < place) × StandsAt valid held p search sid place × NoneEnds p search at place

-- nor on the way to where it skips, with the same state
abbrev pub SkipsTo : (ℕ → Type 0) → (Anchored → List ℕ → ℕ → Type 0) → Patterns → Search → ℕ → ℕ → Option ℕ → Type 0
SkipsTo valid held p search sid at None = NoneEnds p search at (search.end + 1)
SkipsTo valid held p search sid at (Some place) = (at ≤ place) × StandsAt valid held p search sid place × NoneEnds p search at (place + 1)

-- an anchored search ends in a dead state; any other goes on
abbrev pub ends_at : Anchored → Bool → Bool
ends_at No dead = false
ends_at Yes dead = dead

-- how many may still be found at most: at each place that is left as many as there are patterns
abbrev pub left_at : ℕ → Search → ℕ → ℕ → ℕ
left_at patterns search at index = patterns * (search.end - at) + (patterns - index)

abbrev pub left_from : ℕ → Search → Option ℕ → ℕ → Option ℕ → ℕ
left_from patterns search None at index = patterns * (search.end + 1 - search.start)
left_from patterns search (Some sid) at None = 0
left_from patterns search (Some sid) at (Some index) = left_at patterns search at index

abbrev pub left : ℕ → Search → Progress → ℕ
left patterns search progress = left_from patterns search progress.id progress.at progress.next_match_index

-- when `next` may be called: the search is not refused, and the state fits it
pub record CanGive {A : Type 0} (is_of : A → Patterns → Type 0) (kind : A → MatchKind) (start : A → Anchored → Result ℕ MatchErrorKind) (valid : A → ℕ → Type 0)
    (held : A → Patterns → Anchored → List ℕ → ℕ → Type 0) (automaton : A) (search : Search) (progress : Progress) : Type 0 where
  pub standard : kind automaton ≡ Standard
  pub first : (sid : ℕ) × (start automaton search.anchored ≡ Ok sid)
  pub fits : (p : Patterns) × (n : ℕ) × is_of automaton p × FitsSearch (valid automaton) (held automaton p) p search progress n

-- a call of `next`: from a state that fits the search with n found it gives the one numbered n, or none where all were found
pub record GivesOverlapping {A : Type 0} (is_of : A → Patterns → Type 0) (valid : A → ℕ → Type 0) (held : A → Patterns → Anchored → List ℕ → ℕ → Type 0)
    (automaton : A) (search : Search) (progress : Progress) (given : Option Occurrence) (automaton' : A) (search' : Search) (progress' : Progress) : Type 0 where
  pub same_automaton : automaton' ≡ automaton
  pub same_search : search' ≡ search
  pub given_is : (p : Patterns) (n : ℕ) → is_of automaton p
      → FitsSearch (valid automaton) (held automaton p) p search progress n → given ≡ slice_get (overlapping p search) n
  pub fits : (p : Patterns) (n : ℕ) → is_of automaton p → FitsSearch (valid automaton) (held automaton p) p search progress n
      → FitsSearch (valid automaton) (held automaton p) p search progress' (min (n + 1) (length (overlapping p search)))

-- an iterator whose calls give these lists all occurrences of the span, once it has come to its end
abbrev pub ListsAll : {S : Type 0} → (S → Option Occurrence → S → Type 0) → Patterns → Search → S → Type 0
ListsAll gives p search it =
    EachRunFrom gives it (λ run. run.whole ≡ true → run.items ≡ all_occurrences p search.haystack search.start search.end)

-- and at any time the first of them
abbrev pub ListsFirst : {S : Type 0} → (S → Option Occurrence → S → Type 0) → Patterns → Search → S → Type 0
ListsFirst gives p search it =
    EachRunFrom gives it (λ run. run.items ≡ take run.len (all_occurrences p search.haystack search.start search.end))

-- the state fits the search, whatever was found
abbrev pub FitsSome : (Patterns → Type 0) → (ℕ → Type 0) → (Patterns → Anchored → List ℕ → ℕ → Type 0) → Search → Progress → Type 0
FitsSome is_of valid held search progress = (p : Patterns) × (n : ℕ) × is_of p × FitsSearch valid (held p) p search progress n

-- from a state that fits the search with n found a call finds the match numbered n, or none where all were found
abbrev pub FindsNext : (Patterns → Type 0) → (ℕ → Type 0) → (Patterns → Anchored → List ℕ → ℕ → Type 0)
    → Search → Progress → Progress → Result (Unit {0}) MatchErrorKind → Type 0
FindsNext is_of valid held search old new result =
    (p : Patterns) (n : ℕ) → is_of p → FitsSearch valid (held p) p search old n
    → IfOk result (λ _. new.mat ≡ slice_get (overlapping p search) n)

-- and then it fits with one more found
abbrev pub FitsNext : (Patterns → Type 0) → (ℕ → Type 0) → (Patterns → Anchored → List ℕ → ℕ → Type 0)
    → Search → Progress → Progress → Result (Unit {0}) MatchErrorKind → Type 0
FitsNext is_of valid held search old new result =
    (p : Patterns) (n : ℕ) → is_of p → FitsSearch valid (held p) p search old n
    → IfOk result (λ _. FitsSearch valid (held p) p search new (min (n + 1) (length (overlapping p search))))

-- where no search has begun, a start that is refused refuses a search that is not done
abbrev pub RefusesFirst : MatchKind → (Anchored → Result ℕ MatchErrorKind) → Search → Progress → Result (Unit {0}) MatchErrorKind → Type 0
RefusesFirst kind start search old result =
    (reason : MatchErrorKind) → kind ≡ Standard → old.id ≡ None → search.start ≤ search.end
    → start search.anchored ≡ Err reason → result ≡ Err reason

-- what is found in a span that starts above its end: nothing, and only the last match is forgotten
abbrev pub FindsNothing : Progress → Progress → Result (Unit {0}) MatchErrorKind → Type 0
FindsNothing old new result = (result ≡ Ok tt) × (new ≡ without_match old)
