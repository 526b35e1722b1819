-- What a walk over further bytes of a covered stream promises.
use Rattle.std.specs.Prelude.{◌≡◌, ℕ, ◌+◌, ◌-◌, ◌<◌, ◌≤◌, List, [], Option, None, Some, length, slice_range}
use Rattle.aho_core.specs.declared.search.Anchored.TheVariants.{No}
use Rattle.aho_core.specs.Laws.{told}
use Rattle.aho_core.specs.Occurrence.{Occurrence}
use Rattle.aho_core.specs.Occurs.{Occurs}
use Rattle.aho_core.specs.Patterns.{Patterns}
use Rattle.aho_core.specs.Progress.{StandsAt}
use Rattle.aho_core.specs.Search.{plain_search}
use Rattle.aho_automaton.specs.declared.automaton.Automaton.{Ghosts as Automata}
use Rattle.aho_cover.specs.declared.walk.Reached.{Reached}

-- what ends behind a place of these bytes begins at another or behind it
abbrev pub NoneReaches : Patterns → List ℕ → ℕ → ℕ → Type 0
NoneReaches p haystack at place = (m : Occurrence) → Occurs p No haystack 0 (length haystack) m → at < m.end → place ≤ m.start

-- a state is held after the bytes from some place of a text up to another, and what begins before the first ends before it
abbrev pub StandsIn : {A : Type 0} → Automata A → A → Patterns → List ℕ → ℕ → ℕ → Type 0
StandsIn G a p haystack sid at = StandsAt (λ n. Unit {0}) (G.held a p) p (plain_search haystack) sid at

-- these are the next bytes of a text behind a place where a state is held
pub record LiesAhead {A : Type 0} (G : Automata A) (a : A) (at sid : ℕ) (bytes : List ℕ) (p : Patterns) (haystack : List ℕ) : Type 0 where
  pub of : G.is_of a p
  pub within : at + length bytes ≤ length haystack
  pub bytes_are : bytes ≡ slice_range haystack at (at + length bytes)
  pub stands : StandsIn G a p haystack sid at

-- how many bytes were walked before a match was told
abbrev pub walked_before : Option Occurrence → ℕ → ℕ
walked_before None count = count
walked_before (Some m) count = count - 1

abbrev pub told_before : Reached → ℕ
told_before reached = walked_before reached.found reached.count

-- after the bytes that were walked the state is held. It tells what was found, and none of those before it tells any
pub record Reaches {A : Type 0} (G : Automata A) (a : A) (p : Patterns) (haystack : List ℕ) (at : ℕ) (reached : Reached) : Type 0 where
  pub stands : StandsIn G a p haystack reached.sid (at + reached.count)
  pub told_is : reached.found ≡ told (G.lengths a) No 0 (at + reached.count) (G.list a reached.sid)
  pub plain : (k : ℕ) → at < k → k ≤ at + told_before reached → (sid : ℕ) × StandsIn G a p haystack sid k × (G.list a sid ≡ [])

-- in some text these are the next bytes
abbrev pub LiesAheadOfSome : {A : Type 0} → Automata A → A → ℕ → ℕ → List ℕ → Type 0
LiesAheadOfSome G a at sid bytes = (p : Patterns) × (haystack : List ℕ) × LiesAhead G a at sid bytes p haystack

-- a walk on from there, whatever the text is
abbrev pub ReachesFrom : {A : Type 0} → Automata A → A → ℕ → ℕ → List ℕ → Reached → Type 0
ReachesFrom G a at sid bytes reached = (p : Patterns) (haystack : List ℕ)
    → LiesAhead G a at sid bytes p haystack → Reaches G a p haystack at reached
