-- What the iterator over the runs of a cover is seen as, and what its calls promise.
use Rattle.std.specs.Prelude.{◌≡◌, ◌⊎◌, ◌/◌, ℕ, ◌+◌, ◌-◌, ◌*◌, ◌≤◌, min, List, length, Option, slice_get}
use Rattle.std.specs.VecDeque.{deque_capacity}
use Rattle.aho_core.specs.declared.error.MatchErrorKind.{MatchErrorKind}
use Rattle.aho_core.specs.declared.search.Anchored.TheVariants.{No}
use Rattle.aho_core.specs.declared.search.MatchKind.TheVariants.{Standard}
use Rattle.aho_core.specs.Laws.{longest, shortest}
use Rattle.aho_core.specs.Occurrence.{Occurrence}
use Rattle.aho_core.specs.Patterns.{Patterns}
use Rattle.aho_automaton.specs.Covering.{FirstIsSettled, cover_refusal, runs_in}
use Rattle.aho_automaton.specs.CoverStanding.{CoversUpto}
use Rattle.aho_automaton.specs.declared.automaton.Automaton.{Ghosts as Automata}
use Rattle.aho_automaton.specs.declared.cover.CoverIter.{CoverIter}

-- the automaton that it walks, the haystack, and the runs in hand
abbrev pub automaton_in : {A : Type 0} → CoverIter A → A
automaton_in it = it.walk.automaton.now

abbrev pub haystack_in : {A : Type 0} → CoverIter A → List ℕ
haystack_in it = it.haystack.now

-- the look-ups of its walk
abbrev pub look_ups_in : {A : Type 0} → CoverIter A → ℕ
look_ups_in it = it.walk.work

abbrev pub runs_of : {A : Type 0} → CoverIter A → List Occurrence
runs_of it = it.hand.runs.items

-- the first run in hand can be given: it is settled, or nothing is left to read
abbrev pub IsReadyToGive : {A : Type 0} → CoverIter A → Type 0
IsReadyToGive it = (it.at ≡ length (haystack_in it)) ⊎ FirstIsSettled it.far it.at (runs_of it)

-- why an automaton covers nothing
abbrev pub cover_refusal_of : {A : Type 0} → Automata A → A → Option MatchErrorKind
cover_refusal_of automata a = cover_refusal (automata.kind a) (automata.lengths a) (automata.start a No)

-- n runs were given
abbrev pub HasGivenRuns : {A : Type 0} → Automata A → CoverIter A → Patterns → ℕ → Type 0
HasGivenRuns automata it p n = CoversUpto automata (automaton_in it) (haystack_in it) p it.sid it.at (runs_of it) n

-- it may be called
pub record CanCover {A : Type 0} (automata : Automata A) (it : CoverIter A) : Type 0 where
  pub standard : automata.kind (automaton_in it) ≡ Standard
  pub no_empty : 1 ≤ shortest (automata.lengths (automaton_in it))
  pub far_is : it.far ≡ longest (automata.lengths (automaton_in it))
  pub stands : (p : Patterns) × (n : ℕ) × automata.is_of (automaton_in it) p × HasGivenRuns automata it p n
  pub roomy : deque_capacity it.hand.runs ≡ it.far / 2 + 1
  pub cheap : it.walk.work + automata.depth (automaton_in it) it.sid ≤ 2 * it.at

-- how many runs may still come at most
abbrev pub runs_left : {A : Type 0} → CoverIter A → ℕ
runs_left it = length (runs_of it) + (length (haystack_in it) - it.at)

-- the same automaton and haystack
pub record IsOver {A : Type 0} (it it' : CoverIter A) : Type 0 where
  pub same_automaton : automaton_in it' ≡ automaton_in it
  pub same_haystack : haystack_in it' ≡ haystack_in it

-- some bytes more were read, and no run was given
pub record ReadsFurther {A : Type 0} (automata : Automata A) (it it' : CoverIter A) : Type 0 where
  pub over : IsOver it it'
  pub given : (p : Patterns) (n : ℕ) → automata.is_of (automaton_in it) p → HasGivenRuns automata it p n → HasGivenRuns automata it' p n
  pub no_more : runs_left it' ≤ runs_left it

-- with n given a call gives the run numbered n, or none where all were given
pub record GivesRun {A : Type 0} (automata : Automata A) (it : CoverIter A) (given : Option Occurrence) (it' : CoverIter A) : Type 0 where
  pub over : IsOver it it'
  pub given_is : (p : Patterns) (n : ℕ) → automata.is_of (automaton_in it) p
      → HasGivenRuns automata it p n → given ≡ slice_get (runs_in p (haystack_in it)) n
  pub goes_on : (p : Patterns) (n : ℕ) → automata.is_of (automaton_in it) p → HasGivenRuns automata it p n
      → HasGivenRuns automata it' p (min (n + 1) (length (runs_in p (haystack_in it))))
