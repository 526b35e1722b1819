-- What a walk backward is led to, and what its states tell.
use Rattle.std.specs.Prelude.{◌≡◌, ℕ, ◌+◌, ◌-◌, ◌<◌, ◌≤◌, true, EachIndex, List, [], ◌∷◌, ◌++◌, Option, Some, None, drop, length, reverse, slice_index}
use Rattle.aho_core.specs.declared.search.Anchored.TheVariants.{No, Yes}
use Rattle.aho_core.specs.declared.search.Span.{Span}
use Rattle.aho_core.specs.Best.{IsBestOrNone}
use Rattle.aho_core.specs.Failure.{is_leftmost}
use Rattle.aho_core.specs.Iteration.{AreFinds}
use Rattle.aho_core.specs.Laws.{Fits}
use Rattle.aho_core.specs.Occurrence.{Occurrence, occurrence}
use Rattle.aho_core.specs.Occurs.{Occurs}
use Rattle.aho_core.specs.Patterns.{Patterns}
use Rattle.aho_core.specs.Search.{plain_search}
use Rattle.aho_laws.specs.CutLaws.{AreFindsOf, AreFindsWithin, NoneIsEmpty}
use Rattle.aho_automaton.specs.declared.automaton.Automaton.{Ghosts as Automata}
use Rattle.aho_backward.specs.Turned.{AreLeading, turned}

-- the automaton is of the leading patterns turned round, each under its place among the numbers given; the patterns have a
-- leftmost kind, and none is empty
pub record IsTurnedFrom {A : Type 0} (G : Automata A) (a : A) (given : List ℕ) (p : Patterns) : Type 0 where
  pub leftmost : is_leftmost p.kind ≡ true
  pub full : NoneIsEmpty p
  pub leading : AreLeading p given
  pub of : G.is_of a (turned p given)

-- of states, the last first, the one at a place
abbrev pub state_back : List ℕ → ℕ → ℕ
state_back states place = slice_index states (length states - 1 - place)

-- a walk over the bytes from the last to the first was led to these states: at each place the state is held after the bytes from
-- the last down to that place
pub record AreHeldBack {A : Type 0} (G : Automata A) (a : A) (bytes states : List ℕ) : Type 0 where
  pub one_each : length states ≡ length bytes
  pub valid : EachIndex bytes (λ place. G.valid a (state_back states place))
  pub held : (q : Patterns) → G.is_of a q
      → EachIndex bytes (λ place. G.held a q No (reverse (drop place bytes)) (state_back states place))

-- what a state's list tells at a place: its first pattern begins there, under the number that it was given
abbrev pub told_back : List ℕ → List ℕ → ℕ → List ℕ → Option Occurrence
told_back given lengths place [] = None
told_back given lengths place (k ∷ ks) = Some (occurrence place (place + slice_index lengths k) (slice_index given k))

-- a state tells the best of all patterns that begin at a place of a haystack
pub record TellsAt {A : Type 0} (G : Automata A) (a : A) (given : List ℕ) (p : Patterns) (haystack : List ℕ) (place sid : ℕ) : Type 0 where
  pub valid : G.valid a sid
  pub fits : Fits (G.lengths a) (length haystack - place) (G.list a sid)
  pub best : IsBestOrNone p.kind (Occurs p Yes haystack place (length haystack)) (told_back given (G.lengths a) place (G.list a sid))

-- so does each state of a block, at its place; the first state is that at the block's start
pub record TellsBlock {A : Type 0} (G : Automata A) (a : A) (given : List ℕ) (block : Span) (states : List ℕ) (p : Patterns) (haystack : List ℕ) : Type 0 where
  pub leftmost : is_leftmost p.kind ≡ true
  pub full : NoneIsEmpty p
  pub one_each : length given ≡ length (G.lengths a)
  pub within : block.end ≤ length haystack
  pub covers : block.end ≤ block.start + length states
  pub tells : (place : ℕ) → block.start ≤ place → place < block.end
      → TellsAt G a given p haystack place (state_back states (place - block.start))

-- these finds, and those from a place on behind them, are all finds of a haystack
abbrev pub FindsUpTo : Patterns → List ℕ → ℕ → List Occurrence → Type 0
FindsUpTo p haystack place found = (ms : List Occurrence)
    → AreFindsWithin p haystack place (length haystack) ms → AreFindsOf p haystack (found ++ ms)

-- so it is said of all finds of a haystack, by each patterns that the automaton is turned from
abbrev pub ForTurnedFinds : {A : Type 0} → Automata A → A → List ℕ
    → List ℕ → ((List Occurrence → Type 0) → Type 0) → Type 0
ForTurnedFinds G a given haystack Says = (p : Patterns)
    → IsTurnedFrom G a given p → Says (AreFinds p (plain_search haystack) None)
