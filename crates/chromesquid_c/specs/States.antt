-- The states of a searcher's automaton by their numbers, and what is told of one.
use Rattle.std.specs.Prelude.{◌≡◌, ◌≤◌, ℕ, List, Ok, length, nat_lt}
use Rattle.aho_core.specs.Laws.{Reads}
use Rattle.aho_core.specs.Numbers.{greatest_index}
use Rattle.aho_core.specs.Patterns.{Patterns}
use Rattle.aho_core.specs.declared.search.Anchored.{Anchored}
use Rattle.chromesquid.specs.Searcher.{Searcher, lengths_of, match_kind_of}
use Rattle.chromesquid.specs.contracts.automaton.AhoCorasickAutomaton.TheImpl.{ghosts}
use Rattle.chromesquid_c.specs.declared.options.CsState.{CsState}

-- the number is that of a state
abbrev pub HasState : Searcher → ℕ → Type 0
HasState searcher state = (state ≤ greatest_index) × ghosts.valid searcher state

-- a search of this anchoring begins in this state
abbrev pub IsBegunBy : Searcher → Anchored → ℕ → Type 0
IsBegunBy searcher anchored state = ghosts.start searcher anchored ≡ Ok state

-- the state may be held after these bytes were read
abbrev pub IsHeldAfter : Searcher → Patterns → Anchored → List ℕ → ℕ → Type 0
IsHeldAfter searcher p anchored word state = ghosts.held searcher p anchored word state

-- the state that a byte leads to
abbrev pub next_told : Searcher → Anchored → ℕ → ℕ → ℕ
next_told searcher anchored state byte = ghosts.next searcher anchored state byte

-- the patterns that a state lists, the best first
abbrev pub patterns_listed : Searcher → ℕ → List ℕ
patterns_listed searcher state = ghosts.list searcher state

-- what the states tell of the bytes after which they may be held: the laws of an automaton of these patterns
abbrev pub TellsByStates : Searcher → Patterns → Type 0
TellsByStates searcher p =
    Reads p (match_kind_of searcher) (lengths_of searcher) (IsHeldAfter searcher p) (patterns_listed searcher) (ghosts.dead searcher) (ghosts.starts searcher)

-- what is told of a state
abbrev pub state_told : Searcher → ℕ → CsState
state_told searcher state = record {
  is_dead = ghosts.dead searcher state;
  is_match = nat_lt 0 (length (patterns_listed searcher state));
  is_start = ghosts.starts searcher state;
  is_special = ghosts.special searcher state;
  patterns = length (patterns_listed searcher state);
}
