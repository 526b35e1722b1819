-- A searcher by a walk backward, and of which patterns it is.
use Rattle.std.specs.Prelude.{ℕ, List, None, IsOk}
use Rattle.aho_core.specs.Iteration.{AreFinds}
use Rattle.aho_core.specs.Occurrence.{Occurrence}
use Rattle.aho_core.specs.Search.{plain_search}
use Rattle.aho_core.specs.declared.search.Anchored.TheVariants.{No}
use Rattle.aho_core.specs.Patterns.{Patterns}
use Rattle.aho_automaton.specs.declared.automaton.Automaton.{Ghosts as Automata}
use Rattle.aho_backward.specs.declared.backward.Backward.{Backward}
use Rattle.aho_backward.specs.Backward.{IsTurnedFrom}

-- it gives the finds of these patterns
pub record IsBackwardOf {A : Type 0} (G : Automata A) (b : Backward A) (p : Patterns) : Type 0 where
  pub turned_from : IsTurnedFrom G b.automaton b.given.items p
  pub starts : IsOk (G.start b.automaton No)

-- so it is said of all finds of a haystack, by each patterns that it gives the finds of
abbrev pub ForItsFinds : {A : Type 0} → Automata A → Backward A → List ℕ → ((List Occurrence → Type 0) → Type 0) → Type 0
ForItsFinds G b haystack Says = (p : Patterns) → IsBackwardOf G b p → Says (AreFinds p (plain_search haystack) None)
