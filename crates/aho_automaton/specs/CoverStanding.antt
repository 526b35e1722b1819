-- How far a cover of a haystack has come.
use Rattle.std.specs.Prelude.{◌≡◌, ◌⊎◌, ℕ, ◌+◌, ◌≤◌, List, ◌++◌, length}
use Rattle.aho_core.specs.Laws.{longest}
use Rattle.aho_core.specs.Listing.{IsMember}
use Rattle.aho_core.specs.Occurrence.{Occurrence}
use Rattle.aho_core.specs.Patterns.{Patterns}
use Rattle.aho_core.specs.Progress.{StandsAt}
use Rattle.aho_core.specs.Search.{plain_search}
use Rattle.aho_laws.specs.CoverLaws.{runs_upto}
use Rattle.aho_automaton.specs.declared.automaton.Automaton.{Ghosts as Automata}

-- the haystack was read up to a place, and n runs were given: those that nothing later can touch. The others are in hand
pub record CoversUpto {A : Type 0} (automata : Automata A) (a : A) (haystack : List ℕ) (p : Patterns) (sid at : ℕ) (hand : List Occurrence) (n : ℕ) : Type 0 where
  pub stands : StandsAt (automata.valid a) (automata.held a p) p (plain_search haystack) sid at
  pub given : List Occurrence
  pub counted : length given ≡ n
  pub runs : runs_upto p haystack at ≡ given ++ hand
  pub settled : (at ≡ length haystack) ⊎ ((x : Occurrence) → IsMember given x → x.end + longest (automata.lengths a) ≤ at)
  pub near : (x : Occurrence) → IsMember hand x → at ≤ x.end + longest (automata.lengths a)
