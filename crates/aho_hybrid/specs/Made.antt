-- What a `Hybrid` is that is made from an `NFA`: which of its states have rows, and at which a search has to look.
use Rattle.std.specs.Prelude.{◌≡◌, ℕ, ◌-◌, ◌||◌, ◌&&◌, not, List, length, nat_eq, nat_lt, Bool, Option, is_some, IsOk}
use Rattle.aho_core.specs.Held.{held_after}
use Rattle.aho_core.specs.Patterns.{Patterns}
use Rattle.aho_core.specs.Step.{depth_of}
use Rattle.aho_core.specs.declared.search.Anchored.TheVariants.{No}
use Rattle.aho_prefilter.specs.declared.prefilter.Searcher.{Searcher}
use Rattle.aho_automaton.specs.declared.automaton.Automaton.{Ghosts}
use Rattle.aho_corasick.specs.ReadOut.{classes_of, states_of}
use Rattle.aho_corasick.specs.declared.noncontiguous.NFA.{NFA}
use Rattle.aho_hybrid.specs.Filled.{FitIndexes, HasSizes, IsRowDepth}
use Rattle.aho_hybrid.specs.Layout.{IsHeldIn, Layout, depth_below_rows, is_marked_number, is_row, is_special_number, list_in}
use Rattle.aho_hybrid.specs.declared.hybrid.Hybrid.{Hybrid}

-- exactly the states down to this depth have rows, and the record of each other one tells how much deeper it is: by the states that
-- are held after words, each as deep as its own word is long
pub record HasRowsDownTo (p : Patterns) (row_depth : ℕ) (t : Layout) : Type 0 where
  pub rows : (word : List ℕ) (sid : ℕ) → IsHeldIn t p No word sid → is_row t sid ≡ not (nat_lt row_depth (depth_of (held_after p No word)))
  pub records : (word : List ℕ) (sid : ℕ) → IsHeldIn t p No word sid → depth_below_rows t sid ≡ depth_of (held_after p No word) - row_depth

-- the states of an `NFA` with rows of at most so many bytes: those down to the greatest depth at which the rows are not larger have
-- one, and no size is above the greatest index
pub record IsLaidOutOf (nfas : Ghosts NFA) (nfa : NFA) (budget : ℕ) (t : Layout) : Type 0 where
  pub row_depth : ℕ
  pub greatest : IsRowDepth (states_of nfa) (classes_of nfa) budget row_depth
  pub fits : FitIndexes nfa row_depth
  pub sized : HasSizes nfa row_depth t
  pub rows : (p : Patterns) → nfas.is_of nfa p → HasRowsDownTo p row_depth t

-- by their numbers those states are marked that are dead or list a pattern, and special beside them is only the start, where a search
-- may skip from it
pub record AreMarkedIn (skips : Bool) (p : Patterns) (t : Layout) : Type 0 where
  pub special : (word : List ℕ) (sid : ℕ) → IsHeldIn t p No word sid
      → is_special_number t sid ≡ (nat_eq sid 0 || (nat_lt 0 (length (list_in t sid)) || (skips && nat_eq sid t.start)))
  pub marked : (word : List ℕ) (sid : ℕ) → IsHeldIn t p No word sid
      → is_marked_number t sid ≡ (nat_eq sid 0 || nat_lt 0 (length (list_in t sid)))

-- so it is said of an automaton: a state that is held is special just where it is dead, lists a pattern or, with a prefilter, is a start
pub record IsMarkedExactly {A : Type 0} (automata : Ghosts A) (a : A) (p : Patterns) : Type 0 where
  pub special : (word : List ℕ) (sid : ℕ) → automata.held a p No word sid
      → automata.special a sid ≡ (automata.dead a sid || (nat_lt 0 (length (automata.list a sid)) || (is_some (automata.prefilter a) && automata.starts a sid)))
  pub marked : (word : List ℕ) (sid : ℕ) → automata.held a p No word sid
      → automata.marked a sid ≡ (automata.dead a sid || nat_lt 0 (length (automata.list a sid)))

-- the kind and the lengths are those of the `NFA`, the prefilter is this one, and unanchored searches have a start
pub record TakesAfter (nfas : Ghosts NFA) (hybrids : Ghosts Hybrid) (nfa : NFA) (prefilter : Option Searcher) (made : Hybrid) : Type 0 where
  pub held : hybrids.prefilter made ≡ prefilter
  pub kind : hybrids.kind made ≡ nfas.kind nfa
  pub lengths : hybrids.lengths made ≡ nfas.lengths nfa
  pub starts : IsOk (hybrids.start made No)

-- what is made of an `NFA`, with rows of at most so many bytes and with this prefilter
pub record IsMadeOf (nfas : Ghosts NFA) (hybrids : Ghosts Hybrid) (nfa : NFA) (budget : ℕ) (prefilter : Option Searcher) (made : Hybrid) : Type 0 where
  pub takes : TakesAfter nfas hybrids nfa prefilter made
  pub laid_out : IsLaidOutOf nfas nfa budget made.rows
  pub marks : (p : Patterns) → nfas.is_of nfa p → IsMarkedExactly hybrids made p
