-- When one automaton is a clone of another.
use Rattle.std.specs.Prelude.{◌≡◌, ◌↔◌, ℕ, List}
use Rattle.aho_core.specs.declared.search.Anchored.{Anchored}
use Rattle.aho_core.specs.Patterns.{Patterns}
use Rattle.aho_automaton.specs.declared.automaton.Automaton.{Ghosts}
use Rattle.aho_corasick.specs.ReadOut.{states_of, special_of, classes_of, dense_rows_of}
use Rattle.aho_corasick.specs.declared.noncontiguous.NFA.{NFA}

-- by the members of its `Automaton` the clone has the numbers, sizes and meaning of its original: it is of the same patterns,
-- its states have the same numbers, are held after the same words, reach back as far and tell the same, its steps lead and cost the
-- same, its prefilter makes the same search, and streams skip by it alike
pub record IsCloneOf {S : Type 0} (A : Ghosts S) (clone original : S) : Type 0 where
  pub same_patterns : (p : Patterns) → A.is_of original p ↔ A.is_of clone p
  pub same_held : (p : Patterns) (anchored : Anchored) (word : List ℕ) (sid : ℕ) → A.held original p anchored word sid ↔ A.held clone p anchored word sid
  pub same_valid : (sid : ℕ) → A.valid original sid ↔ A.valid clone sid
  pub same_kind : A.kind clone ≡ A.kind original
  pub same_lengths : A.lengths clone ≡ A.lengths original
  pub same_list : A.list clone ≡ A.list original
  pub same_dead : A.dead clone ≡ A.dead original
  pub same_special : A.special clone ≡ A.special original
  pub same_marked : A.marked clone ≡ A.marked original
  pub same_starts : A.starts clone ≡ A.starts original
  pub same_depth : A.depth clone ≡ A.depth original
  pub same_reach : A.reach clone ≡ A.reach original
  pub same_next : A.next clone ≡ A.next original
  pub same_lookups : A.lookups clone ≡ A.lookups original
  pub same_start : A.start clone ≡ A.start original
  pub same_memory : A.memory clone ≡ A.memory original
  pub same_prefilter : A.prefilter clone ≡ A.prefilter original
  pub same_skips_streams : A.skips_streams clone ≡ A.skips_streams original

-- what is read out of the clone is what is read out of its original; the lengths of the patterns are a member of `Automaton`
pub record HasReadOutOf (clone original : NFA) : Type 0 where
  pub same_states : states_of clone ≡ states_of original
  pub same_special : special_of clone ≡ special_of original
  pub same_classes : classes_of clone ≡ classes_of original
  pub same_rows : dense_rows_of clone ≡ dense_rows_of original
