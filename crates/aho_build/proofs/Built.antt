-- The one place where the order in which a build makes its states meets the laws: by the numbers that it gave them the table
-- that it made is an automaton.
use Rattle.std.proofs.Common.{◌≡◌, ℕ, List, [], ◌∷◌, ◌∙◌, ap, arith, inl, inr}
use Rattle.std.specs.Prelude.{Option, Some, MatchBool}
use Rattle.std.proofs.lemmas.Bool.{cases_eq}
use Rattle.aho_core.specs.Patterns.{Patterns}
use Rattle.aho_core.specs.Trie.{is_node}
use Rattle.aho_table.specs.Table.{State, next_in}
use Rattle.aho_build.specs.Automaton.{AreNodes, IsAutomaton, missing_from}
use Rattle.aho_build.specs.Starts.{root_loop}
use Rattle.aho_build.specs.Built.{IsBuilt}
use Rattle.aho_build.specs.declared.special.Special.{Special}
use Rattle.aho_build.specs.FirstStates.{root_id, with_first_starts}
use Rattle.aho_build.specs.StateNames.{name_at}
use Rattle.aho_build.specs.Trie.{longer, missing_at, IsTrie}

-- the whole trie has its states named by nodes
pub AreNodes-trie : (p : Patterns) (names : List (Option (List ℕ))) (states : List State) → IsTrie p (is_node p) (root_loop p) names states → AreNodes root_id p names states
AreNodes-trie p names states trie = record {
  sized = trie.sized;
  dead = trie.dead;
  fail = trie.fail;
  root = trie.root;
  unique = trie.unique;
  words = trie.words;
  depths = trie.depths;
  transitions = λ i word byte e small. transition_of i word byte (trie.transitions i word byte e small);
  dead_loop = trie.dead_loop;
}
  where
    transition_of : (i : ℕ) (word : List ℕ) (byte : ℕ) → MatchBool (is_node p (longer p word byte)) (name_at names (next_in states i byte) ≡ Some (longer p word byte)) (next_in states i byte ≡ missing_at (root_loop p) word)
        → MatchBool (is_node p (longer p word byte)) (name_at names (next_in states i byte) ≡ Some (longer p word byte)) (next_in states i byte ≡ missing_from root_id p word)
    transition_of i [] byte h = h
    transition_of i (x ∷ word) byte h = h

-- what was built is an automaton
pub IsAutomaton-built : (special : Special) (p : Patterns) (names : List (Option (List ℕ))) (states : List State) → IsBuilt p names states → IsAutomaton (with_first_starts special) p names states
IsAutomaton-built special p names states b = record {
  nodes = AreNodes-trie p names states b.trie;
  dead = b.dead;
  anchored = record {
    unnamed = b.trie.anchored;
    not_dead = λ e. omega arith;
    not_fail = λ e. omega arith;
    next = b.anchored.next;
    matches = b.anchored.matches;
    fail = b.anchored.fail;
    depth = b.anchored.depth;
  };
  root_fail = b.root_fail;
  root_matches = b.root_matches;
  linked = b.linked;
  complete = λ i below not_dead not_fail not_anchored. elim (cases_eq i 2) [
    | inl two ↦ ([], ap (name_at names) two ∙ b.trie.root)
    | inr other ↦ b.trie.complete i (omega (arith, not_dead, not_fail, not_anchored, other)) below
  ];
}
