-- What is read out of an automaton, state by state, and what it means in the words of the patterns.
use Rattle.std.specs.Prelude.{◌≡◌, ℕ, ◌<◌, Bool, List, [], ◌∷◌, true, false, nat_eq, Option, Some, None, if◌then◌else◌}
use Rattle.aho_core.specs.Failure.{failure_of}
use Rattle.aho_core.specs.Patterns.{Patterns}
use Rattle.aho_core.specs.Trie.{is_node}
use Rattle.aho_table.specs.Table.{State, dead_id, fail_id, lists_transition, transition_at}
use Rattle.aho_build.specs.Automaton.{IsAutomaton, IsOf, missing_from}
use Rattle.aho_build.specs.StateNames.{name_at}
use Rattle.aho_build.specs.Trie.{longer}
use Rattle.aho_build.specs.declared.special.Special.{Special}
use Rattle.aho_corasick.specs.declared.noncontiguous.NFA.{NFA}

-- the states that are read out: for each its transitions, its patterns, its link and its depth
abbrev pub states_of : NFA → List State
states_of nfa = nfa.table.states

-- the states where searches start, and the other numbers of special states
abbrev pub special_of : NFA → Special
special_of nfa = nfa.special

-- the borders between the classes of bytes
abbrev pub classes_of : NFA → List Bool
classes_of nfa = nfa.table.classes

-- for each state, by its number, whether it has a dense row, by which a step from it is one look
abbrev pub dense_rows_of : NFA → List Bool
dense_rows_of nfa = nfa.table.rows

-- it is the automaton of the patterns, and these are the words of its states
abbrev pub IsNaming : NFA → Patterns → List (Option (List ℕ)) → Type 0
IsNaming nfa p names = IsOf p nfa.match_kind nfa.pattern_lens.items nfa.special nfa.table.states × IsAutomaton nfa.special p names nfa.table.states

-- so it is by whatever patterns the automaton is of and whatever naming of its states
abbrev pub ByWords : NFA → (Patterns → List (Option (List ℕ)) → Type 0) → Type 0
ByWords nfa says = (p : Patterns) (names : List (Option (List ℕ))) → IsNaming nfa p names → says p names

-- the word that a state stands for: its name, and the empty word for the anchored start, which has none; no word for DEAD and
-- FAIL
abbrev pub word_in : Special → List (Option (List ℕ)) → ℕ → Option (List ℕ)
word_in special names sid = if nat_eq sid special.start_anchored_id then Some [] else name_at names sid

abbrev pub word_of_state : NFA → List (Option (List ℕ)) → ℕ → Option (List ℕ)
word_of_state nfa names sid = word_in nfa.special names sid

-- where a word leads on failure, and none where there is no word or it is empty
abbrev pub link_of : Patterns → Option (List ℕ) → Option (List ℕ)
link_of p None = None
link_of p (Some []) = None
link_of p (Some (byte ∷ word)) = failure_of p (byte ∷ word)

-- the state that a list of transitions has for a byte, if it has one
abbrev pub entry_at : List (ℕ × ℕ) → ℕ → Option ℕ
entry_at transitions byte = if lists_transition transitions byte then Some (transition_at transitions byte) else None

-- what a state lists for a byte that leads its word to no node: nothing, but at a start. The unanchored one lists itself, or
-- DEAD where nothing that starts later is looked for, and the anchored one FAIL
abbrev pub other_entry : Special → Patterns → ℕ → List ℕ → Option ℕ
other_entry special p sid [] = Some (if nat_eq sid special.start_anchored_id then fail_id else missing_from special.start_unanchored_id p [])
other_entry special p sid (byte ∷ word) = None

-- the transitions of a state are those of its word
pub record AreOfWord (special : Special) (p : Patterns) (names : List (Option (List ℕ))) (sid : ℕ) (transitions : List (ℕ × ℕ)) : Type 0 where
  -- a byte that leads to a node is listed with the node's state
  pub to_node : (word : List ℕ) (byte : ℕ) → word_in special names sid ≡ Some word → byte < 256 → is_node p (longer p word byte) ≡ true
      → (next : ℕ) × (entry_at transitions byte ≡ Some next) × (name_at names next ≡ Some (longer p word byte))
  pub to_other : (word : List ℕ) (byte : ℕ) → word_in special names sid ≡ Some word → byte < 256 → is_node p (longer p word byte) ≡ false
      → entry_at transitions byte ≡ other_entry special p sid word
  pub of_dead : (byte : ℕ) → sid ≡ dead_id → byte < 256 → entry_at transitions byte ≡ Some dead_id
  pub of_fail : sid ≡ fail_id → transitions ≡ []

abbrev pub LeadsAsWord : NFA → Patterns → List (Option (List ℕ)) → ℕ → List (ℕ × ℕ) → Type 0
LeadsAsWord nfa p names sid transitions = AreOfWord nfa.special p names sid transitions
