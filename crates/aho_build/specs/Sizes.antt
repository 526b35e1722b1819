-- How large the tables of an automaton become: the nodes in the order in which a build meets them, and what is counted of
-- them.
use Rattle.std.specs.Prelude.{List, Some, [], count_by, filter, flat_map, if◌then◌else◌, length, map, nat_eq, nat_lt, not, slice_index, sum_by, take, ℕ, ◌*◌, ◌++◌, ◌+◌, ◌-◌, ◌≡◌}
use Rattle.std.specs.List.{list_any, range_with_len}
use Rattle.aho_core.specs.Bytes.{folded}
use Rattle.aho_core.specs.MatchList.{matches_of}
use Rattle.aho_core.specs.Patterns.{Patterns}
use Rattle.aho_core.specs.Trie.{begins, is_kept, pattern_word}
use Rattle.aho_table.specs.Table.{State, matches_count, transitions_count}

-- the numbers below this one of the patterns that are kept
abbrev pub kept_before : Patterns → ℕ → List ℕ
kept_before p number = filter (is_kept p) (range_with_len 0 number)

-- the prefixes of a word that no kept pattern below this number begins with, from the shortest
abbrev pub new_fronts : Patterns → ℕ → List ℕ → List (List ℕ)
new_fronts p number word =
    filter
    (λ front. not (list_any (λ earlier. begins front (pattern_word p earlier)) (kept_before p number)))
    (map (λ size. take size word) (range_with_len 1 (length word)))

-- those of a pattern
abbrev pub new_nodes : Patterns → ℕ → List (List ℕ)
new_nodes p number = new_fronts p number (pattern_word p number)

-- the nonempty nodes of the kept patterns below this number, each once, in the order in which a build meets them
abbrev pub nodes_before : Patterns → ℕ → List (List ℕ)
nodes_before p number = flat_map (new_nodes p) (kept_before p number)

-- the nonempty nodes
abbrev pub nodes : Patterns → List (List ℕ)
nodes p = nodes_before p (length p.words)

-- the nonempty nodes of the patterns below this number and of the first bytes of one more
abbrev pub nodes_with : Patterns → ℕ → List ℕ → List (List ℕ)
nodes_with p number more = nodes_before p number ++ new_fronts p number more

-- how many bytes lead to a node from the node above it: a letter has two under the case rule
abbrev pub bytes_leading_to : Patterns → List ℕ → ℕ
bytes_leading_to p word = count_by (λ byte. nat_eq (folded p byte) (slice_index word (length word - 1))) (range_with_len 0 256)

-- the transitions into a node: those out of the root are among the 256 that it always has
abbrev pub transitions_for : Patterns → List ℕ → ℕ
transitions_for p word = if nat_lt 1 (length word) then bytes_leading_to p word else 0

-- DEAD, FAIL, the two starts, and the nonempty nodes
abbrev pub states_size : Patterns → ℕ
states_size p = 4 + length (nodes p)

-- the dummy, 256 each for the two starts and DEAD, and those into the nodes
abbrev pub transitions_size : Patterns → ℕ
transitions_size p = 769 + sum_by (transitions_for p) (nodes p)

-- the dummy, and the lists of all nodes, the root's twice, since both starts have it
abbrev pub matches_size : Patterns → ℕ
matches_size p =
    1 + 2 * length (matches_of p (Some [])) + sum_by (λ word. length (matches_of p (Some word))) (nodes p)

-- the table has a state for each of these nodes, the transitions into them, and this many listed patterns
pub record HasNodes (p : Patterns) (words : List (List ℕ)) (kept : ℕ) (states : List State) : Type 0 where
  pub state_count : length states ≡ 4 + length words
  pub transitions : transitions_count states ≡ 769 + sum_by (transitions_for p) words
  pub matches : matches_count states ≡ 1 + kept

-- the trie of the patterns below this number has the states, transitions and matches that it should
abbrev pub IsCountedTrie : Patterns → ℕ → List State → Type 0
IsCountedTrie p number states = HasNodes p (nodes_before p number) (length (kept_before p number)) states

-- the tables of states, transitions and matches of an automaton of the patterns
pub record IsSized (p : Patterns) (states : List State) : Type 0 where
  pub state_count : length states ≡ states_size p
  pub transitions : transitions_count states ≡ transitions_size p
  pub matches : matches_count states ≡ matches_size p

-- the stated bytes of one state, transition, listed pattern, entry of a dense row and length of a pattern, whatever a vector takes
abbrev pub state_bytes : ℕ
state_bytes = 20

abbrev pub transition_bytes : ℕ
transition_bytes = 9

abbrev pub match_bytes : ℕ
match_bytes = 8

abbrev pub entry_bytes : ℕ
entry_bytes = 4

abbrev pub length_bytes : ℕ
length_bytes = 4

-- the bytes of tables with so many of each
abbrev pub tables_bytes : ℕ → ℕ → ℕ → ℕ → ℕ → ℕ
tables_bytes states transitions matches entries lengths =
    state_bytes * states + transition_bytes * transitions + match_bytes * matches + entry_bytes * entries + length_bytes * lengths
