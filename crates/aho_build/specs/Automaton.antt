-- What it means that a table is the automaton of some patterns, whatever numbers its states have, and which of its states
-- may be held after a word.
use Rattle.std.specs.Prelude.{◌≡◌, ◌≢◌, ℕ, ◌+◌, ◌<◌, ◌||◌, ◌&&◌, if◌then◌else◌, Bool, true, List, [], ◌∷◌, map, length, nat_eq, nat_lt, Option, Some, None, MatchBool}
use Rattle.aho_core.specs.declared.search.Anchored.{Anchored}
use Rattle.aho_core.specs.declared.search.Anchored.TheVariants.{No, Yes}
use Rattle.aho_core.specs.declared.search.MatchKind.{MatchKind}
use Rattle.aho_core.specs.Bytes.{folded, folded_word}
use Rattle.aho_core.specs.Failure.{is_cut}
use Rattle.aho_core.specs.Held.{held_after}
use Rattle.aho_core.specs.MatchList.{own_matches}
use Rattle.aho_core.specs.Patterns.{Patterns}
use Rattle.aho_core.specs.Step.{follow, lookups}
use Rattle.aho_core.specs.Trie.{is_node}
use Rattle.aho_table.specs.Table.{State, Tables, dead_id, fail_id, new_state, state_at, lists_byte, next_in, fail_in, depth_in, matches_in, transitions_count, matches_count}
use Rattle.aho_prefilter.specs.Prefilter.{prefilter_bytes}
use Rattle.aho_build.specs.declared.settings.Settings.{Settings}
use Rattle.aho_build.specs.declared.special.Special.{Special}
use Rattle.aho_build.specs.Dense.{memory_size}
use Rattle.aho_build.specs.Prefilters.{held_by}
use Rattle.aho_build.specs.StateNames.{name_at, IsStateOf}
use Rattle.aho_build.specs.Trie.{longer}
use Rattle.aho_build.specs.Starts.{IsDead, ListsAllBytes}
use Rattle.aho_build.specs.FailureLinks.{IsLinked}
use Rattle.aho_build.specs.Sizes.{IsSized, tables_bytes}

-- where a byte leads that leads to no node: from the root back to it, or to DEAD where the root is cut (a leftmost kind with
-- an empty pattern); from another node nowhere
abbrev pub missing_from : ℕ → Patterns → List ℕ → ℕ
missing_from root p [] = if is_cut p [] then dead_id else root
missing_from root p (byte ∷ word) = fail_id

-- the states with names are the nodes, from this one on, the root: each node has at most one state, and a byte leads from a node to
-- the node with that byte, if there is one
pub record AreNodes (start : ℕ) (p : Patterns) (names : List (Option (List ℕ))) (states : List State) : Type 0 where
  pub sized : length names ≡ length states
  pub dead : name_at names dead_id ≡ None
  pub fail : name_at names fail_id ≡ None
  pub root : name_at names start ≡ Some []
  pub unique : (i j : ℕ) (word : List ℕ) → name_at names i ≡ Some word → name_at names j ≡ Some word → i ≡ j
  pub words : (i : ℕ) (word : List ℕ) → name_at names i ≡ Some word → (is_node p word ≡ true) × (folded_word p word ≡ word)
  pub depths : (i : ℕ) (word : List ℕ) → name_at names i ≡ Some word → depth_in states i ≡ length word
  pub transitions : (i : ℕ) (word : List ℕ) (byte : ℕ) → name_at names i ≡ Some word → byte < 256
      → MatchBool
      (is_node p (longer p word byte))
      (name_at names (next_in states i byte) ≡ Some (longer p word byte))
      (next_in states i byte ≡ missing_from start p word)
  -- DEAD keeps every byte
  pub dead_loop : (byte : ℕ) → byte < 256 → next_in states dead_id byte ≡ dead_id

-- the anchored start has no name, the root's own transitions and patterns, and leads nowhere else
pub record IsApart (anchored root : ℕ) (p : Patterns) (names : List (Option (List ℕ))) (states : List State) : Type 0 where
  pub unnamed : name_at names anchored ≡ None
  pub not_dead : anchored ≢ dead_id
  pub not_fail : anchored ≢ fail_id
  pub next : (byte : ℕ) → byte < 256 → next_in states anchored byte ≡ (if is_node p (folded p byte ∷ []) then next_in states root byte else fail_id)
  pub matches : matches_in states anchored ≡ own_matches p []
  pub fail : fail_in states anchored ≡ dead_id
  pub depth : depth_in states anchored ≡ 0

-- by this naming of its states, and with these starts, the table is the automaton of the patterns
pub record IsAutomaton (special : Special) (p : Patterns) (names : List (Option (List ℕ))) (states : List State) : Type 0 where
  pub nodes : AreNodes special.start_unanchored_id p names states
  pub dead : IsDead states
  pub anchored : IsApart special.start_anchored_id special.start_unanchored_id p names states
  pub root_fail : fail_in states special.start_unanchored_id ≡ dead_id
  pub root_matches : matches_in states special.start_unanchored_id ≡ own_matches p []
  pub linked : (i : ℕ) (word : List ℕ) → name_at names i ≡ Some word → word ≢ [] → IsLinked p names states i word
  -- every other state has a name
  pub complete : (i : ℕ) → i < length states → i ≢ dead_id → i ≢ fail_id → i ≢ special.start_anchored_id
      → (word : List ℕ) × (name_at names i ≡ Some word)

-- what the states list, beside where their bytes lead: the anchored start lists every byte, FAIL is blank, and any other state
-- lists only bytes that lead on
pub record ListsExactly (special : Special) (states : List State) : Type 0 where
  pub anchored : ListsAllBytes states special.start_anchored_id
  pub fail : state_at states fail_id ≡ record (new_state 0) { fail = dead_id }
  pub leading : (i byte : ℕ) → i ≢ special.start_anchored_id → byte < 256 → lists_byte states i byte ≡ true → next_in states i byte ≢ fail_id

-- the kind and the lengths are the patterns', by some naming the table is their automaton, its states list what they should and
-- no more, and it has as many entries as it should
pub record IsOf (p : Patterns) (kind : MatchKind) (lengths : List ℕ) (special : Special) (states : List State) : Type 0 where
  pub kind_is : kind ≡ p.kind
  pub lengths_are : lengths ≡ map length p.words
  pub names : List (Option (List ℕ))
  pub automaton : IsAutomaton special p names states
  pub listed : ListsExactly special states
  pub sized : IsSized p states

-- anchored the state of the root is the anchored start
abbrev pub IsAnchoredStateOf : Special → List (Option (List ℕ)) → Option (List ℕ) → ℕ → Type 0
IsAnchoredStateOf special names None sid = sid ≡ dead_id
IsAnchoredStateOf special names (Some []) sid = sid ≡ special.start_anchored_id
IsAnchoredStateOf special names (Some (byte ∷ word)) sid = name_at names sid ≡ Some (byte ∷ word)

-- the state of a word, or of none, under an anchoring
abbrev pub IsHeldAs : Special → Anchored → List (Option (List ℕ)) → Option (List ℕ) → ℕ → Type 0
IsHeldAs special No names state sid = IsStateOf names state sid
IsHeldAs special Yes names state sid = IsAnchoredStateOf special names state sid

-- by every such naming the state is the one that is held after the word
abbrev pub IsHeld : Patterns → Special → List State → Anchored → List ℕ → ℕ → Type 0
IsHeld p special states anchored word sid =
    (names : List (Option (List ℕ))) → IsAutomaton special p names states → IsHeldAs special anchored names (held_after p anchored word) sid

-- from the state of a word, or of none, the byte leads to that of the word's step: by every naming
abbrev pub FollowsWords : List State → Anchored → ℕ → ℕ → ℕ → Type 0
FollowsWords states anchored sid byte next =
    (p : Patterns) (special : Special) (names : List (Option (List ℕ))) (state : Option (List ℕ)) → IsAutomaton special p names states
    → IsHeldAs special anchored names state sid → IsHeldAs special anchored names (follow p anchored state (folded p byte)) next

-- and so many look-ups lead to so many more as the word's step has
abbrev pub CountsAsWords : List State → Anchored → ℕ → ℕ → ℕ → ℕ → Type 0
CountsAsWords states anchored sid byte old new =
    (p : Patterns) (special : Special) (names : List (Option (List ℕ))) (state : Option (List ℕ)) → IsAutomaton special p names states
    → IsHeldAs special anchored names state sid → new ≡ old + lookups p anchored state (folded p byte)

-- the start of each anchoring
abbrev pub start_of : Special → Anchored → ℕ
start_of special No = special.start_unanchored_id
start_of special Yes = special.start_anchored_id

-- whether the state is one of the starts
abbrev pub is_start_in : Special → ℕ → Bool
is_start_in special sid = nat_eq sid special.start_unanchored_id || nat_eq sid special.start_anchored_id

-- a state that a search has to look at: DEAD, or one that lists a pattern, or, where the search may skip from it, a start
abbrev pub is_special_in : Bool → Special → List State → ℕ → Bool
is_special_in skips special states sid = nat_eq sid dead_id || (nat_lt 0 (length (matches_in states sid)) || (skips && is_start_in special sid))

-- the bytes of all tables: stated sizes for each state, transition, listed pattern, dense entry and pattern length
abbrev pub memory_of : Tables → List ℕ → ℕ
memory_of table lengths = tables_bytes (length table.states) (transitions_count table.states) (matches_count table.states) table.dense_len (length lengths)

-- the bytes of the automaton that these settings make of the patterns: those of its tables, and what its prefilter holds
unfoldable pub memory_for : Settings → Patterns → ℕ
memory_for settings p = memory_size settings.dense_depth p + prefilter_bytes (held_by settings p)
