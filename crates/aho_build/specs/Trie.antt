-- When a table is the trie of some words.
use Rattle.std.specs.Prelude.{Bool, List, MatchBool, None, Option, Some, [], false, length, map, true, ℕ, ◌++◌, ◌<◌, ◌||◌, ◌∷◌, ◌≡◌, ◌≢◌, ◌≤◌}
use Rattle.aho_core.specs.Among.{is_node_among, own_among}
use Rattle.aho_core.specs.Bytes.{folded, folded_word}
use Rattle.aho_core.specs.Patterns.{Patterns}
use Rattle.aho_core.specs.Trie.{begins}
use Rattle.aho_table.specs.Table.{AllRising, State, dead_id, depth_in, fail_id, fail_in, lists_byte, matches_in, next_in}
use Rattle.aho_build.specs.FirstStates.{anchored_id, root_id}
use Rattle.aho_build.specs.Sizes.{HasNodes, IsCountedTrie, kept_before, nodes_before, nodes_with}
use Rattle.aho_build.specs.StateNames.{name_at}

-- the word with one more byte
abbrev pub longer : Patterns → List ℕ → ℕ → List ℕ
longer p word byte = word ++ folded p byte ∷ []

-- where a byte leads that leads to no word: the root may differ
abbrev pub missing_at : ℕ → List ℕ → ℕ
missing_at at_root [] = at_root
missing_at at_root (byte ∷ word) = fail_id

-- the states of the words that pass a test: each word has at most one state, and a byte leads from a word to the word with
-- that byte, if that is one of the words. The root leads by every other byte to `at_root`
pub record IsTrie (p : Patterns) (is_word : List ℕ → Bool) (at_root : ℕ) (names : List (Option (List ℕ))) (states : List State) : Type 0 where
  pub sized : length names ≡ length states
  pub dead : name_at names dead_id ≡ None
  pub fail : name_at names fail_id ≡ None
  pub root : name_at names root_id ≡ Some []
  pub anchored : name_at names anchored_id ≡ None
  -- every state but the four first ones has a name
  pub complete : (i : ℕ) → 4 ≤ i → i < length states → (word : List ℕ) × (name_at names i ≡ Some word)
  pub dead_loop : (byte : ℕ) → byte < 256 → next_in states dead_id byte ≡ dead_id
  pub unique : (i j : ℕ) (word : List ℕ) → name_at names i ≡ Some word → name_at names j ≡ Some word → i ≡ j
  pub words : (i : ℕ) (word : List ℕ) → name_at names i ≡ Some word → (is_word word ≡ true) × (folded_word p word ≡ word)
  pub closed : (word : List ℕ) (byte : ℕ) → folded_word p word ≡ word → is_word (longer p word byte) ≡ true → is_word word ≡ true
  pub depths : (i : ℕ) (word : List ℕ) → name_at names i ≡ Some word → depth_in states i ≡ length word
  pub transitions : (i : ℕ) (word : List ℕ) (byte : ℕ) → name_at names i ≡ Some word → byte < 256
      → MatchBool (is_word (longer p word byte)) (name_at names (next_in states i byte) ≡ Some (longer p word byte)) (next_in states i byte ≡ missing_at at_root word)
  -- each named state is reached by its last byte from its parent
  pub reached : (i : ℕ) (word : List ℕ) (byte : ℕ) → name_at names i ≡ Some (word ++ byte ∷ [])
      → (parent : ℕ) × (name_at names parent ≡ Some word) × (byte < 256) × (folded p byte ≡ byte) × (next_in states parent byte ≡ i)

-- each state lists what its word does
abbrev pub ListsByWord : List (Option (List ℕ)) → (List ℕ → List ℕ) → List State → Type 0
ListsByWord names list_of states = (i : ℕ) (word : List ℕ) → name_at names i ≡ Some word → matches_in states i ≡ list_of word

-- the four first states while the trie grows: DEAD, FAIL and the anchored start have no patterns, their links and depth 0,
-- the anchored start leads nowhere, and no named state is linked yet (its link is FAIL)
pub record AreFirst (names : List (Option (List ℕ))) (states : List State) : Type 0 where
  pub dead_fail : fail_in states dead_id ≡ dead_id
  pub dead_matches : matches_in states dead_id ≡ []
  pub dead_depth : depth_in states dead_id ≡ 0
  pub fail_fail : fail_in states fail_id ≡ dead_id
  pub fail_matches : matches_in states fail_id ≡ []
  pub fail_depth : depth_in states fail_id ≡ 0
  pub anchored_fail : fail_in states anchored_id ≡ dead_id
  pub anchored_matches : matches_in states anchored_id ≡ []
  pub anchored_depth : depth_in states anchored_id ≡ 0
  pub anchored_next : (byte : ℕ) → byte < 256 → next_in states anchored_id byte ≡ fail_id
  pub unlinked : (i : ℕ) (word : List ℕ) → name_at names i ≡ Some word → fail_in states i ≡ fail_id

-- the table is the trie of the patterns before this number
pub record IsTrieOf (p : Patterns) (number : ℕ) (names : List (Option (List ℕ))) (states : List State) : Type 0 where
  pub trie : IsTrie p (is_node_among p number) fail_id names states
  pub lists : ListsByWord names (own_among p number) states
  pub first : AreFirst names states

-- the table is the trie of the patterns before this number and of the first bytes of one more word
pub record IsTrieWith (p : Patterns) (number : ℕ) (more : List ℕ) (names : List (Option (List ℕ))) (states : List State) : Type 0 where
  pub trie : IsTrie p (λ word. is_node_among p number word || begins word more) fail_id names states
  pub lists : ListsByWord names (own_among p number) states
  pub first : AreFirst names states

-- the names of the states that have these nodes, in their order
abbrev pub names_of : List (List ℕ) → List (Option (List ℕ))
names_of words = None ∷ None ∷ Some [] ∷ None ∷ map Some words

-- the states in the order in which a build makes them, by their words
abbrev pub names_before : Patterns → ℕ → List (Option (List ℕ))
names_before p number = names_of (nodes_before p number)

-- how a trie's states list their bytes: each list rises, DEAD and the two starts list every byte, FAIL none, and a state of a
-- nonempty word only bytes that lead on
pub record AreListed (states : List State) : Type 0 where
  pub rising : AllRising states
  pub dead_full : (byte : ℕ) → byte < 256 → lists_byte states dead_id byte ≡ true
  pub root_full : (byte : ℕ) → byte < 256 → lists_byte states root_id byte ≡ true
  pub anchored_full : (byte : ℕ) → byte < 256 → lists_byte states anchored_id byte ≡ true
  pub fail_none : (byte : ℕ) → lists_byte states fail_id byte ≡ false
  pub leading : (i byte : ℕ) → 4 ≤ i → byte < 256 → lists_byte states i byte ≡ true → next_in states i byte ≢ fail_id

-- the table is the trie of the patterns before this number, with its states in the order in which they are made, and as large
-- as it should be
pub record HoldsFirst (p : Patterns) (number : ℕ) (states : List State) : Type 0 where
  pub trie : IsTrieOf p number (names_before p number) states
  pub counted : IsCountedTrie p number states
  pub listed : AreListed states

-- and that of the first bytes of one more word too
pub record HoldsWith (p : Patterns) (number : ℕ) (more : List ℕ) (states : List State) : Type 0 where
  pub trie : IsTrieWith p number more (names_of (nodes_with p number more)) states
  pub counted : HasNodes p (nodes_with p number more) (length (kept_before p number)) states
  pub listed : AreListed states

-- the table is the trie of these patterns
abbrev pub HoldsTrie : Patterns → List State → Type 0
HoldsTrie p states = HoldsFirst p (length p.words) states
