-- The failure links being made: one step along those that are made, a child's link, the queue.
use Rattle.std.specs.Prelude.{Bool, ◌≡◌, ◌≢◌, ℕ, ◌+◌, ◌<◌, ◌≤◌, nat_eq, if◌then◌else◌, List, [], ◌++◌, length, sum_by, Option, Some, slice_index, slice_set}
use Rattle.aho_core.specs.declared.error.BuildError.{BuildError}
use Rattle.aho_core.specs.declared.search.Anchored.TheVariants.{No}
use Rattle.aho_core.specs.declared.search.MatchKind.{MatchKind}
use Rattle.aho_core.specs.Bytes.{folded}
use Rattle.aho_core.specs.Failure.{failure_of}
use Rattle.aho_core.specs.MatchList.{own_matches, matches_of}
use Rattle.aho_core.specs.Patterns.{Patterns}
use Rattle.aho_core.specs.Step.{depth_of, follow}
use Rattle.aho_core.specs.Trie.{is_node}
use Rattle.aho_build.specs.StateNames.{name_at, IsStateOf}
use Rattle.aho_build.specs.Trie.{longer, IsTrie, names_before}
pub use Rattle.aho_table.specs.Table.{append_matches}
use Rattle.aho_table.specs.Table.{fail_id, dead_id, State, Tables, state_at, transition_in, next_in, fail_in, depth_in, matches_in}
use Rattle.aho_build.specs.Sizes.{matches_size}
use Rattle.aho_build.specs.Starts.{root_loop, IsAnchoredStart, IsDead, IsReady}
use Rattle.aho_table.specs.Refusal.{IsRefusalOf}
use Rattle.aho_build.specs.FirstStates.{root_id}

-- the state leads on failure to another, and lists that one's patterns after its own
abbrev pub linked_state : List State → ℕ → ℕ → List State
linked_state states sid fail = slice_set states sid (record (state_at states sid) { fail = fail; matches = (state_at states sid).matches ++ matches_in states fail })

-- each state has the transitions that it had
abbrev pub HasSameTransitions : List State → List State → Type 0
HasSameTransitions old new = (i : ℕ) → (state_at new i).transitions ≡ (state_at old i).transitions

-- the classes of bytes, how many entries the rows by them have, and which states have a row
abbrev pub rows_of : Tables → List Bool × ℕ × List Bool
rows_of table = (table.classes, table.dense_len, table.rows)

-- links were set and patterns copied, and all else stays: the limit, the rows, the states, their transitions, and FAIL
pub record OnlyCopies (old new : Tables) : Type 0 where
  pub limit : new.limit ≡ old.limit
  pub rows : rows_of new ≡ rows_of old
  pub state_count : length new.states ≡ length old.states
  pub transitions : HasSameTransitions old.states new.states
  pub fail_state : state_at new.states fail_id ≡ state_at old.states fail_id

-- the state's link and its list are those of its word
pub record IsLinked (p : Patterns) (names : List (Option (List ℕ))) (states : List State) (sid : ℕ) (word : List ℕ) : Type 0 where
  pub fail : IsStateOf names (failure_of p word) (fail_in states sid)
  pub matches : matches_in states sid ≡ matches_of p (Some word)

-- the state of a word, or DEAD for none, where the links of the words up to its length are made
pub record CanStep (p : Patterns) (names : List (Option (List ℕ))) (states : List State) (sid : ℕ) (state : Option (List ℕ)) : Type 0 where
  pub trie : IsTrie p (is_node p) (root_loop p) names states
  pub dead : IsDead states
  pub at : IsStateOf names state sid
  pub links : (i : ℕ) (word : List ℕ) → name_at names i ≡ Some word → word ≢ [] → length word ≤ depth_of state → IsStateOf names (failure_of p word) (fail_in states i)

-- by some naming
abbrev pub CanStepBySome : List State → ℕ → Type 0
CanStepBySome states sid = (p : Patterns) × ((names : List (Option (List ℕ))) × ((state : Option (List ℕ)) × CanStep p names states sid state))

-- the step is that of the words, by every naming
abbrev pub StepsTo : List State → ℕ → ℕ → ℕ → Type 0
StepsTo states sid byte next =
    (p : Patterns) (names : List (Option (List ℕ))) (state : Option (List ℕ)) → CanStep p names states sid state → IsStateOf names (follow p No state (folded p byte)) next

-- a word's state leads by a byte to a child, which has its own patterns alone, and the links of the words up to the word's
-- length are made
pub record CanLink (p : Patterns) (names : List (Option (List ℕ))) (kind : MatchKind) (states : List State) (parent byte child : ℕ) (word : List ℕ) : Type 0 where
  pub kind_is : p.kind ≡ kind
  pub can_step : CanStep p names states parent (Some word)
  pub root_matches : matches_in states root_id ≡ own_matches p []
  pub named : name_at names child ≡ Some (longer p word byte)
  pub matches : matches_in states child ≡ own_matches p (longer p word byte)

-- by some naming
abbrev pub CanLinkBySome : MatchKind → List State → ℕ → ℕ → ℕ → Type 0
CanLinkBySome kind states parent byte child = (p : Patterns) × ((names : List (Option (List ℕ))) × ((word : List ℕ) × CanLink p names kind states parent byte child word))

-- the state is where the longer word leads on failure, by every naming
abbrev pub LinksTo : MatchKind → List State → ℕ → ℕ → ℕ → ℕ → Type 0
LinksTo kind states parent byte child fail =
    (p : Patterns) (names : List (Option (List ℕ))) (word : List ℕ) → CanLink p names kind states parent byte child word → IsStateOf names (failure_of p (longer p word byte)) fail

-- the links are being made, from the root on: those of the queue have their links and lists; the children of those before
-- the head are in it, and of the head those among its first transitions
pub record IsLinking (p : Patterns) (names : List (Option (List ℕ))) (queue : List ℕ) (head part : ℕ) (states : List State) : Type 0 where
  pub trie : IsTrie p (is_node p) (root_loop p) names states
  pub dead : IsDead states
  pub anchored : IsAnchoredStart p states
  pub root_fail : fail_in states root_id ≡ dead_id
  pub root_matches : matches_in states root_id ≡ own_matches p []
  pub linked : (i : ℕ) (word : List ℕ) → name_at names i ≡ Some word → word ≢ [] → fail_in states i ≢ fail_id → IsLinked p names states i word
  pub unlinked : (i : ℕ) (word : List ℕ) → name_at names i ≡ Some word → fail_in states i ≡ fail_id → matches_in states i ≡ own_matches p word
  pub named : (k : ℕ) → k < length queue → (word : List ℕ) × (name_at names (slice_index queue k) ≡ Some word)
  pub queued : (k : ℕ) → k < length queue → fail_in states (slice_index queue k) ≢ fail_id
  pub place : (i : ℕ) (word : List ℕ) → name_at names i ≡ Some word → fail_in states i ≢ fail_id → (k : ℕ) × (k < length queue) × (slice_index queue k ≡ i)
  pub done : (k byte : ℕ) → k < head → byte < 256 → next_in states (slice_index queue k) byte ≢ fail_id → fail_in states (next_in states (slice_index queue k) byte) ≢ fail_id
  pub partly : (k : ℕ) → k < part → (transition_in states (slice_index queue head) k).1 ≢ fail_id → fail_in states (transition_in states (slice_index queue head) k).1 ≢ fail_id
  pub sorted : (k l : ℕ) → k ≤ l → l < length queue → depth_in states (slice_index queue k) ≤ depth_in states (slice_index queue l)
  pub near : (k : ℕ) → k < length queue → head < length queue → depth_in states (slice_index queue k) ≤ depth_in states (slice_index queue head) + 1

-- by some patterns of the kind and some naming
abbrev pub IsLinkingBySome : MatchKind → List ℕ → ℕ → ℕ → List State → Type 0
IsLinkingBySome kind queue head part states = (p : Patterns) × ((names : List (Option (List ℕ))) × (p.kind ≡ kind) × IsLinking p names queue head part states)

-- what has come so far, by any naming, has come further
abbrev pub KeepsLinking : MatchKind → List ℕ → ℕ → ℕ → List State → List ℕ → ℕ → ℕ → List State → Type 0
KeepsLinking kind queue head part states queue' head' part' states' =
    (p : Patterns) (names : List (Option (List ℕ))) → p.kind ≡ kind → IsLinking p names queue head part states → IsLinking p names queue' head' part' states'

-- how many states have no link yet
abbrev pub unlinked_count : List State → ℕ
unlinked_count states = sum_by (λ (state : State). if nat_eq state.fail fail_id then 1 else 0) states

-- why the links were not all made, once the build has come so far: more patterns were not copied
abbrev pub IsLinkingRefusal : MatchKind → List ℕ → ℕ → ℕ → Tables → BuildError → Type 0
IsLinkingRefusal kind queue head part table error =
    (p : Patterns) → p.kind ≡ kind → IsLinking p (names_before p (length p.words)) queue head part table.states
    → matches_in table.states fail_id ≡ [] → IsRefusalOf table.limit (matches_size p) error

-- or before the first one is made
abbrev pub IsReadyRefusal : MatchKind → Tables → BuildError → Type 0
IsReadyRefusal kind table error =
    (p : Patterns) → p.kind ≡ kind → IsReady p (names_before p (length p.words)) table.states
    → matches_in table.states fail_id ≡ [] → IsRefusalOf table.limit (matches_size p) error
