-- The trie while it is made: the states so far, the patterns that end at them, and those that go on.
use Rattle.std.specs.Prelude.{◌≡◌, ◌≢◌, ◌⊎◌, ℕ, ◌+◌, ◌-◌, ◌<◌, ◌≤◌, Bool, true, false, List, [], ◌∷◌, ◌++◌, length, map, take, drop, if◌then◌else◌, slice_index_or, Option, Some, None}
use Rattle.std.specs.List.{All, Contains}
use Rattle.aho_core.specs.declared.search.MatchKind.{MatchKind}
use Rattle.aho_core.specs.declared.search.MatchKind.TheVariants.{LeftmostFirst}
use Rattle.aho_core.specs.Numbers.{greatest_index}
use Rattle.aho_core.specs.Patterns.{Patterns}
use Rattle.aho_core.specs.Trie.{is_kept, is_node, pattern_word}
use Rattle.aho_laws.proofs.Begins.{Begins}
use Rattle.aho_levels.specs.Building.{IsUnderway}
use Rattle.aho_levels.specs.Meaning.{ComesBefore, IsFolded, named_word}
use Rattle.aho_levels.specs.declared.order.Item.{Item}
use Rattle.aho_levels.specs.declared.tree.Tree.{Tree}
use Rattle.aho_levels.specs.declared.trie.Ends.{Ends}
use Rattle.aho_levels.specs.declared.trie.Own.{Own}
use Rattle.aho_levels.specs.declared.trie.Trie.{Trie}

-- where the children of a state begin, and those of the state before it end: behind all states where they are not begun yet
abbrev pub begins_in : Tree → ℕ → ℕ
begins_in tree sid = slice_index_or tree.firsts.items sid (length tree.bytes.items)

-- the byte that leads to a state, and its depth
abbrev pub byte_in : Tree → ℕ → ℕ
byte_in tree sid = slice_index_or tree.bytes.items sid 0

abbrev pub deep_in : Tree → ℕ → ℕ
deep_in tree sid = slice_index_or tree.depths.items sid 0

-- the state has its number among the children of another
abbrev pub IsChildIn : Tree → ℕ → ℕ → Type 0
IsChildIn tree sid child = (begins_in tree sid ≤ child) × (child < begins_in tree (sid + 1))

-- by these names the states stand in the order of their words, and each child's word is that of the state above it with its byte
pub record IsTree (names : List (Option (List ℕ))) (tree : Tree) : Type 0 where
  pub two : 2 ≤ length tree.bytes.items
  pub small : length tree.bytes.items ≤ greatest_index
  pub sized : length names ≡ length tree.bytes.items
  pub deep : length tree.depths.items ≡ length tree.bytes.items
  pub begun : length tree.firsts.items ≡ tree.parent + 1
  pub above : tree.parent < length tree.bytes.items
  pub dead : named_word names 0 ≡ None
  pub root : named_word names 1 ≡ Some []
  pub complete : (i : ℕ) → i < length names → i ≢ 0 → (word : List ℕ) × (named_word names i ≡ Some word)
  pub ordered : (i j : ℕ) (u w : List ℕ) → i < j → named_word names i ≡ Some u → named_word names j ≡ Some w → ComesBefore u w
  pub depths : (i : ℕ) (word : List ℕ) → named_word names i ≡ Some word → deep_in tree i ≡ length word
  pub dead_depth : deep_in tree 0 ≡ 0
  pub shallow : (i : ℕ) → deep_in tree i ≤ greatest_index
  pub rising : (i j : ℕ) → i ≤ j → begins_in tree i ≤ begins_in tree j
  pub within : (i : ℕ) → begins_in tree i ≤ length tree.bytes.items
  pub child : (i j : ℕ) → IsChildIn tree i j
      → (word : List ℕ) × (named_word names i ≡ Some word) × (named_word names j ≡ Some (word ++ byte_in tree j ∷ []))
  pub parents : (j : ℕ) → 2 ≤ j → j < length tree.bytes.items → (i : ℕ) × IsChildIn tree i j
  pub last : tree.parent ≢ 0 → IsChildIn tree tree.parent (length tree.bytes.items - 1)

-- the names of the dead state and the root
abbrev pub first_names : List (Option (List ℕ))
first_names = None ∷ Some [] ∷ []

-- the children of the states below this one are begun, and nothing else is new
pub record IsBegunTo (end : ℕ) (old new : Tree) : Type 0 where
  pub firsts : (i : ℕ) → begins_in new i ≡ begins_in old i
  pub begun : length new.firsts.items ≡ end
  pub bytes : new.bytes.items ≡ old.bytes.items
  pub depths : new.depths.items ≡ old.depths.items
  pub parent : new.parent ≡ old.parent

-- a child by this byte comes behind the state that was added last
abbrev pub MayAdd : ℕ → ℕ → Tree → Type 0
MayAdd parent byte tree = (tree.parent < parent) ⊎ ((tree.parent ≡ parent) × (byte_in tree (length tree.bytes.items - 1) < byte))

-- the names stay, the state has this word, and no other word is new
pub record IsLedToState (old : List (Option (List ℕ))) (word : List ℕ) (sid : ℕ) (tree : Tree) : Type 0 where
  pub names : List (Option (List ℕ))
  pub tree_is : IsTree names tree
  pub stays : (i : ℕ) (w : List ℕ) → named_word old i ≡ Some w → named_word names i ≡ Some w
  pub named : named_word names sid ≡ Some word
  pub others : (i : ℕ) (w : List ℕ) → named_word names i ≡ Some w → (named_word old i ≡ Some w) ⊎ (w ≡ word)

-- ---- the patterns that end

abbrev pub IsOwnBefore : Own → Own → Type 0
IsOwnBefore a b = (a.state < b.state) ⊎ ((a.state ≡ b.state) × (a.number < b.number))

-- they rise by state and number up to the last one, and of its state none is less than the least one
pub record AreEnds (ends : Ends) : Type 0 where
  pub rising : (i j : ℕ) (d : Own) → i < j → j < length ends.owns.items
      → IsOwnBefore (slice_index_or ends.owns.items i d) (slice_index_or ends.owns.items j d)
  pub below : All (λ own. own.state ≤ ends.last.state) ends.owns.items
  pub most : All (λ own. own.state ≡ ends.last.state → own.number ≤ ends.last.number) ends.owns.items
  pub fewest : All (λ own. own.state ≡ ends.last.state → ends.least.number ≤ own.number) ends.owns.items
  pub same : ends.least.state ≡ ends.last.state
  pub there : ends.last.state ≢ 0 → Contains ends.owns.items ends.least

-- one more at the end, with the least one of its state
pub record PushesOwn (own least : Own) (old new : Ends) : Type 0 where
  pub owns : new.owns.items ≡ old.owns.items ++ own ∷ []
  pub last : new.last ≡ own
  pub first : new.least ≡ least
  pub passed : new.passed ≡ old.passed

-- one more has ended, at a state past which no pattern went
pub record AddsOwn (own : Own) (old new : Ends) : Type 0 where
  pub owns : new.owns.items ≡ old.owns.items ++ own ∷ []
  pub unpassed : old.passed < own.state
  pub passed : new.passed ≡ old.passed

-- one went on from its state: it is kept unless one of a lesser number ended there, by the kind that leaves those out
pub record Passes (kind : MatchKind) (item : Item) (kept : Bool) (old new : Ends) : Type 0 where
  pub owns : new.owns.items ≡ old.owns.items
  pub risen : old.passed ≤ item.state
  pub passed : new.passed ≡ item.state
  pub first : kept ≡ true → kind ≡ LeftmostFirst → All (λ own. own.state ≡ item.state → item.number < own.number) old.owns.items
  pub dropped : kept ≡ false
      → (kind ≡ LeftmostFirst) × ((own : Own) × Contains old.owns.items own × (own.state ≡ item.state) × (own.number ≤ item.number))

-- its bytes are at their end, and it ended; or it went on
abbrev pub own_of : Item → Own
own_of item = record { state = item.state; number = item.number }

abbrev pub SettlesItem : MatchKind → Item → Bool → Ends → Ends → Type 0
SettlesItem kind item kept old new =
    ((item.at ≡ item.end) × (kept ≡ false) × AddsOwn (own_of item) old new) ⊎ ((item.at ≢ item.end) × Passes kind item kept old new)

-- ---- the level

-- no kept pattern that is shorter than this, and earlier, begins the pattern of this number, by the kind that leaves such ones out
abbrev pub IsNotBegun : Patterns → ℕ → ℕ → Type 0
IsNotBegun p depth k = (i : ℕ) → p.kind ≡ LeftmostFirst → i < k → is_kept p i ≡ true
    → Begins (pattern_word p i) (pattern_word p k) → depth ≤ length (pattern_word p i)

-- the item is at the state of its first bytes, and no shorter pattern leaves it out
pub record IsArrived (p : Patterns) (depth : ℕ) (names : List (Option (List ℕ))) (text : List ℕ) (item : Item) : Type 0 where
  pub underway : IsUnderway p depth text item
  pub named : named_word names item.state ≡ Some (take depth (pattern_word p item.number))
  pub unbegun : IsNotBegun p depth item.number

-- it has further bytes, and no pattern that ends at its state leaves it out
pub record IsOpen (p : Patterns) (depth : ℕ) (names : List (Option (List ℕ))) (text : List ℕ) (item : Item) : Type 0 where
  pub arrived : IsArrived p depth names text item
  pub longer : item.at < item.end
  pub unbegun : IsNotBegun p (depth + 1) item.number

-- a kept pattern that ends at the state of its word
pub record IsOwnOf (p : Patterns) (names : List (Option (List ℕ))) (own : Own) : Type 0 where
  pub numbered : own.number < length p.words
  pub kept : is_kept p own.number ≡ true
  pub named : named_word names own.state ≡ Some (pattern_word p own.number)

abbrev pub own_numbers : List Own → List ℕ
own_numbers owns = map (λ (own : Own). own.number) owns

abbrev pub item_numbers : List Item → List ℕ
item_numbers items = map (λ (item : Item). item.number) items

-- each name is that of a node, of bytes as they are compared
abbrev pub AreNodeNames : Patterns → List (Option (List ℕ)) → Type 0
AreNodeNames p names = (i : ℕ) (word : List ℕ) → named_word names i ≡ Some word → (is_node p word ≡ true) × All (IsFolded p) word

-- each kept pattern of so many bytes at least is one of these numbers
abbrev pub HasLonger : Patterns → ℕ → List ℕ → Type 0
HasLonger p depth numbers = (k : ℕ) → k < length p.words → is_kept p k ≡ true → depth ≤ length (pattern_word p k) → Contains numbers k

-- each kept pattern of fewer bytes
abbrev pub HasShorter : Patterns → ℕ → List ℕ → Type 0
HasShorter p depth numbers = (k : ℕ) → k < length p.words → is_kept p k ≡ true → length (pattern_word p k) < depth → Contains numbers k

-- each node of fewer bytes has a state
abbrev pub ReachesBelow : Patterns → ℕ → List (Option (List ℕ)) → Type 0
ReachesBelow p depth names = (word : List ℕ) → is_node p word ≡ true → length word < depth → (i : ℕ) × (named_word names i ≡ Some word)

-- of some items the first ones are kept: one more, if it goes on, and those further behind stay
pub record KeepsItem (goes_on : Bool) (item : Item) (kept next : ℕ) (old new : List Item) : Type 0 where
  pub count : length new ≡ length old
  pub front : take next new ≡ take kept old ++ (if goes_on then item ∷ [] else [])
  pub behind : (n : ℕ) → kept < n → drop n new ≡ drop n old
  pub near : next ≤ kept + 1

-- all is there down to this depth, and the items are those that go on
pub record IsLevel (p : Patterns) (depth : ℕ) (text : List ℕ) (tree : Tree) (ends : Ends) (items : List Item) : Type 0 where
  pub names : List (Option (List ℕ))
  pub tree_is : IsTree names tree
  pub nodes : AreNodeNames p names
  pub reached : ReachesBelow p (depth + 1) names
  pub owns : All (IsOwnOf p names) ends.owns.items
  pub ended : HasShorter p (depth + 1) (own_numbers ends.owns.items)
  pub open_ones : All (IsOpen p depth names text) items
  pub further : HasLonger p (depth + 1) (item_numbers items)
  pub folded : All (IsFolded p) text

-- the same while the patterns come to this depth one by one: where those of some numbers have arrived, and some of these are kept
pub record IsSettling (p : Patterns) (depth : ℕ) (text : List ℕ) (names : List (Option (List ℕ))) (owns : List Own) (passed : ℕ) (arrived : List ℕ) (kept : List Item) : Type 0 where
  pub owns_are : All (IsOwnOf p names) owns
  pub ended : HasShorter p depth (own_numbers owns)
  pub ends : All (λ k. is_kept p k ≡ true → length (pattern_word p k) ≤ depth → Contains (own_numbers owns) k) arrived
  pub goes_on : All (λ k. is_kept p k ≡ true → depth < length (pattern_word p k) → Contains (item_numbers kept) k) arrived
  pub reached : All (λ k. (i : ℕ) × (named_word names i ≡ Some (take depth (pattern_word p k)))) arrived
  pub kept_are : All (IsArrived p depth names text) kept
  pub longer : All (λ item. item.at < item.end) kept
  pub passed_are : All (λ item. item.state ≤ passed) kept
  pub first : p.kind ≡ LeftmostFirst → All (λ item. All (λ own. own.state ≡ item.state → item.number < own.number) owns) kept

-- the same in the midst of a level: the items up to a place are led to this depth, and the others wait one byte before it
pub record IsStepping (p : Patterns) (depth : ℕ) (text : List ℕ) (tree : Tree) (ends : Ends) (items : List Item) (place : ℕ) (kept : List Item) : Type 0 where
  pub names : List (Option (List ℕ))
  pub tree_is : IsTree names tree
  pub nodes : AreNodeNames p names
  pub reached : ReachesBelow p (depth + 1) names
  pub settling : IsSettling p (depth + 1) text names ends.owns.items ends.passed (take place (item_numbers items)) kept
  pub waiting : All (IsOpen p depth names text) items

-- the trie has the states of the tree, each with its children begun, and the patterns that have ended
pub record IsClosedTree (tree : Tree) (ends : Ends) (trie : Trie) : Type 0 where
  pub firsts : (i : ℕ) → slice_index_or trie.firsts.items i (length tree.bytes.items) ≡ begins_in tree i
  pub begun : length trie.firsts.items ≡ length tree.bytes.items + 1
  pub bytes : trie.bytes.items ≡ tree.bytes.items
  pub depths : trie.depths.items ≡ tree.depths.items
  pub owns : trie.owns.items ≡ ends.owns.items
