-- What the phases of a build make: patterns in order, a trie level by level, links with rows, and lists.
use Rattle.std.specs.Prelude.{◌≡◌, ◌⊎◌, ℕ, ◌+◌, ◌-◌, ◌<◌, ◌≤◌, Bool, List, [], length, map, filter, take, drop, nat_eq, slice_index_or, Option, Some}
use Rattle.std.specs.List.{All}
use Rattle.std.specs.List.Sorted.{IsPermutation}
use Rattle.aho_core.specs.declared.error.BuildError.{BuildError}
use Rattle.aho_core.specs.declared.error.BuildError.TheVariants.{OutOfMemory, StateIDOverflow}
use Rattle.aho_core.specs.declared.search.MatchKind.{MatchKind}
use Rattle.aho_core.specs.Numbers.{greatest_index}
use Rattle.aho_core.specs.MatchList.{own_matches, matches_of}
use Rattle.aho_core.specs.Patterns.{Patterns, numbers}
use Rattle.aho_core.specs.Trie.{pattern_word}
use Rattle.aho_levels.specs.Layout.{StateTables, HasChildren, first_child, list_of_state}
use Rattle.aho_levels.specs.Meaning.{AreLevels, IsFolded, named_word}
use Rattle.aho_levels.specs.declared.order.Item.{Item}
use Rattle.aho_levels.specs.declared.trie.Own.{Own}
use Rattle.aho_levels.specs.declared.trie.Trie.{Trie}

-- these words, by a kind and a case rule
abbrev pub patterns_of_kind : MatchKind → Bool → List (List ℕ) → Patterns
patterns_of_kind kind ignore_case words = record { words = words; kind = kind; ignore_case = ignore_case }

-- why a build fails: memory was wanted, or there are more bytes or listed patterns than indexes
abbrev pub IsLevelsRefusal : BuildError → Type 0
IsLevelsRefusal error = (error ≡ OutOfMemory) ⊎ ((most : ℕ) × ((asked : ℕ) × (error ≡ StateIDOverflow most asked)))

-- so many bytes of a pattern led to the item's state; the further ones stand in the text as they are compared
pub record IsUnderway (p : Patterns) (depth : ℕ) (text : List ℕ) (item : Item) : Type 0 where
  pub numbered : item.number < length p.words
  pub ordered : item.at ≤ item.end
  pub within : item.end ≤ length text
  pub whole : length (pattern_word p item.number) ≡ depth + (item.end - item.at)
  pub bytes : take (item.end - item.at) (drop item.at text) ≡ drop depth (pattern_word p item.number)

-- the items are all patterns, each once, at this state, and bytes of the text are as they are compared
pub record AreItems (p : Patterns) (root : ℕ) (text : List ℕ) (items : List Item) : Type 0 where
  pub all : IsPermutation (numbers p) (map (λ (item : Item). item.number) items)
  pub placed : All (λ (item : Item). (item.state ≡ root) × IsUnderway p 0 text item) items
  pub folded : All (IsFolded p) text

-- each pattern is of bytes, as they are compared
abbrev pub AreOfBytes : Patterns → Type 0
AreOfBytes p = (number : ℕ) → number < length p.words → All (IsFolded p) (pattern_word p number)

-- the numbers of the patterns that end at a state, in their order
abbrev pub owns_at : List Own → ℕ → List ℕ
owns_at owns sid = map (λ (own : Own). own.number) (filter (λ (own : Own). nat_eq own.state sid) owns)

-- the patterns that end at a state are those of its word, and they stand by the states
pub record AreOwns (p : Patterns) (names : List (Option (List ℕ))) (owns : List Own) : Type 0 where
  pub own : (i : ℕ) (word : List ℕ) → named_word names i ≡ Some word → owns_at owns i ≡ own_matches p word
  pub rising : (i j : ℕ) (d : Own) → i < j → j < length owns → (slice_index_or owns i d).state ≤ (slice_index_or owns j d).state
  pub alive : (i : ℕ) (d : Own) → i < length owns → 0 < (slice_index_or owns i d).state

-- the states of a trie, without links, rows or lists
abbrev pub layout_of : Bool → Trie → StateTables
layout_of ignore_case trie = record {
  firsts = trie.firsts.items;
  bytes = trie.bytes.items;
  depths = trie.depths.items;
  fails = [];
  rows = [];
  row_count = 0;
  places = [];
  lists = [];
  ignore_case = ignore_case;
}

-- ---- links and lists

-- the trie stays
pub record HasSameTrie (old new : StateTables) : Type 0 where
  pub firsts : new.firsts ≡ old.firsts
  pub bytes : new.bytes ≡ old.bytes
  pub depths : new.depths ≡ old.depths
  pub case_rule : new.ignore_case ≡ old.ignore_case

-- the states before this one list what their words do
abbrev pub ListsBefore : Patterns → List (Option (List ℕ)) → ℕ → StateTables → Type 0
ListsBefore p names count t = (i : ℕ) (word : List ℕ) → i < count
    → named_word names i ≡ Some word → list_of_state t i ≡ matches_of p (Some word)

-- the links and the rows stay too
pub record HasSameLinks (old new : StateTables) : Type 0 where
  pub trie : HasSameTrie old new
  pub fails : new.fails ≡ old.fails
  pub rows : new.rows ≡ old.rows
  pub row_count : new.row_count ≡ old.row_count

-- the states of a trie, to which these patterns belong
pub record AreOfTrie (p : Patterns) (names : List (Option (List ℕ))) (listed : List Own) (t : StateTables) : Type 0 where
  pub case_is : t.ignore_case ≡ p.ignore_case
  pub levels : AreLevels p names t
  pub owns : AreOwns p names listed

-- a trie alone: there are no links, no rows and no lists yet
pub record AreBare (t : StateTables) : Type 0 where
  pub two : 2 ≤ length t.bytes
  pub small : length t.bytes ≤ greatest_index
  pub firsts : length t.firsts ≡ length t.bytes + 1
  pub depths : length t.depths ≡ length t.bytes
  pub children : HasChildren t
  pub no_links : t.fails ≡ []
  pub no_rows : t.rows ≡ []
  pub none_with_row : t.row_count ≡ 0
  pub begins : first_child t 1 ≡ 2
  pub ends : first_child t (length t.bytes) ≡ length t.bytes

-- the trie of the patterns that are kept
pub record IsGrownTrie (p : Patterns) (trie : Trie) : Type 0 where
  pub names : List (Option (List ℕ))
  pub levels : AreLevels p names (layout_of p.ignore_case trie)
  pub bare : AreBare (layout_of p.ignore_case trie)
  pub owns : AreOwns p names trie.owns.items
