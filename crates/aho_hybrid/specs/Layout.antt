-- How the states of a `Hybrid` lie in memory, and what is read there.
use Rattle.std.specs.Prelude.{◌≡◌, ◌≢◌, ◌||◌, ℕ, zero, suc, ◌+◌, ◌-◌, ◌<◌, ◌≤◌, ◌%◌, ◌/◌, Bool, true, false, List, [], ◌∷◌, length, take, drop, nat_eq, nat_lt, slice_index_or, if◌then◌else◌, Result, Ok, Err, Option, Some, None, is_some, ◌*◌}
use Rattle.std.specs.List.{All}
use Rattle.aho_core.specs.Held.{held_after}
use Rattle.aho_core.specs.Numbers.{greatest_index}
use Rattle.aho_core.specs.Patterns.{Patterns}
use Rattle.aho_core.specs.declared.error.MatchErrorKind.{MatchErrorKind}
use Rattle.aho_core.specs.declared.error.MatchErrorKind.TheVariants.{InvalidInputAnchored}
use Rattle.aho_core.specs.declared.search.Anchored.{Anchored}
use Rattle.aho_core.specs.declared.search.Anchored.TheVariants.{No, Yes}
use Rattle.aho_prefilter.specs.Prefilter.{prefilter_bytes}
use Rattle.aho_prefilter.specs.declared.prefilter.Searcher.{Searcher}
use Rattle.aho_table.specs.Alphabet.{class_of, class_count}

-- the rows, one behind the other; the records of the deep states, and their transitions; the lists of patterns; how deep each
-- state with a row is, and how deep the deepest may be; the borders between the classes of bytes; the start; and the numbers below which a state with a row is special, may list a pattern or is
-- dead, and below which a deep state does all of it
pub record Layout : Type 0 where
  pub rows : List ℕ
  pub deep : List ℕ
  pub moves : List ℕ
  pub lists : List ℕ
  pub depths : List ℕ
  pub row_depth : ℕ
  pub classes : List Bool
  pub start : ℕ
  pub low : ℕ
  pub list_low : ℕ
  pub deep_low : ℕ

-- the entries of a row: where each class of bytes leads, and one more that says where the state's list stands
abbrev pub stride_of : List Bool → ℕ
stride_of classes = class_count classes + 1

-- the words of a deep state's record: its link, the place of its list, its depth below the rows, and the place and the count
-- of the words of its transitions
abbrev pub record_size : ℕ
record_size = 5

-- a state with a row is numbered by the place where its row begins
pub record IsAtStride (stride size sid : ℕ) : Type 0 where
  pub whole : sid % stride ≡ 0
  pub within : sid + stride ≤ size

abbrev pub HasRow : Layout → ℕ → Type 0
HasRow t sid = IsAtStride (stride_of t.classes) (length t.rows) sid

-- a deep state by the place of its record, counted on from the end of the rows
pub record IsDeep (t : Layout) (sid : ℕ) : Type 0 where
  pub behind : length t.rows ≤ sid
  pub record_of : IsAtStride record_size (length t.deep) (sid - length t.rows)

-- whether the number is below those of the deep states
abbrev pub is_row : Layout → ℕ → Bool
is_row t sid = nat_lt sid (length t.rows)

-- the number is that of a state
pub record IsStateIn (t : Layout) (sid : ℕ) : Type 0 where
  pub with_row : is_row t sid ≡ true → HasRow t sid
  pub without_row : is_row t sid ≡ false → IsDeep t sid

-- where a row leads
abbrev pub entry_in : Layout → ℕ → ℕ → ℕ
entry_in t sid byte = slice_index_or t.rows (sid + class_of t.classes byte) 0

-- a word of a deep state's record
abbrev pub record_word : Layout → ℕ → ℕ → ℕ
record_word t sid index = slice_index_or t.deep (sid - length t.rows + index) 0

abbrev pub link_in : Layout → ℕ → ℕ
link_in t sid = record_word t sid 0

-- how deep a state is below the rows: 0 for a state that has one
abbrev pub depth_below_rows : Layout → ℕ → ℕ
depth_below_rows t sid = if is_row t sid then 0 else record_word t sid 2

-- how deep a state is, from the start: one with a row as the number for its row says
abbrev pub depth_of_state : Layout → ℕ → ℕ
depth_of_state t sid = if is_row t sid then slice_index_or t.depths (sid / stride_of t.classes) 0 else t.row_depth + record_word t sid 2

-- transitions are bytes, each with the state that it leads to: the first of a byte
abbrev pub child_of : List ℕ → ℕ → Option ℕ
child_of [] byte = None
child_of (key ∷ []) byte = None
child_of (key ∷ next ∷ moves) byte = if nat_eq key byte then Some next else child_of moves byte

-- the transitions of a deep state
abbrev pub moves_in : Layout → ℕ → List ℕ
moves_in t sid = take (record_word t sid 4) (drop (record_word t sid 3) t.moves)

-- their bytes rise
abbrev pub AreRisingMoves : List ℕ → Type 0
AreRisingMoves moves = (i j : ℕ) → i < j → 2 * j + 1 < length moves → slice_index_or moves (2 * i) 0 < slice_index_or moves (2 * j) 0

-- those of a byte stand from one place on and before another
pub record IsAmong (moves : List ℕ) (byte low high : ℕ) : Type 0 where
  pub ordered : low ≤ high
  pub within : 2 * high ≤ length moves
  pub before : (i : ℕ) → i < low → slice_index_or moves (2 * i) 0 ≢ byte
  pub behind : (i : ℕ) → high ≤ i → 2 * i + 1 < length moves → slice_index_or moves (2 * i) 0 ≢ byte

abbrev pub child_in : Layout → ℕ → ℕ → Option ℕ
child_in t sid byte = child_of (moves_in t sid) byte

-- the state that is told, or else this one
abbrev pub told_or : Option ℕ → ℕ → ℕ
told_or None other = other
told_or (Some sid) other = sid

-- where a byte leads, where so many states may be looked at: down the links to the first state that takes it
abbrev pub along : Layout → ℕ → ℕ → ℕ → ℕ
along t byte zero sid = 0
along t byte (suc left) sid = if is_row t sid then entry_in t sid byte else told_or (child_in t sid byte) (along t byte left (link_in t sid))

-- how many states are looked at
abbrev pub looks_along : Layout → ℕ → ℕ → ℕ → ℕ
looks_along t byte zero sid = 0
looks_along t byte (suc left) sid =
    1 + (if is_row t sid || is_some (child_in t sid byte) then 0 else looks_along t byte left (link_in t sid))

-- where a byte leads, and the look-ups that this takes
abbrev pub next_state_in : Layout → ℕ → ℕ → ℕ
next_state_in t sid byte = along t byte (depth_below_rows t sid + 1) sid

abbrev pub looks_in : Layout → ℕ → ℕ → ℕ
looks_in t sid byte = looks_along t byte (depth_below_rows t sid + 1) sid

-- the list that stands here: its length, and then its patterns
abbrev pub list_from : List ℕ → ℕ → List ℕ
list_from lists place = take (slice_index_or lists place 0) (drop (place + 1) lists)

-- where the list of a state stands
abbrev pub list_place : Layout → ℕ → ℕ
list_place t sid = if is_row t sid then slice_index_or t.rows (sid + class_count t.classes) 0 else record_word t sid 1

-- whether a search has to look at the state
abbrev pub is_special_number : Layout → ℕ → Bool
is_special_number t sid = if is_row t sid then nat_lt sid t.low else nat_lt sid t.deep_low

-- whether the state is dead or may list a pattern
abbrev pub is_marked_number : Layout → ℕ → Bool
is_marked_number t sid = if is_row t sid then nat_lt sid t.list_low else nat_lt sid t.deep_low

-- what a state lists: only marked ones list a pattern
abbrev pub list_in : Layout → ℕ → List ℕ
list_in t sid = if is_marked_number t sid then list_from t.lists (list_place t sid) else []

-- the state after a word, from a state on
abbrev pub run_from : Layout → ℕ → List ℕ → ℕ
run_from t sid [] = sid
run_from t sid (byte ∷ word) = run_from t (next_state_in t sid byte) word

-- where a state of the words stands: where its own word leads, and at 0 if it is the dead one
abbrev pub standing_in : Layout → Option (List ℕ) → ℕ
standing_in t None = 0
standing_in t (Some word) = run_from t t.start word

-- some bytes lead the words to the state to which this one leads them
abbrev pub IsReached : Patterns → List ℕ → Type 0
IsReached p word = (bytes : List ℕ) × All (λ byte. byte < 256) bytes × (held_after p No bytes ≡ held_after p No word)

-- the state that an unanchored search holds after a word; there is no other search
abbrev pub IsHeldIn : Layout → Patterns → Anchored → List ℕ → ℕ → Type 0
IsHeldIn t p No word sid = IsReached p word × (sid ≡ standing_in t (held_after p No word))
IsHeldIn t p Yes word sid = ⊥

abbrev pub start_for : Layout → Anchored → Result ℕ MatchErrorKind
start_for t No = Ok t.start
start_for t Yes = Err InvalidInputAnchored

-- the look-ups of the byte that follows a word
abbrev pub lookups_in : Layout → Patterns → List ℕ → ℕ → ℕ
lookups_in t p word byte = looks_in t (standing_in t (held_after p No word)) byte

-- each entry of a row leads to a state, one below the rows at most, and the state 0 leads to itself by every byte; it is marked, and
-- what is marked is special
pub record IsSoundRows (t : Layout) : Type 0 where
  pub dead : HasRow t 0
  pub start : HasRow t t.start
  pub next : (sid class : ℕ) → HasRow t sid → class < class_count t.classes → IsStateIn t (slice_index_or t.rows (sid + class) 0)
  pub near : (sid class : ℕ) → HasRow t sid → class < class_count t.classes → depth_below_rows t (slice_index_or t.rows (sid + class) 0) ≤ 1
  pub dead_stays : (class : ℕ) → class < class_count t.classes → slice_index_or t.rows class 0 ≡ 0
  pub dead_marked : 0 < t.list_low
  pub marked_special : t.list_low ≤ t.low

-- the transitions of a deep state rise by their bytes; one leads to a state, one deeper at most; a link is followed only to one less
-- deep
pub record IsSoundDeep (t : Layout) : Type 0 where
  pub moves : (sid : ℕ) → IsDeep t sid → record_word t sid 3 + record_word t sid 4 ≤ length t.moves
  pub rising : (sid : ℕ) → IsDeep t sid → AreRisingMoves (moves_in t sid)
  pub next : (sid byte next : ℕ) → IsDeep t sid → byte < 256 → child_in t sid byte ≡ Some next
      → IsStateIn t next × (depth_below_rows t next ≤ depth_below_rows t sid + 1)
  pub link : (sid byte : ℕ) → IsDeep t sid → byte < 256 → child_in t sid byte ≡ None
      → IsStateIn t (link_in t sid) × (depth_below_rows t (link_in t sid) < depth_below_rows t sid)

pub record IsSoundLayout (t : Layout) : Type 0 where
  pub in_rows : IsSoundRows t
  pub in_deep : IsSoundDeep t
  -- a state's list stands within the lists
  pub listed : (sid : ℕ) → IsStateIn t sid → list_place t sid + slice_index_or t.lists (list_place t sid) 0 < length t.lists
  -- there is a number for each row, and how deep a deep state is is an index
  pub deepnesses : (sid : ℕ) → HasRow t sid → sid / stride_of t.classes < length t.depths
  pub depths_small : (sid : ℕ) → IsDeep t sid → t.row_depth + record_word t sid 2 ≤ greatest_index
  -- and so is how deep it is below the rows
  pub shallow : (sid : ℕ) → IsStateIn t sid → depth_below_rows t sid ≤ greatest_index
  pub small : length t.rows + length t.deep ≤ greatest_index
  pub small_lists : length t.lists ≤ greatest_index + 1
  pub small_moves : length t.moves ≤ greatest_index
  pub small_depths : length t.depths ≤ greatest_index

-- the bytes of the entries, the records, the transitions, the lists, the depths and the lengths of patterns, by stated sizes, and
-- what a prefilter holds
abbrev pub memory_in : Layout → List ℕ → Option Searcher → ℕ
memory_in t lengths prefilter = 4 * (length t.rows + length t.deep + length t.moves + length t.lists + length t.depths + length lengths) + prefilter_bytes prefilter
