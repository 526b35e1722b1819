-- How the states of `Levels` lie in memory, and what is read there.
use Rattle.std.specs.Prelude.{◌≡◌, ◌≢◌, ◌||◌, ◌&&◌, ℕ, zero, suc, ◌+◌, ◌-◌, ◌*◌, ◌<◌, ◌≤◌, Bool, List, [], ◌∷◌, length, take, drop, nat_eq, nat_lt, slice_index_or, if◌then◌else◌, Option, Some, None, is_some}
use Rattle.aho_core.specs.Bytes.{folded_by}
use Rattle.aho_core.specs.Held.{held_after}
use Rattle.aho_core.specs.Numbers.{greatest_index}
use Rattle.aho_core.specs.Patterns.{Patterns}
use Rattle.aho_core.specs.declared.search.Anchored.{Anchored}
use Rattle.aho_core.specs.declared.search.Anchored.TheVariants.{No, Yes}
use Rattle.aho_prefilter.specs.Prefilter.{prefilter_bytes}
use Rattle.aho_prefilter.specs.declared.prefilter.Searcher.{Searcher}

-- by the numbers of the states: the first child of each, and one more behind the last; the byte that leads to it; how many bytes
-- its word has; its link; where its list stands. Then the rows of the first states, one behind the other; the lists; and the case rule
pub record StateTables : Type 0 where
  pub firsts : List ℕ
  pub bytes : List ℕ
  pub depths : List ℕ
  pub fails : List ℕ
  pub rows : List ℕ
  pub row_count : ℕ
  pub places : List ℕ
  pub lists : List ℕ
  pub ignore_case : Bool

-- the number is that of a state; that of the dead one is 0, and that of the root 1
abbrev pub IsStateNumber : StateTables → ℕ → Type 0
IsStateNumber t sid = sid < length t.bytes

-- the state's children are those from this one on and before the next state's first
abbrev pub first_child : StateTables → ℕ → ℕ
first_child t sid = slice_index_or t.firsts sid 0

-- the place of the first of some bytes that is this one, counted on from the place of the first
abbrev pub position_of : List ℕ → ℕ → ℕ → Option ℕ
position_of [] byte at = None
position_of (x ∷ xs) byte at = if nat_eq x byte then Some at else position_of xs byte (at + 1)

-- the bytes rise
abbrev pub AreRising : List ℕ → Type 0
AreRising xs = (i j : ℕ) → i < j → j < length xs → slice_index_or xs i 0 < slice_index_or xs j 0

-- those that are this one stand from one place on and before another
pub record StandsAmong (xs : List ℕ) (byte low high : ℕ) : Type 0 where
  pub ordered : low ≤ high
  pub within : high ≤ length xs
  pub before : (i : ℕ) → i < low → slice_index_or xs i 0 ≢ byte
  pub behind : (i : ℕ) → high ≤ i → i < length xs → slice_index_or xs i 0 ≢ byte

-- the bytes that lead to the children of a state
abbrev pub child_bytes : StateTables → ℕ → List ℕ
child_bytes t sid = take (first_child t (sid + 1) - first_child t sid) (drop (first_child t sid) t.bytes)

-- the child to which a byte leads as it is compared
abbrev pub child_at : StateTables → ℕ → ℕ → Option ℕ
child_at t sid folded = position_of (child_bytes t sid) folded (first_child t sid)

-- the child to which a byte leads
abbrev pub child_by : StateTables → ℕ → ℕ → Option ℕ
child_by t sid byte = child_at t sid (folded_by t.ignore_case byte)

abbrev pub depth_at : StateTables → ℕ → ℕ
depth_at t sid = slice_index_or t.depths sid 0

abbrev pub link_at : StateTables → ℕ → ℕ
link_at t sid = slice_index_or t.fails sid 0

-- whether the state has a row, and where that leads
abbrev pub is_row_state : StateTables → ℕ → Bool
is_row_state t sid = nat_lt sid t.row_count

abbrev pub row_entry_at : StateTables → ℕ → ℕ → ℕ
row_entry_at t sid byte = slice_index_or t.rows (sid * 256 + byte) 0

-- the state that is told, or else this one
abbrev pub told_else : Option ℕ → ℕ → ℕ
told_else None other = other
told_else (Some sid) other = sid

-- where a byte leads, where so many states may be looked at: down the links to the first state that takes it
abbrev pub along_links : ℕ → StateTables → ℕ → ℕ → ℕ
along_links zero t byte sid = 0
along_links (suc left) t byte sid = if is_row_state t sid then row_entry_at t sid byte else told_else (child_by t sid byte) (along_links left t byte (link_at t sid))

-- how many states are looked at
abbrev pub looks_on_links : ℕ → StateTables → ℕ → ℕ → ℕ
looks_on_links zero t byte sid = 0
looks_on_links (suc left) t byte sid =
    1 + (if is_row_state t sid || is_some (child_by t sid byte) then 0 else looks_on_links left t byte (link_at t sid))

-- where a byte leads, and the look-ups that this takes; an anchored step follows no link
abbrev pub next_at : StateTables → Anchored → ℕ → ℕ → ℕ
next_at t No sid byte = along_links (sid + 1) t byte sid
next_at t Yes sid byte = told_else (child_by t sid byte) 0

abbrev pub looks_of_step : StateTables → Anchored → ℕ → ℕ → ℕ
looks_of_step t No sid byte = looks_on_links (sid + 1) t byte sid
looks_of_step t Yes sid byte = 1

-- the list that stands here: its length, and then its patterns
abbrev pub list_at_place : List ℕ → ℕ → List ℕ
list_at_place lists place = take (slice_index_or lists place 0) (drop (place + 1) lists)

abbrev pub place_of_list : StateTables → ℕ → ℕ
place_of_list t sid = slice_index_or t.places sid 0

abbrev pub list_of_state : StateTables → ℕ → List ℕ
list_of_state t sid = list_at_place t.lists (place_of_list t sid)

-- whether a search has to look at the state: it is dead, or has another list than the empty one at the front, or it is the root and
-- the search may skip from it
abbrev pub is_marked_in : StateTables → ℕ → Bool
is_marked_in t sid = nat_eq sid 0 || nat_lt 0 (place_of_list t sid)

abbrev pub is_special_at : Bool → StateTables → ℕ → Bool
is_special_at skips t sid = is_marked_in t sid || (skips && nat_eq sid 1)

-- the state of a word: from child to child, and dead where there is none
abbrev pub walked : StateTables → ℕ → List ℕ → ℕ
walked t sid [] = sid
walked t sid (byte ∷ word) = walked t (told_else (child_at t sid byte) 0) word

abbrev pub state_for : StateTables → Option (List ℕ) → ℕ
state_for t None = 0
state_for t (Some word) = walked t 1 word

-- the look-ups of the byte that follows a word
abbrev pub lookups_at : StateTables → Patterns → Anchored → List ℕ → ℕ → ℕ
lookups_at t p anchored word byte = looks_of_step t anchored (state_for t (held_after p anchored word)) byte

-- there is a dead state and a root, and their tables are as long as there are states
pub record IsSizedTables (t : StateTables) : Type 0 where
  pub two : 2 ≤ length t.bytes
  pub small : length t.bytes ≤ greatest_index
  pub firsts : length t.firsts ≡ length t.bytes + 1
  pub depths : length t.depths ≡ length t.bytes
  pub rows : length t.rows ≡ 256 * t.row_count
  pub with_rows : 2 ≤ t.row_count
  pub linked : t.row_count ≤ length t.fails
  pub some_links : length t.fails ≤ length t.bytes

-- the children of a state stand side by side in the order of their bytes, each one deeper; the dead one has none
pub record HasChildren (t : StateTables) : Type 0 where
  pub ordered : (sid : ℕ) → IsStateNumber t sid → first_child t sid ≤ first_child t (sid + 1)
  pub within : (sid : ℕ) → IsStateNumber t sid → first_child t (sid + 1) ≤ length t.bytes
  pub rising : (sid : ℕ) → IsStateNumber t sid → AreRising (child_bytes t sid)
  pub state : (sid folded child : ℕ) → IsStateNumber t sid → child_at t sid folded ≡ Some child → IsStateNumber t child
  pub deeper : (sid folded child : ℕ) → IsStateNumber t sid → child_at t sid folded ≡ Some child → depth_at t child ≡ depth_at t sid + 1
  pub dead_none : (folded : ℕ) → child_at t 0 folded ≡ None
  pub shallow : (sid : ℕ) → IsStateNumber t sid → depth_at t sid ≤ greatest_index
  pub dead_depth : depth_at t 0 ≡ 0
  pub root_depth : depth_at t 1 ≡ 0

-- an entry of a row leads to a state, one deeper at most, and that of the dead state to it; a link that is made leads to one before
-- it, and less deep
pub record IsWalkable (t : StateTables) : Type 0 where
  pub entry : (sid byte : ℕ) → sid < t.row_count → byte < 256 → IsStateNumber t (row_entry_at t sid byte)
  pub entry_near : (sid byte : ℕ) → sid < t.row_count → byte < 256 → depth_at t (row_entry_at t sid byte) ≤ depth_at t sid + 1
  pub dead_stays : (byte : ℕ) → byte < 256 → row_entry_at t 0 byte ≡ 0
  pub link : (sid : ℕ) → t.row_count ≤ sid → sid < length t.fails → link_at t sid < sid
  pub lower : (sid : ℕ) → 0 < sid → sid < length t.fails → link_at t sid < sid
  pub link_nearer : (sid : ℕ) → t.row_count ≤ sid → sid < length t.fails → depth_at t (link_at t sid) < depth_at t sid

-- what a step needs
pub record CanStepThrough (t : StateTables) : Type 0 where
  pub sized : IsSizedTables t
  pub children : HasChildren t
  pub walkable : IsWalkable t

-- each list stands within the lists, and an empty one at the front, where that of the dead state is
pub record HasLists (t : StateTables) : Type 0 where
  pub within : (sid : ℕ) → IsStateNumber t sid → place_of_list t sid + slice_index_or t.lists (place_of_list t sid) 0 < length t.lists
  pub empty : slice_index_or t.lists 0 0 ≡ 0
  pub small : length t.lists ≤ greatest_index + 1
  pub dead : place_of_list t 0 ≡ 0

pub record IsSoundStates (t : StateTables) : Type 0 where
  pub steps : CanStepThrough t
  pub listed : HasLists t
  pub fails : length t.fails ≡ length t.bytes
  pub places : length t.places ≡ length t.bytes

-- the bytes of the entries, by stated sizes
abbrev pub states_memory : StateTables → ℕ
states_memory t = 4 * (length t.firsts + length t.depths + length t.fails + length t.places + (length t.rows + length t.lists)) + length t.bytes

-- and those of the lengths of patterns, and what a prefilter holds
abbrev pub levels_memory : StateTables → List ℕ → Option Searcher → ℕ
levels_memory t lengths prefilter = states_memory t + 4 * length lengths + prefilter_bytes prefilter
