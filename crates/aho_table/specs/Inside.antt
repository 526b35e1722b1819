-- The inside of a table: what its records and its stores of lists make of its states, the classes of bytes, and the rows by them.
use Rattle.std.specs.Prelude.{◌≡◌, ◌≢◌, ℕ, ◌+◌, ◌-◌, ◌<◌, ◌≤◌, ◌⊎◌, Bool, true, nat_lt, List, [], ◌∷◌, map, length, slice_index, slice_index_or}
use Rattle.aho_core.specs.Numbers.{greatest_index}
use Rattle.aho_table.specs.Lists.{Lists, PatternLists, list_at, closed_at, IsList}
use Rattle.aho_table.specs.Renaming.{IsLed}
use Rattle.aho_table.specs.Alphabet.{class_of, class_count}
use Rattle.aho_table.specs.Table.{State, state_at, transition_at, transitions_count, matches_count}
use Rattle.aho_table.specs.declared.links.states.Record.{Record}

-- states, and the greatest index that they may use
pub record LimitedStates : Type 0 where
  pub states : List State
  pub limit : ℕ

-- the record of this state
abbrev pub record_at : List Record → ℕ → Record
record_at records sid = slice_index_or records sid (record { transitions = 0; matches = 0; fail = 1; depth = 0 })

-- the state of a record, where these are the lists
abbrev pub recorded_state : List (List (ℕ × ℕ)) → List (List ℕ) → Record → State
recorded_state transitions matches state = record {
  transitions = list_at transitions state.transitions;
  matches = list_at matches state.matches;
  fail = state.fail;
  depth = state.depth;
}

unfoldable pub recorded_states : List (List (ℕ × ℕ)) → List (List ℕ) → List Record → List State
recorded_states transitions matches records = map (recorded_state transitions matches) records

-- the record's link is led to another, and all else stays
pub record IsLinkLed (leads : ℕ → ℕ → Type 0) (old new : Record) : Type 0 where
  pub transitions : new.transitions ≡ old.transitions
  pub matches : new.matches ≡ old.matches
  pub depth : new.depth ≡ old.depth
  pub fail : IsLed leads old.fail new.fail

-- the numbers of the states' lists
abbrev pub transition_numbers : List Record → List ℕ
transition_numbers records = map (λ (state : Record). state.transitions) records

abbrev pub match_numbers : List Record → List ℕ
match_numbers records = map (λ (state : Record). state.matches) records

-- the numbers that more than one state may have: that of the empty list, and of patterns that of a closed list too
abbrev pub IsNone : ℕ → Type 0
IsNone number = number ≡ 0

abbrev pub IsShared : List Bool → ℕ → Type 0
IsShared closed number = (number ≡ 0) ⊎ (closed_at closed number ≡ true)

-- each number is that of a list, and no two are of one list, but of a common one
pub record AreNumbers {X : Type 0} (IsCommon : ℕ → Type 0) (numbers : List ℕ) (lists : List (List X)) : Type 0 where
  pub known : (i : ℕ) → i < length numbers → IsList lists (slice_index numbers i)
  pub apart : (i j : ℕ) → i < length numbers → j < length numbers → i ≢ j → slice_index numbers i ≡ slice_index numbers j → IsCommon (slice_index numbers i)

-- each state has lists of its own, or shares one of patterns that is closed; no index is above the limit
pub record IsConsistent (records : List Record) (transitions : Lists (ℕ × ℕ)) (matches : PatternLists) (limit : ℕ) : Type 0 where
  pub small : limit ≤ greatest_index
  pub states_within : length records ≤ limit + 1
  pub transitions_limit : transitions.limit ≡ limit
  pub matches_limit : matches.limit ≡ limit
  pub transition_lists : AreNumbers IsNone (transition_numbers records) transitions.lists
  pub match_lists : AreNumbers (IsShared matches.closed) (match_numbers records) matches.lists
  pub transitions_are : length transitions.lists ≡ transitions_count (recorded_states transitions.lists matches.lists records)
  pub matches_are : matches.count ≡ matches_count (recorded_states transitions.lists matches.lists records)

-- ---- the rows

-- the borders that a class for each byte tells: one where the class rises from a byte to the next
unfoldable pub borders_of : List ℕ → List Bool
borders_of [] = []
borders_of (class ∷ []) = []
borders_of (class ∷ next ∷ classes) = nat_lt class next ∷ borders_of (next ∷ classes)

-- each byte has the class that the borders give it
pub record AreClasses (classes : List ℕ) : Type 0 where
  pub sized : length classes ≡ 256
  pub counted : (byte : ℕ) → byte < 256 → slice_index_or classes byte 0 ≡ class_of (borders_of classes) byte

-- where the byte leads by the row that starts here. The entries are those from index 1 on
abbrev pub row_next : List Bool → List ℕ → ℕ → ℕ → ℕ
row_next classes entries start byte = slice_index_or entries (start + class_of classes byte - 1) 1

-- a row starts here
pub record IsRow (classes : List Bool) (entries : List ℕ) (start : ℕ) : Type 0 where
  pub some : 0 < start
  pub within : start + class_count classes ≤ length entries + 1

-- the row that starts here leads each byte where the list leads it
pub record IsRowOf (classes : List Bool) (entries : List ℕ) (transitions : List (ℕ × ℕ)) (start : ℕ) : Type 0 where
  pub row : IsRow classes entries start
  pub leads : (byte : ℕ) → byte < 256 → row_next classes entries start byte ≡ transition_at transitions byte

-- a row of the list was added behind the others
pub record IsRowAdded (classes : List Bool) (old : List ℕ) (transitions : List (ℕ × ℕ)) (new : List ℕ) : Type 0 where
  pub few : class_count classes ≤ 256
  pub longer : length new ≡ length old + class_count classes
  pub kept : (i : ℕ) → i < length old → slice_index_or new i 1 ≡ slice_index_or old i 1
  pub added : IsRowOf classes new transitions (length old + 1)

-- where the state's row starts, and 0 where it has none
abbrev pub start_in : List ℕ → ℕ → ℕ
start_in starts sid = slice_index_or starts sid 0

-- whether the state has a row, of which this is the start
abbrev pub is_start : ℕ → Bool
is_start start = nat_lt 0 start

-- each state has a row that leads as its list does, or none
pub record HasRows (states : List State) (starts : List ℕ) (classes : List Bool) (entries : List ℕ) (limit : ℕ) : Type 0 where
  pub state_count : length starts ≡ length states
  pub bounded : length entries ≤ limit + 255
  pub rows : (sid : ℕ) → 0 < start_in starts sid → IsRowOf classes entries (state_at states sid).transitions (start_in starts sid)

-- while a row is filled: a class leads where the list leads its bytes, or still nowhere, where the rest of the list has them
pub record IsFilled (classes : List Bool) (transitions rest : List (ℕ × ℕ)) (row : List ℕ) : Type 0 where
  pub sized : length row ≡ 256
  pub leads : (byte : ℕ) → byte < 256
      → (slice_index_or row (class_of classes byte) 1 ≡ transition_at transitions byte)
      ⊎ ((slice_index_or row (class_of classes byte) 1 ≡ 1) × (transition_at rest byte ≡ transition_at transitions byte))
