-- The states of an automaton that is read out, as they are laid out.
use Rattle.std.specs.Prelude.{◌≡◌, ℕ, ◌+◌, ◌*◌, ◌-◌, ◌^◌, ◌<◌, ◌≤◌, ◌||◌, ◌⊎◌, Bool, not, false, true, List, [], ◌∷◌, ◌++◌, length, map, min, take, nat_eq, nat_lt, slice_index_or, if◌then◌else◌, IfSome}
use Rattle.std.specs.List.{count_by, range_with_len, sum, sum_by}
use Rattle.aho_core.specs.Numbers.{greatest_index}
use Rattle.aho_core.specs.declared.error.BuildError.{BuildError}
use Rattle.aho_core.specs.declared.error.BuildError.TheVariants.{StateIDOverflow, OutOfMemory}
use Rattle.aho_core.specs.declared.search.Anchored.TheVariants.{No}
use Rattle.aho_build.specs.Walking.{IsState, step_in}
use Rattle.aho_build.specs.declared.special.Special.{Special}
use Rattle.aho_table.specs.Alphabet.{class_of, class_count}
use Rattle.aho_table.specs.Table.{IsRising, State, dead_id, fail_id, fail_in, depth_in, matches_in, state_at, transition_at}
use Rattle.aho_corasick.specs.ReadOut.{classes_of, special_of, states_of}
use Rattle.aho_corasick.specs.declared.noncontiguous.NFA.{NFA}
use Rattle.aho_hybrid.specs.declared.fill.Filled.{Filled}
use Rattle.aho_hybrid.specs.declared.fill.Near.{Near}
use Rattle.aho_hybrid.specs.declared.fill.Plan.{Plan}
use Rattle.aho_hybrid.specs.declared.lists.Lists.{Lists}
use Rattle.aho_hybrid.specs.Layout.{Layout, stride_of, record_size}

-- ---- which states have rows, and how the states are numbered

-- whether a state is deep: deeper than the states with rows
abbrev pub is_deep : ℕ → State → Bool
is_deep row_depth state = nat_lt row_depth state.depth

abbrev pub is_shallow : ℕ → State → Bool
is_shallow row_depth state = not (is_deep row_depth state)

-- how many states have rows
unfoldable pub rows_count : ℕ → List State → ℕ
rows_count row_depth states = count_by (is_shallow row_depth) states

unfoldable pub deep_count : ℕ → List State → ℕ
deep_count row_depth states = count_by (is_deep row_depth) states

-- the entries of all rows: for each state one for each class, and one for its list
abbrev pub row_entries : ℕ → List State → List Bool → ℕ
row_entries row_depth states classes = rows_count row_depth states * stride_of classes

-- the words of all rows and records
abbrev pub state_words : ℕ → List State → List Bool → ℕ
state_words row_depth states classes = row_entries row_depth states classes + deep_count row_depth states * record_size

-- the greatest depth down to which rows take at most so many bytes, or 0
pub record IsRowDepth (states : List State) (classes : List Bool) (budget row_depth : ℕ) : Type 0 where
  pub fits : 0 < row_depth → row_entries row_depth states classes * 4 ≤ budget
  pub greatest : 0 < deep_count row_depth states → budget < row_entries (row_depth + 1) states classes * 4

-- the bytes that the rows of `from_nfa` may take
abbrev pub default_budget : ℕ
default_budget = 327680

-- where the row of a state begins, and where the record of a deep one does
abbrev pub row_at : ℕ → List State → List Bool → ℕ → ℕ
row_at row_depth states classes sid = rows_count row_depth (take sid states) * stride_of classes

abbrev pub record_place : ℕ → List State → ℕ → ℕ
record_place row_depth states sid = deep_count row_depth (take sid states) * record_size

-- the number of a state
abbrev pub number_of : ℕ → List State → List Bool → ℕ → ℕ
number_of row_depth states classes sid =
    if is_deep row_depth (state_at states sid) then row_entries row_depth states classes + record_place row_depth states sid else row_at row_depth states classes sid

-- the numbers of the states below the count
pub record AreStateNumbers (row_depth : ℕ) (states : List State) (classes : List Bool) (count : ℕ) (numbers : List ℕ) : Type 0 where
  pub sized : length numbers ≡ count
  pub number : (sid : ℕ) → sid < count → slice_index_or numbers sid 0 ≡ number_of row_depth states classes sid

-- how deep the states below the count are that have a row, in the order of the rows
pub record AreDepths (row_depth : ℕ) (states : List State) (count : ℕ) (depths : List ℕ) : Type 0 where
  pub sized : length depths ≡ rows_count row_depth (take count states)
  pub depth : (sid : ℕ) → sid < count → is_deep row_depth (state_at states sid) ≡ false
      → slice_index_or depths (rows_count row_depth (take sid states)) 0 ≡ depth_in states sid

-- ---- lists and transitions

-- the state whose row stands at the place of this one: for FAIL and the anchored start it is the unanchored start
abbrev pub source_in : Special → ℕ → ℕ
source_in special index = if nat_eq index dead_id then dead_id else if nat_eq index fail_id || nat_eq index special.start_anchored_id then special.start_unanchored_id else index

-- whether the list of a state is its own: it has more patterns than that of the state's link. Any other is the link's
abbrev pub has_own_list : List State → ℕ → Bool
has_own_list states sid = nat_lt (length (matches_in states (fail_in states sid))) (length (matches_in states sid))

-- the words of a list of its own: its length and its patterns
abbrev pub list_words : List State → ℕ → ℕ
list_words states sid = if has_own_list states sid then length (matches_in states sid) + 1 else 0

-- the words of the lists of the states below the count
unfoldable pub lists_below : List State → ℕ → ℕ
lists_below states count = sum (map (list_words states) (range_with_len 0 count))

-- the words of all lists: all empty lists are one word
abbrev pub lists_size : NFA → ℕ
lists_size nfa = 1 + lists_below (states_of nfa) (length (states_of nfa))

-- at this place the list stands: its length, and then its patterns
pub record IsListAt (lists : List ℕ) (place : ℕ) (list : List ℕ) : Type 0 where
  pub before : List ℕ
  pub after : List ℕ
  pub whole : lists ≡ before ++ length list ∷ (list ++ after)
  pub place_is : length before ≡ place

-- the list of each state stands at its place
pub record AreListPlaces (states : List State) (lists places : List ℕ) : Type 0 where
  pub sized : length places ≡ length states
  pub listed : (sid : ℕ) → sid < length states → IsListAt lists (slice_index_or places sid 0) (matches_in states sid)

-- of the states below the count each list of its own stands at its place, and whatever other place is set is that of the state's list
pub record AreOwnPlaces (states : List State) (count : ℕ) (lists places : List ℕ) : Type 0 where
  pub sized : length places ≡ count
  pub empty : IsListAt lists 0 []
  pub listed : (sid : ℕ) → sid < count → 0 < slice_index_or places sid 0 → IsListAt lists (slice_index_or places sid 0) (matches_in states sid)
  pub own : (sid : ℕ) → sid < count → has_own_list states sid ≡ true → 0 < slice_index_or places sid 0

-- so do the lists of their own of the states below the count, which take so many words
pub record AreOwnLists (states : List State) (count : ℕ) (lists : Lists) : Type 0 where
  pub places : AreOwnPlaces states count lists.words.items lists.places.items
  pub sized : length lists.words.items ≡ 1 + lists_below states count

-- and the states below the count that list a pattern have a place
pub record AreShared (states : List State) (count : ℕ) (lists : Lists) : Type 0 where
  pub places : AreOwnPlaces states (length states) lists.words.items lists.places.items
  pub set : (sid : ℕ) → sid < count → 0 < length (matches_in states sid) → 0 < slice_index_or lists.places.items sid 0

-- a state has a place now, and whatever has had one has one; the lists stay
pub record IsSharedDown (states : List State) (sid : ℕ) (old new : Lists) : Type 0 where
  pub words : new.words.items ≡ old.words.items
  pub places : AreOwnPlaces states (length states) new.words.items new.places.items
  pub kept : (other : ℕ) → 0 < slice_index_or old.places.items other 0 → 0 < slice_index_or new.places.items other 0
  pub set : 0 < length (matches_in states sid) → 0 < slice_index_or new.places.items sid 0

-- the words of a transition: its byte and where it leads, if it leads on
abbrev pub transition_words : ℕ × ℕ → ℕ
transition_words transition = if nat_eq transition.1 fail_id then 0 else 2

-- the words of the transitions of a state that has no row
abbrev pub moves_words : ℕ → Special → List State → ℕ → ℕ
moves_words row_depth special states sid = if is_deep row_depth (state_at states sid) then sum_by transition_words (state_at states (source_in special sid)).transitions else 0

-- those of the states below the count
unfoldable pub moves_below : ℕ → Special → List State → ℕ → ℕ
moves_below row_depth special states count = sum (map (moves_words row_depth special states) (range_with_len 0 count))

-- the words of the transitions of all states without rows
abbrev pub moves_size : NFA → ℕ → ℕ
moves_size nfa row_depth = moves_below row_depth (special_of nfa) (states_of nfa) (length (states_of nfa))

-- the rows, records, lists and transitions are those of all states
pub record HasSizes (nfa : NFA) (row_depth : ℕ) (t : Layout) : Type 0 where
  pub rows : length t.rows ≡ row_entries row_depth (states_of nfa) (classes_of nfa)
  pub deep : length t.deep ≡ deep_count row_depth (states_of nfa) * record_size
  pub moves : length t.moves ≡ moves_size nfa row_depth
  pub lists : length t.lists ≡ lists_size nfa
  pub depths : length t.depths ≡ rows_count row_depth (states_of nfa)

-- ---- what is refused

-- the number of words of rows and records, that of lists and that of transitions are not above the greatest index
pub record FitIndexes (nfa : NFA) (row_depth : ℕ) : Type 0 where
  pub states : state_words row_depth (states_of nfa) (classes_of nfa) ≤ greatest_index
  pub lists : lists_size nfa ≤ greatest_index
  pub moves : moves_size nfa row_depth ≤ greatest_index

-- a size as it is told: the greatest number of 64 bits in place of all above it
abbrev pub told_size : ℕ → ℕ
told_size size = min size (2 ^ 64 - 1)

-- a size is above the greatest index, and is told
abbrev pub IsTooLarge : ℕ → BuildError → Type 0
IsTooLarge size error = (greatest_index < size) × (error ≡ StateIDOverflow greatest_index (told_size size))

-- memory was wanted
abbrev pub IsOutOfMemory : BuildError → Type 0
IsOutOfMemory error = error ≡ OutOfMemory

-- the first of the three sizes that does not fit is told; where all fit, memory was wanted
abbrev pub rows_refusal : NFA → ℕ → BuildError
rows_refusal nfa row_depth =
    if nat_lt greatest_index (state_words row_depth (states_of nfa) (classes_of nfa)) then StateIDOverflow greatest_index (told_size (state_words row_depth (states_of nfa) (classes_of nfa)))
    else if nat_lt greatest_index (lists_size nfa) then StateIDOverflow greatest_index (told_size (lists_size nfa))
    else if nat_lt greatest_index (moves_size nfa row_depth) then StateIDOverflow greatest_index (told_size (moves_size nfa row_depth))
    else OutOfMemory

-- why the states are refused, with rows for at most so many bytes
abbrev pub IsRowsRefusal : NFA → ℕ → BuildError → Type 0
IsRowsRefusal nfa budget error =
    (row_depth : ℕ) × IsRowDepth (states_of nfa) (classes_of nfa) budget row_depth × (error ≡ rows_refusal nfa row_depth)

-- ---- rows

-- a byte of each class stands at the class's place
pub record AreFirstBytes (classes : List Bool) (firsts : List ℕ) : Type 0 where
  pub sized : length firsts ≡ 256
  pub of_class : (byte : ℕ) → byte < 256 → class_of classes (slice_index_or firsts (class_of classes byte) 0) ≡ class_of classes byte

-- what the states are made of: the states that are read out, the borders, a byte for each class, the number of each state, the lists
-- and where that of each state stands, how deep each state with a row is, how deep states have rows, and whether a search may skip from the start
pub record Parts : Type 0 where
  pub special : Special
  pub states : List State
  pub classes : List Bool
  pub firsts : List ℕ
  pub numbers : List ℕ
  pub lists : List ℕ
  pub places : List ℕ
  pub depths : List ℕ
  pub row_depth : ℕ
  pub skips : Bool

abbrev pub parts_of : NFA → List ℕ → List ℕ → List ℕ → List ℕ → List ℕ → ℕ → Bool → Parts
parts_of nfa firsts numbers lists places depths row_depth skips = record {
  special = special_of nfa;
  states = states_of nfa;
  classes = classes_of nfa;
  firsts = firsts;
  numbers = numbers;
  lists = lists;
  places = places;
  depths = depths;
  row_depth = row_depth;
  skips = skips;
}

abbrev pub plan_of : NFA → Plan → Parts
plan_of nfa plan = parts_of nfa plan.firsts plan.numbers.items plan.lists.items plan.places.items plan.depths.items plan.row_depth plan.skips

-- the numbers are those of the states, the places those of their lists, the depths those of the states with rows, and the entries of a
-- row are as many as there are classes, and one
pub record IsPlan (plan : Parts) (stride : ℕ) : Type 0 where
  pub stride_is : stride ≡ stride_of plan.classes
  pub bounded : stride ≤ 257
  pub sized : length plan.firsts ≡ 256
  pub numbered : AreStateNumbers plan.row_depth plan.states plan.classes (length plan.states) plan.numbers
  pub placed : AreListPlaces plan.states plan.lists plan.places
  pub deepnesses : AreDepths plan.row_depth plan.states (length plan.states) plan.depths

-- the number of a state, and 0 where there is none
abbrev pub number_or_zero : List ℕ → ℕ → ℕ
number_or_zero numbers sid = slice_index_or numbers sid 0

abbrev pub number_in : Parts → ℕ → ℕ
number_in plan sid = number_or_zero plan.numbers sid

-- the state to which a byte of the class leads
abbrev pub leads_in : Parts → ℕ → ℕ → ℕ
leads_in plan sid class = step_in plan.states No sid (slice_index_or plan.firsts class 0)

-- a byte leads from the state to a state, and from DEAD to DEAD
pub record IsStep (states : List State) (sid byte : ℕ) : Type 0 where
  pub small : byte < 256
  pub state : IsState states (step_in states No sid byte)
  pub dead_stays : sid ≡ dead_id → step_in states No sid byte ≡ dead_id

-- entries of the first classes were added
pub record HasEntries (plan : Parts) (sid count : ℕ) (old new : List ℕ) : Type 0 where
  pub sized : length new ≡ length old + count
  pub same : (i : ℕ) → i < length old → slice_index_or new i 0 ≡ slice_index_or old i 0
  pub entry : (class : ℕ) → class < count → slice_index_or new (length old + class) 0 ≡ number_in plan (leads_in plan sid class)
  pub step : (class : ℕ) → class < count → IsStep plan.states sid (slice_index_or plan.firsts class 0)

abbrev pub row_in : Parts → ℕ → ℕ
row_in plan sid = row_at plan.row_depth plan.states plan.classes sid

abbrev pub IsShallow : Parts → ℕ → Type 0
IsShallow plan sid = is_deep plan.row_depth (state_at plan.states sid) ≡ false

abbrev pub IsDeepState : Parts → ℕ → Type 0
IsDeepState plan sid = is_deep plan.row_depth (state_at plan.states sid) ≡ true

-- the rows of the states below the count
pub record AreRows (plan : Parts) (count : ℕ) (entries : List ℕ) (low : ℕ) : Type 0 where
  pub sized : length entries ≡ row_in plan count
  pub entry : (i class : ℕ) → i < count → IsShallow plan i → class < class_count plan.classes
      → slice_index_or entries (row_in plan i + class) 0 ≡ number_in plan (leads_in plan (source_in plan.special i) class)
  pub step : (i class : ℕ) → i < count → IsShallow plan i → class < class_count plan.classes
      → IsStep plan.states (source_in plan.special i) (slice_index_or plan.firsts class 0)
  pub listed : (i : ℕ) → i < count → IsShallow plan i → IsListAt plan.lists (slice_index_or entries (row_in plan i + class_count plan.classes) 0) (matches_in plan.states (source_in plan.special i))
  pub others : (i : ℕ) → i < count → IsShallow plan i → low ≤ row_in plan i → matches_in plan.states (source_in plan.special i) ≡ []
  pub some : 0 < low

-- ---- rows that are near

-- the bytes of the transitions are marked, and no mark goes
abbrev pub AreMarked : List (ℕ × ℕ) → List Bool → List Bool → Type 0
AreMarked transitions old new =
    (byte : ℕ) → slice_index_or new byte true ≡ false → (slice_index_or old byte true ≡ false) × (transition_at transitions byte ≡ fail_id)

-- a state before this one has a row of its own
pub record HasRowBefore (plan : Parts) (index sid : ℕ) : Type 0 where
  pub before : sid < index
  pub shallow : IsShallow plan sid
  pub own : source_in plan.special sid ≡ sid

-- if the class's byte is not taken, the row tells where it leads from the state
abbrev pub IsToldBy : Parts → ℕ → List ℕ → Near → ℕ → Type 0
IsToldBy plan sid entries near class =
    slice_index_or near.taken (slice_index_or plan.firsts class 0) true ≡ false
    → IfSome near.row (λ row. (slice_index_or entries (row + class) 0 ≡ number_in plan (leads_in plan sid class)) × IsStep plan.states sid (slice_index_or plan.firsts class 0))

-- the same of each class, by a row that is there
pub record IsNear (plan : Parts) (sid : ℕ) (entries : List ℕ) (near : Near) : Type 0 where
  pub told : (class : ℕ) → class < class_count plan.classes → IsToldBy plan sid entries near class
  pub there : IfSome near.row (λ row. row + class_count plan.classes ≤ length entries)

-- each byte that is not taken leads from the one state as it leads from the other
abbrev pub AreAlike : List State → List Bool → ℕ → ℕ → Type 0
AreAlike states taken sid at =
    (byte : ℕ) → byte < 256 → slice_index_or taken byte true ≡ false
    → IsState states at × (step_in states No at byte ≡ step_in states No sid byte)

-- ---- records

-- the transitions of a state, those that lead on: for each its byte, and the number of the state that it leads to
abbrev pub flat : List ℕ → List (ℕ × ℕ) → List ℕ
flat numbers [] = []
flat numbers (transition ∷ transitions) =
    if nat_eq transition.1 fail_id then flat numbers transitions else transition.0 ∷ number_or_zero numbers transition.1 ∷ flat numbers transitions

-- these words stand at this place
pub record IsPartAt (words : List ℕ) (place : ℕ) (part : List ℕ) : Type 0 where
  pub before : List ℕ
  pub after : List ℕ
  pub whole : words ≡ before ++ (part ++ after)
  pub place_is : length before ≡ place

-- the state whose row or record stands at the place of this one
abbrev pub source_of : Parts → ℕ → ℕ
source_of plan sid = source_in plan.special sid

abbrev pub transitions_of : Parts → ℕ → List (ℕ × ℕ)
transitions_of plan sid = (state_at plan.states (source_of plan sid)).transitions

abbrev pub moves_of : Parts → ℕ → List ℕ
moves_of plan sid = flat plan.numbers (transitions_of plan sid)

-- the record of a deep state: its words, where they begin
pub record IsRecord (plan : Parts) (sid : ℕ) (deep : List ℕ) (at : ℕ) (moves : List ℕ) : Type 0 where
  pub link : slice_index_or deep (at + 0) 0 ≡ number_in plan (fail_in plan.states (source_of plan sid))
  pub listed : IsListAt plan.lists (slice_index_or deep (at + 1) 0) (matches_in plan.states (source_of plan sid))
  pub height : slice_index_or deep (at + 2) 0 + plan.row_depth ≡ depth_in plan.states sid
  pub moves_at : IsPartAt moves (slice_index_or deep (at + 3) 0) (moves_of plan sid)
  pub moves_size : slice_index_or deep (at + 4) 0 ≡ length (moves_of plan sid)
  pub rising : IsRising (transitions_of plan sid)
  pub depth_small : depth_in plan.states sid ≤ greatest_index

-- the records of the states below the count
pub record AreRecords (plan : Parts) (count : ℕ) (deep moves : List ℕ) (deep_low : ℕ) : Type 0 where
  pub sized : length deep ≡ record_place plan.row_depth plan.states count
  pub records : (i : ℕ) → i < count → IsDeepState plan i → IsRecord plan i deep (record_place plan.row_depth plan.states i) moves
  pub others : (i : ℕ) → i < count → IsDeepState plan i → deep_low ≤ number_in plan i → matches_in plan.states (source_of plan i) ≡ []

-- the number below which states with rows are special whatever they list: past DEAD and, where a search may skip from it, past the start
abbrev pub first_low : Parts → ℕ
first_low plan = if plan.skips then number_in plan plan.special.start_unanchored_id + 1 else 1

-- a state below the count lists a pattern
pub record IsListing (plan : Parts) (count sid : ℕ) : Type 0 where
  pub below : sid < count
  pub listing : 0 < length (matches_in plan.states (source_of plan sid))

-- a low number of the rows is 1, or no further than the row of a state that lists a pattern
abbrev pub IsLowOfRows : Parts → ℕ → ℕ → Type 0
IsLowOfRows plan count low =
    (low ≤ 1) ⊎ ((sid : ℕ) × IsListing plan count sid × IsShallow plan sid × (low ≤ row_in plan sid + stride_of plan.classes))

-- one of the records is 0, or no further than the number of a deep state that lists a pattern
abbrev pub IsLowOfRecords : Parts → ℕ → ℕ → Type 0
IsLowOfRecords plan count low = (low ≤ 0) ⊎ ((sid : ℕ) × IsListing plan count sid × IsDeepState plan sid × (low ≤ number_in plan sid + 1))

-- the low numbers are no greater than the states ask for
pub record AreLow (plan : Parts) (count : ℕ) (filled : Filled) : Type 0 where
  pub first : first_low plan ≤ filled.low
  pub low : (filled.low ≤ first_low plan) ⊎ (filled.low ≤ filled.list_low)
  pub list_low : IsLowOfRows plan count filled.list_low
  pub deep_low : IsLowOfRecords plan count filled.deep_low

-- the states below the count
pub record AreLaidOut (plan : Parts) (count : ℕ) (filled : Filled) : Type 0 where
  pub rows : AreRows plan count filled.entries.items filled.list_low
  pub records : AreRecords plan count filled.deep.items filled.moves.items filled.deep_low
  pub special : filled.list_low ≤ filled.low
  pub lows : AreLow plan count filled
  pub moves_sized : length filled.moves.items ≡ moves_below plan.row_depth plan.special plan.states count
