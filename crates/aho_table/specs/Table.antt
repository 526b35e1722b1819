-- What a `Table` is seen as: for each state a list of transitions, a list of patterns, a failure link and a depth.
use Rattle.std.specs.Prelude.{◌≡◌, ◌≢◌, ℕ, ◌+◌, ◌<◌, ◌≤◌, Bool, true, false, map, List, [], ◌∷◌, ◌++◌, length, sum_by, slice_index_or, slice_set}
pub use Rattle.aho_table.specs.TransitionList.{transition_at, with_transition, IsRising, lists_transition}
use Rattle.aho_table.specs.Alphabet.{AreOfOneClass}
use Rattle.aho_table.specs.declared.links.Child.{Child}
use Rattle.aho_table.specs.declared.links.Child.TheVariants.{Found, Added}

-- the number of the dead state, to which every byte leads back
abbrev pub dead_id : ℕ
dead_id = 0

-- the number that stands for no state: a byte that leads nowhere leads to it, and so does a link that is still to be set
abbrev pub fail_id : ℕ
fail_id = 1

-- one state: its transitions, rising by byte, its patterns, its failure link and its distance from the start
pub record State : Type 0 where
  pub transitions : List (ℕ × ℕ)
  pub matches : List ℕ
  pub fail : ℕ
  pub depth : ℕ

-- the states, the greatest index that a table may use, the borders between the classes of bytes, how many entries there are
-- for rows of states, the dummy at index 0 among them, and for each state, by its number, whether it has a row
pub record Tables : Type 0 where
  pub states : List State
  pub limit : ℕ
  pub classes : List Bool
  pub dense_len : ℕ
  pub rows : List Bool

-- whether the state of this number has a row
abbrev pub has_row : List Bool → ℕ → Bool
has_row rows sid = slice_index_or rows sid false

-- the state has one now, and the others as before; or it has none now
abbrev pub with_row : List Bool → ℕ → List Bool
with_row rows sid = slice_set rows sid true

abbrev pub without_row : List Bool → ℕ → List Bool
without_row rows sid = slice_set rows sid false

-- no state has one
abbrev pub no_rows : List State → List Bool
no_rows states = map (λ (state : State). false) states

-- bytes of one class lead alike
abbrev pub LeadsAlike : List Bool → List (ℕ × ℕ) → Type 0
LeadsAlike classes transitions = (byte other : ℕ) → byte < 256 → other < 256 → AreOfOneClass classes byte other → transition_at transitions byte ≡ transition_at transitions other

-- a state that was just added: nothing is listed, and its link (1) is still to be set
abbrev pub new_state : ℕ → State
new_state depth = record { transitions = []; matches = []; fail = 1; depth = depth }

abbrev pub state_at : List State → ℕ → State
state_at states sid = slice_index_or states sid (new_state 0)

abbrev pub next_in : List State → ℕ → ℕ → ℕ
next_in states sid byte = transition_at (state_at states sid).transitions byte

-- the transition of this place in the state's list; past its end one that leads nowhere
abbrev pub transition_in : List State → ℕ → ℕ → ℕ × ℕ
transition_in states sid index = slice_index_or (state_at states sid).transitions index (0, 1)

abbrev pub matches_in : List State → ℕ → List ℕ
matches_in states sid = (state_at states sid).matches

abbrev pub fail_in : List State → ℕ → ℕ
fail_in states sid = (state_at states sid).fail

abbrev pub depth_in : List State → ℕ → ℕ
depth_in states sid = (state_at states sid).depth

abbrev pub lists_byte : List State → ℕ → ℕ → Bool
lists_byte states sid byte = lists_transition (state_at states sid).transitions byte

-- the states with one state's state changed
abbrev pub set_transition : List State → ℕ → ℕ → ℕ → List State
set_transition states sid byte next = slice_set states sid (record (state_at states sid) { transitions = with_transition (state_at states sid).transitions byte next })

abbrev pub push_match : List State → ℕ → ℕ → List State
push_match states sid pattern = slice_set states sid (record (state_at states sid) { matches = (state_at states sid).matches ++ pattern ∷ [] })

-- the state lists the patterns of another after its own
abbrev pub append_matches : List State → ℕ → ℕ → List State
append_matches states sid from = slice_set states sid (record (state_at states sid) { matches = (state_at states sid).matches ++ matches_in states from })

abbrev pub set_fail_of : List State → ℕ → ℕ → List State
set_fail_of states sid fail = slice_set states sid (record (state_at states sid) { fail = fail })

-- the entries of the two tables that the states share, the dummy at index 0 among them
abbrev pub transitions_count : List State → ℕ
transitions_count states = 1 + sum_by (λ (state : State). length state.transitions) states

abbrev pub matches_count : List State → ℕ
matches_count states = 1 + sum_by (λ (state : State). length state.matches) states

-- the tables have no more entries than the limit allows
pub record IsWithinLimit (limit : ℕ) (states : List State) : Type 0 where
  pub state_count : length states ≤ limit + 1
  pub transitions : transitions_count states ≤ limit + 1
  pub matches : matches_count states ≤ limit + 1

-- each state's list rises by byte
abbrev pub AllRising : List State → Type 0
AllRising states = (i : ℕ) → IsRising (state_at states i).transitions

-- what the byte leads to, in a table that had other states before: a state that was there, or one that was added for it
abbrev pub IsLedTo : ℕ → ℕ → ℕ → List State → List State → Child → Type 0
IsLedTo sid byte depth old new (Found next) = (next_in old sid byte ≢ fail_id) × (next ≡ next_in old sid byte) × (new ≡ old)
IsLedTo sid byte depth old new (Added next) =
    (next_in old sid byte ≡ fail_id)
    × (next ≡ length old)
    × (new ≡ set_transition (old ++ new_state depth ∷ []) sid byte next)

-- the rows once the byte was led: a state that was there leaves them as they were, and one that is added has none, and nor has
-- the state that leads to it
abbrev pub rows_led : List Bool → ℕ → Child → List Bool
rows_led rows sid (Found next) = rows
rows_led rows sid (Added next) = without_row (rows ++ false ∷ []) sid
