-- The numbers that states keep once a build is over, and how the states got there: by swaps, after which each number that stands
-- in one is exchanged for the place of the state that it named.
use Rattle.std.specs.Prelude.{◌≡◌, ℕ, ◌+◌, ◌-◌, ◌<◌, ◌≤◌, if◌then◌else◌, Bool, List, [], length, nat_lt}
use Rattle.aho_table.specs.Table.{State, Tables, dead_id, fail_id, has_row, state_at, matches_in, transitions_count, matches_count}
use Rattle.aho_table.specs.Remapping.{place_of_state, AreInverse}
use Rattle.aho_table.specs.Renaming.{IsRenamed}
use Rattle.aho_build.specs.FirstStates.{root_id, anchored_id}
use Rattle.aho_build.specs.declared.special.Special.{Special}

-- whether the starts list a pattern
abbrev pub starts_match : Special → List State → Bool
starts_match special states = nat_lt 0 (length (matches_in states special.start_anchored_id))

-- what the states list, by their numbers: DEAD 0, FAIL 1, the states that list a pattern and are no start, the unanchored start, the
-- anchored start, the rest; and the two greatest numbers, by whether a pattern is empty and whether a search may skip from a start
pub record IsInOrder (empty skips : Bool) (special : Special) (lists : ℕ → List ℕ) : Type 0 where
  pub first : 2 ≤ special.start_unanchored_id
  pub next : special.start_anchored_id ≡ special.start_unanchored_id + 1
  pub listing : (sid : ℕ) → 2 ≤ sid → sid < special.start_unanchored_id → 0 < length (lists sid)
  pub others : (sid : ℕ) → special.start_anchored_id < sid → lists sid ≡ []
  pub max_match : special.max_match_id ≡ (if empty then special.start_anchored_id else special.start_unanchored_id - 1)
  pub max_special : special.max_special_id ≡ (if skips then special.start_anchored_id else special.max_match_id)

-- by these numbers alone it is told which states list a pattern: the starts do both, or neither does, and DEAD does not
pub record AreNumbered (skips : Bool) (special : Special) (states : List State) : Type 0 where
  pub order : IsInOrder (starts_match special states) skips special (matches_in states)
  pub alike : matches_in states special.start_unanchored_id ≡ matches_in states special.start_anchored_id
  pub dead : matches_in states dead_id ≡ []

-- the states have moved to these places, and no number that stands in one has changed
pub record AreMoved (places : List ℕ) (old new : List State) : Type 0 where
  pub origins : List ℕ
  pub inverse : AreInverse places origins
  pub as_many : length places ≡ length old
  pub same_many : length new ≡ length old
  pub moved : (n : ℕ) → n < length old → state_at new (place_of_state places n) ≡ state_at old n
  pub transitions : transitions_count new ≡ transitions_count old
  pub matches : matches_count new ≡ matches_count old

-- each state has its row, or none, at its place
pub record RowsAreMoved (places : List ℕ) (old new : List Bool) : Type 0 where
  pub same_many : length new ≡ length old
  pub moved : (n : ℕ) → n < length old → has_row new (place_of_state places n) ≡ has_row old n

-- the states below `index` that list a pattern stand behind the first four, up to `next`
pub record AreGathered (next index : ℕ) (places : List ℕ) (old new : List State) : Type 0 where
  pub moved : AreMoved places old new
  pub first : 4 ≤ next
  pub within : next ≤ index
  pub stay : (n : ℕ) → n < 4 → place_of_state places n ≡ n
  pub listing : (sid : ℕ) → 4 ≤ sid → sid < next → 0 < length (matches_in new sid)
  pub others : (sid : ℕ) → next ≤ sid → sid < index → matches_in new sid ≡ []

-- the states have moved to these places, and are named by them. DEAD and FAIL keep their numbers
pub record AreRenumbered (places : List ℕ) (old new : List State) : Type 0 where
  pub origins : List ℕ
  pub inverse : AreInverse places origins
  pub as_many : length places ≡ length old
  pub same_many : length new ≡ length old
  pub dead : place_of_state places dead_id ≡ dead_id
  pub fail : place_of_state places fail_id ≡ fail_id
  pub renamed : (n : ℕ) → n < length old → IsRenamed (λ named now. now ≡ place_of_state places named) (state_at old n) (state_at new (place_of_state places n))
  pub transitions : transitions_count new ≡ transitions_count old
  pub matches : matches_count new ≡ matches_count old

-- the states of the table have the numbers that they keep, and so have their rows
pub record AreShuffled (skips : Bool) (old new : Tables) (special : Special) : Type 0 where
  pub places : List ℕ
  pub renumbered : AreRenumbered places old.states new.states
  pub rows : RowsAreMoved places old.rows new.rows
  pub unanchored : special.start_unanchored_id ≡ place_of_state places root_id
  pub anchored : special.start_anchored_id ≡ place_of_state places anchored_id
  pub order : IsInOrder (starts_match special new.states) skips special (matches_in new.states)
