-- What a step needs of a table, whatever it was built from: numbers alone.
use Rattle.std.specs.Prelude.{◌≡◌, ◌≢◌, ℕ, zero, suc, ◌+◌, ◌<◌, ◌≤◌, List, nat_eq, if◌then◌else◌, length}
use Rattle.aho_core.specs.Numbers.{greatest_index}
use Rattle.aho_core.specs.declared.search.Anchored.{Anchored}
use Rattle.aho_core.specs.declared.search.Anchored.TheVariants.{No, Yes}
use Rattle.aho_table.specs.Table.{State, dead_id, fail_id, next_in, fail_in, depth_in}
use Rattle.aho_build.specs.declared.special.Special.{Special}

-- a state that may be held: it is there, and is not FAIL
abbrev pub IsState : List State → ℕ → Type 0
IsState states sid = (sid < length states) × (sid ≢ fail_id)

-- how many failure links may be followed from a state on, and one more: DEAD has none
abbrev pub links_left : List State → ℕ → ℕ
links_left states sid = if nat_eq sid dead_id then 0 else depth_in states sid + 1

-- transitions and links lead to states; a transition leads one deeper at most; a link is followed only nearer to the start;
-- DEAD keeps every byte
pub record IsSound (states : List State) : Type 0 where
  pub dead_state : IsState states dead_id
  pub next_state : (sid byte : ℕ) → IsState states sid → byte < 256 → next_in states sid byte ≢ fail_id → IsState states (next_in states sid byte)
  pub next_depth : (sid byte : ℕ) → IsState states sid → byte < 256 → next_in states sid byte ≢ fail_id
      → depth_in states (next_in states sid byte) ≤ depth_in states sid + 1
  pub fail_state : (sid byte : ℕ) → IsState states sid → byte < 256 → next_in states sid byte ≡ fail_id → IsState states (fail_in states sid)
  pub fail_nearer : (sid byte : ℕ) → IsState states sid → byte < 256 → next_in states sid byte ≡ fail_id
      → links_left states (fail_in states sid) < links_left states sid
  pub shallow : (sid : ℕ) → IsState states sid → depth_in states sid ≤ greatest_index
  pub dead_next : (byte : ℕ) → byte < 256 → next_in states dead_id byte ≡ dead_id
  pub dead_depth : depth_in states dead_id ≡ 0

-- a state where a search may start
pub record IsStart (states : List State) (sid : ℕ) : Type 0 where
  pub state : IsState states sid
  pub depth : depth_in states sid ≡ 0

-- both starts are such states
pub record AreStarts (special : Special) (states : List State) : Type 0 where
  pub unanchored : IsStart states special.start_unanchored_id
  pub anchored : IsStart states special.start_anchored_id

-- the state that a byte leads to from a state on, where so many states may be looked at: unanchored down the failure links
-- to the first state that takes the byte; an anchored step follows no link
abbrev pub step_along : List State → Anchored → ℕ → ℕ → ℕ → ℕ
step_along states anchored byte zero sid = dead_id
step_along states No byte (suc left) sid =
    if nat_eq (next_in states sid byte) fail_id then step_along states No byte left (fail_in states sid) else next_in states sid byte
step_along states Yes byte (suc left) sid = if nat_eq (next_in states sid byte) fail_id then dead_id else next_in states sid byte

-- the same with as many states as there may be
abbrev pub step_in : List State → Anchored → ℕ → ℕ → ℕ
step_in states anchored sid byte = step_along states anchored byte (links_left states sid + 1) sid
