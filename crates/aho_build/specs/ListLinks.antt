-- What the lists of patterns are along the failure links, whatever the table was built from: numbers alone.
use Rattle.std.specs.Prelude.{◌≡◌, ◌≢◌, ℕ, ◌<◌, ◌≤◌, List, [], length}
use Rattle.aho_table.specs.Table.{State, dead_id, fail_id, fail_in, matches_in}
use Rattle.aho_build.specs.Walking.{IsState, links_left}

-- the lists along the links: DEAD and FAIL list nothing; each link leads to a state, and to one nearer to the start but for DEAD's own;
-- and a state that lists no more patterns than its link lists what that does
pub record ListByLinks (states : List State) : Type 0 where
  pub dead : matches_in states dead_id ≡ []
  pub fail : matches_in states fail_id ≡ []
  pub link : (sid : ℕ) → IsState states sid → IsState states (fail_in states sid)
  pub nearer : (sid : ℕ) → IsState states sid → sid ≢ dead_id → links_left states (fail_in states sid) < links_left states sid
  pub same : (sid : ℕ) → IsState states sid → length (matches_in states sid) ≤ length (matches_in states (fail_in states sid))
      → matches_in states sid ≡ matches_in states (fail_in states sid)
