-- The walk is on the list, behind an entry that is below the byte or is the last.
use Rattle.std.proofs.Common.{◌≡◌, ◌≢◌, ℕ, ◌-◌, ◌<◌, ◌⊎◌, List, length}
use Rattle.aho_table.specs.Rings.{IsRun, IsPassed}
use Rattle.aho_table.specs.ListsInside.{transition_of, transition_entries}
use Rattle.aho_table.proofs.lists.transitions.walked_place.Given as goal

abbrev pub invariant-walk : goal.invariant-walk
invariant-walk l = record {
  at_in : l.at < length l.entries;
  before_in : l.before < length l.entries;
  transition : l.transition ≡ transition_of l.entries l.at;
  passed : IsPassed (transition_entries l.entries) l.fn.last l.at (transition_of l.entries l.fn.last).link;
  run : (xs : List (ℕ × ℕ)) × IsRun (transition_entries l.entries) l.fn.last l.at xs;
  behind : ((l.before ≡ l.fn.last) × (l.at ≡ (transition_of l.entries l.fn.last).link))
      ⊎ ((l.before ≢ l.fn.last) × IsPassed (transition_entries l.entries) l.fn.last l.before (transition_of l.entries l.fn.last).link
      × ((transition_of l.entries l.before).byte < l.byte) × (l.at ≡ (transition_of l.entries l.before).link));
}

abbrev pub decreases-walk : goal.decreases-walk
decreases-walk l = l.byte - (transition_of l.entries l.at).byte
