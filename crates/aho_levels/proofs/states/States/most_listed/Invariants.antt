use Rattle.std.proofs.Common.{◌≡◌, ◌<◌, ◌≤◌, ℕ, length}
use Rattle.aho_levels.specs.Layout.{IsStateNumber, list_of_state}
use Rattle.aho_levels.proofs.states.States.most_listed.Given as goal

abbrev pub invariant-loop-index : goal.invariant-loop-index
invariant-loop-index l = record {
  all : (sid : ℕ) → sid < l.index → length (list_of_state l.self sid) ≤ l.most;
  some : (sid : ℕ) × IsStateNumber l.self sid × (length (list_of_state l.self sid) ≡ l.most);
}
