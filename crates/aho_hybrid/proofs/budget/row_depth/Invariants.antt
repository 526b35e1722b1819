use Rattle.std.proofs.Common.{◌+◌, ◌-◌, ◌*◌, ◌<◌, ◌≤◌}
use Rattle.aho_corasick.specs.ReadOut.{classes_of, states_of}
use Rattle.aho_hybrid.specs.Filled.{deep_count, row_entries}
use Rattle.aho_hybrid.proofs.budget.row_depth.Given as goal

abbrev pub invariant-halves : goal.invariant-halves
invariant-halves l = record {
  order : l.low ≤ l.high;
  fits : 0 < l.low → row_entries l.low (states_of l.nfa) (classes_of l.nfa) * 4 ≤ l.budget;
  greatest : 0 < deep_count l.high (states_of l.nfa) → l.budget < row_entries (l.high + 1) (states_of l.nfa) (classes_of l.nfa) * 4;
}

abbrev pub decreases-halves : goal.decreases-halves
decreases-halves l = l.high - l.low
