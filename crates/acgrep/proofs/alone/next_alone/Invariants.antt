-- Nothing that stands alone begins before the place that was reached.
use Rattle.acgrep.proofs.Common.{IsBuiltFrom, LeftmostLongest, Patterns}
use Rattle.std.proofs.Common.{◌+◌, ◌-◌, ◌≡◌, ◌≤◌, length}
use Rattle.acgrep.proofs.AloneTried.{BeginsBehind}
use Rattle.acgrep.proofs.alone.next_alone.Given as goal

abbrev pub invariant-loop-longest : goal.invariant-loop-longest
invariant-loop-longest l = record {
  low : l.fn.at ≤ l.from;
  high : l.from ≤ length l.fn.line + 1;
  passed : (p : Patterns) → IsBuiltFrom l.fn.searcher p → (kind : p.kind ≡ LeftmostLongest) → BeginsBehind p l.fn.line kind l.fn.at l.from;
}

abbrev pub decreases-loop-longest : goal.decreases-loop-longest
decreases-loop-longest l = length l.fn.line + 1 - l.from
