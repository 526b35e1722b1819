-- What begins there and stands alone is the match that is tried, or is tried behind it.
use Rattle.acgrep.proofs.Common.{IsBuiltFrom, LeftmostLongest, Patterns}
use Rattle.std.proofs.Common.{◌≡◌, ◌≤◌, length}
use Rattle.acgrep.specs.Alone.{IsLongestThere}
use Rattle.acgrep.proofs.AloneTried.{IsTried}
use Rattle.acgrep.proofs.alone.alone_at.Given as goal

abbrev pub invariant-loop-found : goal.invariant-loop-found
invariant-loop-found l = record {
  start : l.found.start ≡ l.fn.longest.start;
  ordered : l.found.start ≤ l.found.end;
  within : l.found.end ≤ length l.fn.line;
  tried : (p : Patterns) → IsBuiltFrom l.fn.searcher p → (kind : p.kind ≡ LeftmostLongest) → IsLongestThere p l.fn.line l.fn.longest
      → IsTried p l.fn.line kind l.fn.longest.start l.found;
}

abbrev pub decreases-loop-found : goal.decreases-loop-found
decreases-loop-found l = l.found.end
