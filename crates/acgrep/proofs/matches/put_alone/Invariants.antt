-- The matches that came so far were written, and what stands between them.
use Rattle.acgrep.proofs.Common.{Occurrence, Patterns}
use Rattle.std.proofs.Common.{◌+◌, ◌-◌, ◌≤◌, List, length}
use Rattle.acgrep.specs.Searchers.{Seeks}
use Rattle.acgrep.proofs.AloneTried.{AloneSoFar}
use Rattle.acgrep.proofs.Coloring.{PutSoFar}
use Rattle.acgrep.proofs.matches.put_alone.Given as goal

abbrev pub invariant-loop-found : goal.invariant-loop-found
invariant-loop-found g l = record {
  within : l.from ≤ length l.fn.line + 1;
  written : (p : Patterns) → Seeks l.fn.query p → (ms : List Occurrence) × AloneSoFar p l.fn.line l.from ms
      × PutSoFar l.fn.shape l.fn.query.job.style l.fn.place l.fn.line ms l.at (g.W.Write.contents l.initial.output) (g.W.Write.contents l.output);
}

abbrev pub decreases-loop-found : goal.decreases-loop-found
decreases-loop-found g l = length l.fn.line + 2 - l.from
