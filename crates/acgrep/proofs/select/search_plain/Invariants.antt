-- What is told of the lines that were searched is written.
use Rattle.acgrep.proofs.Common.{Patterns}
use Rattle.std.proofs.Common.{length}
use Rattle.acgrep.specs.Searchers.{Seeks}
use Rattle.acgrep.specs.Selected.{HoldNoEnding}
use Rattle.acgrep.specs.Written.{SearchesTo}
use Rattle.acgrep.proofs.select.search_plain.Given as goal

abbrev pub invariant-loop-rest : goal.invariant-loop-rest
invariant-loop-rest g l = (p : Patterns) → Seeks l.fn.query p → HoldNoEnding l.fn.query.job.style.ending p
    → SearchesTo p l.fn.query.job l.initial.state l.state (g.W.Sink.taken l.initial.output) (g.W.Sink.taken l.output) l.fn.text l.rest

abbrev pub decreases-loop-rest : goal.decreases-loop-rest
decreases-loop-rest g l = length l.rest
