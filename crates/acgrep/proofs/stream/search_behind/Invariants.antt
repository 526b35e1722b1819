-- The whole lines that were read so far are searched, and what follows them is in the buffer.
use Rattle.acgrep.proofs.Common.{Patterns}
use Rattle.std.proofs.Common.{take}
use Rattle.acgrep.specs.Filled.{ReadsOn}
use Rattle.acgrep.specs.Guarded.{SearchesFront}
use Rattle.acgrep.specs.Searchers.{Seeks}
use Rattle.acgrep.specs.Selected.{HoldNoEnding}
use Rattle.acgrep.specs.Streamed.{TextIf}
use Rattle.acgrep.proofs.stream.search_behind.Given as goal

abbrev pub invariant-loop : goal.invariant-loop
invariant-loop g l = record {
  searched : (p : Patterns) → Seeks l.fn.query p → HoldNoEnding l.fn.query.job.style.ending p
      → SearchesFront p l.fn.query.job l.fn.alone l.fn.state l.state (g.W.Sink.taken l.fn.output) (g.W.Sink.taken l.output)
      (g.R.Read.remaining l.fn.input) (g.R.Read.remaining l.input) (take l.fn.buffer.held l.fn.buffer.room.items) (take l.buffer.held l.buffer.room.items)
      × TextIf l.fn.alone (take l.buffer.held l.buffer.room.items);
  reads : ReadsOn (g.R.Read.remaining l.fn.input) (g.R.Read.remaining l.input);
}
