-- The files so far were searched.
use Rattle.acgrep.proofs.Common.{Patterns}
use Rattle.std.proofs.Common.{length}
use Rattle.acgrep.specs.Files.{search_work}
use Rattle.acgrep.specs.Listed.{listed_bytes}
use Rattle.acgrep.specs.Searchers.{Seeks}
use Rattle.acgrep.specs.Selected.{HoldNoEnding}
use Rattle.acgrep.specs.Told.{IsMessage, TellsIf, files_told}
use Rattle.acgrep.proofs.InTurn.{SoFar}
use Rattle.acgrep.proofs.Told.{AreWithin}
use Rattle.acgrep.proofs.files.search_names.Given as goal

abbrev pub invariant-loop-rest : goal.invariant-loop-rest
invariant-loop-rest g l = record {
  so_far : (p : Patterns) → Seeks l.fn.query p → HoldNoEnding l.fn.query.job.style.ending p
      → SoFar (search_work p l.fn.query.job (g.F.Open.holds l.fn.files)) l.fn.query.job.shown (listed_bytes l.fn.names) (g.R.Read.remaining l.initial.input) (g.W.Sink.taken l.initial.output)
      (listed_bytes l.rest) (g.R.Read.remaining l.input) (g.W.Sink.taken l.output) l.seen;
  told : TellsIf g.E.Sink (IsMessage (files_told l.fn.query.job.hushed l.fn.query.job.label.now (listed_bytes l.fn.names))) l.fn.query.job.hushed l.seen.failed l.initial.errors l.errors;
  within : AreWithin (files_told l.fn.query.job.hushed l.fn.query.job.label.now (listed_bytes l.rest)) (files_told l.fn.query.job.hushed l.fn.query.job.label.now (listed_bytes l.fn.names));
}

abbrev pub decreases-loop-rest : goal.decreases-loop-rest
decreases-loop-rest g l = length l.rest
