-- The files so far were searched.
use Rattle.acgrep.proofs.Common.{Covering}
use Rattle.std.proofs.Common.{◌≡◌, false, length}
use Rattle.acgrep.specs.Listed.{listed_bytes}
use Rattle.acgrep.specs.MarkedFiles.{IsMarking, MarksBy, mark_work}
use Rattle.acgrep.specs.Told.{TellsIf}
use Rattle.acgrep.specs.ToldByRules.{IsMarkTold}
use Rattle.acgrep.proofs.InTurn.{SoFar}
use Rattle.acgrep.proofs.marked_files.mark_each.Given as goal

abbrev pub invariant-loop-rest : goal.invariant-loop-rest
invariant-loop-rest g l = record {
  can : IsMarking g.A.Automaton l.marking;
  unread : l.marking.input_read ≡ false → g.R.Read.remaining l.input ≡ g.R.Read.remaining l.initial.input;
  told : TellsIf g.E.Sink IsMarkTold l.fn.job.hushed l.seen.failed l.initial.errors l.errors;
  so_far : (covering : Covering) → MarksBy g.A.Automaton l.initial.marking.cover covering → MarksBy g.A.Automaton l.marking.cover covering
      × SoFar (mark_work l.fn.job covering (g.F.Open.holds l.fn.files) (g.R.Read.remaining l.initial.input)) l.fn.job.shown (listed_bytes l.fn.names) false (g.W.Sink.taken l.initial.output)
      (listed_bytes l.rest) l.marking.input_read (g.W.Sink.taken l.output) l.seen;
}

abbrev pub decreases-loop-rest : goal.decreases-loop-rest
decreases-loop-rest g l = length l.rest
