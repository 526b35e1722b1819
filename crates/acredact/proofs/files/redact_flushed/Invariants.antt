-- The files in front of what is left are done.
use Rattle.acredact.proofs.Common.{drop, name_bytes, task_in}
use Rattle.acredact.specs.Ways.{IfBy}
use Rattle.acredact.proofs.Jobs.{ComesOfJob}
use Rattle.acredact.proofs.Turns.{InTurn, all_joined}
use Rattle.acredact.proofs.files.redact_flushed.Given as goal

abbrev pub invariant-loop-name : goal.invariant-loop-name
invariant-loop-name g l = IfBy g.X.Way l.initial.way (λ plan. g.X.Way.by l.way plan
    × InTurn all_joined (ComesOfJob g.W.Write g.E.Sink (task_in g.F.Folder l.fn.folder (g.X.Way.means plan))) (name_bytes l.fn.names) (name_bytes (drop l.name-index l.fn.names)) l.all
    (l.initial.streams, l.initial.counts, l.initial.volume) (l.streams, l.counts, l.volume))
