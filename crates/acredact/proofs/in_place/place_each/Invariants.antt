-- The files in front of what is left were come to.
use Rattle.acredact.proofs.Common.{PlacesOutcome, drop, name_bytes}
use Rattle.chromesquid.specs.Searcher.{ForItsPatterns}
use Rattle.acredact.specs.InPlace.{work_for}
use Rattle.acredact.proofs.Turns.{InTurn, all_joined}
use Rattle.acredact.proofs.in_place.place_each.Given as goal

abbrev pub invariant-loop-name : goal.invariant-loop-name
invariant-loop-name g l = ForItsPatterns l.fn.searcher (λ p.
    InTurn all_joined (PlacesOutcome g.O.File.Write g.E.Sink g.O.Outputs (work_for g.F.Folder l.fn.job p)) (name_bytes l.fn.job.names.now) (name_bytes (drop l.name-index l.fn.job.names.now)) l.all
    (l.initial.outputs, l.initial.streams, l.initial.counts, l.initial.volume) (l.outputs, l.streams, l.counts, l.volume))
