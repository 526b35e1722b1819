-- The files in front of what is left were looked at.
use Rattle.acredact.proofs.Common.{bytes_left, drop, name_bytes, quest_of}
use Rattle.acredact.specs.Checks.{IfSought}
use Rattle.acredact.proofs.LookedFiles.{ComesOfLooks, verdicts_joined}
use Rattle.acredact.proofs.Turns.{InTurn}
use Rattle.acredact.proofs.look.look_at_files.Given as goal

abbrev pub invariant-loop-name : goal.invariant-loop-name
invariant-loop-name g l = IfSought g.L.Looker l.initial.looker (λ s. g.L.Looker.by l.looker s
    × InTurn verdicts_joined (ComesOfLooks g.E.Sink (quest_of g.F.Folder l.fn.files s)) (name_bytes l.fn.files.names.now) (name_bytes (drop l.name-index l.fn.files.names.now)) l.verdict
    (bytes_left l.initial.input, g.W.Sink.taken l.initial.output, l.initial.errors) (bytes_left l.input, g.W.Sink.taken l.output, l.errors))
