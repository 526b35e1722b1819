-- What the loop keeps: so much was given and written, all of it was walked, and no device has failed.
use Rattle.std.proofs.Common.{◌≡◌, ◌-◌}
use Rattle.aho_cover.specs.Progress.{IsSoundCover, KeepsRoom, walk_end}
use Rattle.aho_cover.specs.Steps.{CanWalk, IsPrompt, MayRoll}
use Rattle.aho_cover.proofs.Going.{Going}
use Rattle.aho_cover.proofs.stream.cover_from.Given as goal

abbrev pub invariant-loop-progress : goal.invariant-loop-progress
invariant-loop-progress g l =
    let automaton = l.initial.walk.automaton.now in
    record {
      going : Going g.A.Automaton g.R.Source g.W.Sink automaton l.initial.progress.words (g.P.Pieces.rule l.initial.pieces) l.initial.source l.initial.sink l.initial.counts (g.P.Pieces.holds l.pieces) l.progress l.source l.sink l.counts;
      rule : g.P.Pieces.rule l.pieces ≡ g.P.Pieces.rule l.initial.pieces;
      room : KeepsRoom l.initial.progress l.progress;
      sound : IsSoundCover l.progress (walk_end l.progress);
      near : MayRoll l.progress;
      prompt : IsPrompt g.A.Automaton automaton l.progress;
      can : CanWalk g.A.Automaton l.walk (g.P.Pieces.rule l.pieces) (g.P.Pieces.holds l.pieces) l.progress (walk_end l.progress);
      own : l.walk.automaton.now ≡ l.automaton;
      same : l.walk.automaton.now ≡ automaton;
      reads : g.R.Source.failures l.source ≡ g.R.Source.failures l.initial.source;
      writes : g.W.Sink.failures l.sink ≡ g.W.Sink.failures l.initial.sink;
      empty_writes : g.W.Sink.empty_writes l.sink ≡ g.W.Sink.empty_writes l.initial.sink;
    }

abbrev pub decreases-loop-progress : goal.decreases-loop-progress
decreases-loop-progress g l = 9223372036854775808 - l.progress.read
