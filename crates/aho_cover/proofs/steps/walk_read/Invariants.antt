-- What the loop keeps: the walk has come to a place, and what was written leads there. No write has failed.
use Rattle.std.proofs.Common.{◌≡◌, ◌-◌, ◌≤◌}
use Rattle.aho_cover.specs.Feeds.{Feeding}
use Rattle.aho_cover.specs.Progress.{IsSoundCover, KeepsRoom, walk_end}
use Rattle.aho_cover.specs.Steps.{CanWalk, CoversOn, KeepsBytes}
use Rattle.aho_cover.specs.Writes.{WritesOn}
use Rattle.aho_cover.proofs.steps.walk_read.Given as goal

abbrev pub invariant-loop-at : goal.invariant-loop-at
invariant-loop-at g l =
    let automaton = l.initial.walk.automaton.now in
    record {
      sound : IsSoundCover l.progress l.at;
      within : l.at ≤ walk_end l.progress;
      own : l.walk.automaton.now ≡ l.automaton;
      can : CanWalk g.A.Automaton l.walk (g.P.Pieces.rule l.pieces) (g.P.Pieces.holds l.pieces) l.progress l.at;
      rule : g.P.Pieces.rule l.pieces ≡ g.P.Pieces.rule l.initial.pieces;
      same : l.walk.automaton.now ≡ automaton;
      bytes : KeepsBytes l.initial.progress l.progress;
      room : KeepsRoom l.initial.progress l.progress;
      writes : WritesOn g.W.Sink l.initial.sink l.sink l.initial.counts l.counts
          (Feeding (g.P.Pieces.holds l.initial.pieces) l.initial.progress (CoversOn g.A.Automaton automaton (g.P.Pieces.rule l.initial.pieces) l.initial.progress l.from))
          (Feeding (g.P.Pieces.holds l.pieces) l.progress (CoversOn g.A.Automaton automaton (g.P.Pieces.rule l.initial.pieces) l.progress l.at));
      failures : g.W.Sink.failures l.sink ≡ g.W.Sink.failures l.initial.sink;
      empty_writes : g.W.Sink.empty_writes l.sink ≡ g.W.Sink.empty_writes l.initial.sink;
    }

abbrev pub decreases-loop-at : goal.decreases-loop-at
decreases-loop-at g l = walk_end l.progress - l.at
