-- What the loop keeps.
use Rattle.std.proofs.Common.{◌≡◌, ◌-◌}
use Rattle.aho_stream.specs.After.{IsUnsettled, OnlyWalks, StaysAfter}
use Rattle.aho_stream.proofs.pieces.search_skipping.Given as goal

-- Over the same automaton: the search has come so far, and the match in hand is not settled.
abbrev pub invariant-loop-walk : goal.invariant-loop-walk
invariant-loop-walk g l =
    let automaton = g.W.Walk.of l.initial.walk in
    record {
      same_walk : g.W.Walk.of l.walk ≡ automaton;
      after : StaysAfter g.W.Of.Automaton automaton (g.W.Walk.lookups l.initial.walk) l.initial.progress (g.W.Walk.lookups l.walk) l.progress;
      others : OnlyWalks l.initial.progress l.progress;
      going : IsUnsettled g.W.Of.Automaton automaton l.progress;
    }

abbrev pub decreases-loop-walk : goal.decreases-loop-walk
decreases-loop-walk g l = l.progress.read - l.progress.walked
