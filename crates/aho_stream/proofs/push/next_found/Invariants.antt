-- What the loop keeps.
use Rattle.std.proofs.Common.{◌≡◌, ◌-◌, false}
use Rattle.aho_stream.specs.After.{StaysAfter}
use Rattle.aho_stream.proofs.push.next_found.Given as goal

-- Over the same automaton the search has come so far, and no match was found.
abbrev pub invariant-loop-piece : goal.invariant-loop-piece
invariant-loop-piece g l =
    let automaton = g.W.Walk.of l.initial.walk in
    record {
      same_walk : g.W.Walk.of l.walk ≡ automaton;
      after : StaysAfter g.W.Of.Automaton automaton (g.W.Walk.lookups l.initial.walk) l.initial.progress (g.W.Walk.lookups l.walk) l.progress;
      from : l.progress.from ≡ l.initial.progress.from;
      unrefused : l.progress.refused ≡ false;
      ended : l.progress.ended ≡ l.initial.progress.ended;
      limit : l.progress.limit ≡ l.initial.progress.limit;
    }

abbrev pub decreases-loop-piece : goal.decreases-loop-piece
decreases-loop-piece g l = l.progress.limit - l.progress.reported
