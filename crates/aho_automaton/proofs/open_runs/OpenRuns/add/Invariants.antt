-- What the loop keeps: joined to what is left of the runs, the run in hand makes what the match makes of all.
use Rattle.std.proofs.Common.{◌≡◌, ◌<◌, length}
use Rattle.std.specs.VecDeque.{deque_capacity}
use Rattle.aho_laws.specs.CoverLaws.{AreInOrder, joined_runs}
use Rattle.aho_automaton.proofs.open_runs.OpenRuns.add.Given as goal

abbrev pub invariant-loop-last : goal.invariant-loop-last
invariant-loop-last l = record {
  joined : joined_runs l.self.runs.items l.run ≡ joined_runs l.fn.self.runs.items l.fn.m;
  in_order : AreInOrder l.self.runs.items l.run.end;
  ends : l.run.end ≡ l.fn.m.end;
  some : l.run.start < l.run.end;
  same_room : deque_capacity l.self.runs ≡ deque_capacity l.fn.self.runs;
}

abbrev pub decreases-loop-last : goal.decreases-loop-last
decreases-loop-last l = length l.self.runs.items
