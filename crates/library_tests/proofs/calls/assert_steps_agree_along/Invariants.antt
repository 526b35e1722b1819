-- The state that is held is one of the automaton, and the look-ups so far pay for its depth.
use Rattle.std.proofs.Common.{◌+◌, ◌*◌, ◌≤◌}
use Rattle.library_tests.proofs.calls.assert_steps_agree_along.Given as goal

abbrev pub invariant-loop-at : goal.invariant-loop-at
invariant-loop-at g l = record {
  valid : g.A.Automaton.valid l.automaton l.sid;
  paid : l.work + g.A.Automaton.depth l.automaton l.sid ≤ 2 * l.at;
}
