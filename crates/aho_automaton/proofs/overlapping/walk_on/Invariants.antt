-- What the loop over candidates keeps.
use Rattle.std.proofs.Common.{◌+◌, ◌-◌, ◌≤◌}
use Rattle.aho_core.specs.Patterns.{Patterns}
use Rattle.aho_core.specs.Progress.{StandsAt}
use Rattle.aho_automaton.specs.Overlaps.{NoneEnds}
use Rattle.aho_automaton.proofs.overlapping.walk_on.Given as goal

-- `further`: it goes on from a place that is no sooner;
-- `stands`: the state is held there;
-- `none`: nothing that is listed ends after the place where the walk began, up to there.
abbrev pub invariant-skips : goal.invariant-skips
invariant-skips g l =
    let automaton = l.fn.automaton in
    record {
      further : l.fn.at ≤ l.at;
      stands : (p : Patterns) → g.A.Automaton.is_of automaton p → StandsAt (g.A.Automaton.valid automaton) (g.A.Automaton.held automaton p) p l.fn.input l.fn.sid l.fn.at → StandsAt (g.A.Automaton.valid automaton) (g.A.Automaton.held automaton p) p l.fn.input l.sid l.at;
      none : (p : Patterns) → g.A.Automaton.is_of automaton p → StandsAt (g.A.Automaton.valid automaton) (g.A.Automaton.held automaton p) p l.fn.input l.fn.sid l.fn.at → NoneEnds p l.fn.input l.fn.at (l.at + 1);
    }

abbrev pub decreases-skips : goal.decreases-skips
decreases-skips g l = l.fn.input.end - l.at
