-- What the loop keeps.
use Rattle.std.proofs.Common.{◌+◌}
use Rattle.aho_core.specs.Patterns.{Patterns}
use Rattle.aho_core.specs.Progress.{StandsAt}
use Rattle.aho_automaton.specs.Overlaps.{NoneEnds}
use Rattle.aho_automaton.proofs.overlapping.walk_to.Given as goal

-- `valid`: the number is that of a state;
-- `stands`: the state is held after the bytes that were read;
-- `none`: nothing that is listed ends after the place where the walk began, up to here.
abbrev pub invariant-loop-place : goal.invariant-loop-place
invariant-loop-place g l =
    let automaton = l.fn.automaton in
    record {
      valid : g.A.Automaton.valid automaton l.sid;
      stands : (p : Patterns) → g.A.Automaton.is_of automaton p → StandsAt (g.A.Automaton.valid automaton) (g.A.Automaton.held automaton p) p l.fn.input l.fn.sid l.fn.at → StandsAt (g.A.Automaton.valid automaton) (g.A.Automaton.held automaton p) p l.fn.input l.sid l.place;
      none : (p : Patterns) → g.A.Automaton.is_of automaton p → StandsAt (g.A.Automaton.valid automaton) (g.A.Automaton.held automaton p) p l.fn.input l.fn.sid l.fn.at → NoneEnds p l.fn.input l.fn.at (l.place + 1);
    }
