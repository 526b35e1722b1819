use Rattle.std.proofs.Common.{◌-◌}
use Rattle.aho_levels.specs.Layout.{StandsAmong}
use Rattle.aho_levels.proofs.child.halved.Given as goal

abbrev pub invariant-loop-high : goal.invariant-loop-high
invariant-loop-high l = StandsAmong l.bytes l.byte l.low l.high

abbrev pub decreases-loop-high : goal.decreases-loop-high
decreases-loop-high l = l.high - l.low
