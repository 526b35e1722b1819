use Rattle.std.proofs.Common.{◌-◌}
use Rattle.aho_hybrid.specs.Layout.{IsAmong}
use Rattle.aho_hybrid.proofs.rows.halved.Given as goal

abbrev pub invariant-loop-high : goal.invariant-loop-high
invariant-loop-high l = IsAmong l.moves l.byte l.low l.high

abbrev pub decreases-loop-high : goal.decreases-loop-high
decreases-loop-high l = l.high - l.low
