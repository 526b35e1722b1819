use Rattle.aho_table.specs.Table.{depth_in}
use Rattle.aho_build.proofs.StepsAlongLinks.{IsOnTheWay}
use Rattle.aho_build.proofs.compiler.failure.step.Given as goal

abbrev pub invariant-walk : goal.invariant-walk
invariant-walk l = IsOnTheWay l.table.states l.fn.from l.byte l.state

abbrev pub decreases-walk : goal.decreases-walk
decreases-walk l = depth_in l.table.states l.state
