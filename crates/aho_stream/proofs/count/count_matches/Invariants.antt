-- What the loop keeps: so many matches were counted.
use Rattle.std.proofs.Common.{◌-◌}
use Rattle.aho_stream.proofs.Countings.{Going}
use Rattle.aho_stream.proofs.count.count_matches.Given as goal

abbrev pub invariant-loop-answer : goal.invariant-loop-answer
invariant-loop-answer g l = record { going : Going g.A.Automaton g.R.Source l.fn.chunks l.chunks l.count }

abbrev pub decreases-loop-answer : goal.decreases-loop-answer
decreases-loop-answer g l = l.fn.chunks.progress.limit - l.chunks.progress.reported
