-- A count for each pattern so far.
use Rattle.acgrep.proofs.Common.{pieces_of}
use Rattle.std.proofs.Common.{◌++◌, ◌≡◌, length}
use Rattle.acgrep.specs.Tallies.{zeros_of}
use Rattle.acgrep.proofs.tally.zeros.Given as goal

abbrev pub invariant-loop-rest : goal.invariant-loop-rest
invariant-loop-rest l = l.counts.items ++ zeros_of (pieces_of l.rest) ≡ zeros_of (pieces_of l.fn.patterns)

abbrev pub decreases-loop-rest : goal.decreases-loop-rest
decreases-loop-rest l = length l.rest
