-- Where the lines that are left are counted, all are.
use Rattle.std.proofs.Common.{List, length, ℕ}
use Rattle.acgrep.specs.Lines.{lines}
use Rattle.acgrep.specs.Tallies.{CountsLines}
use Rattle.acgrep.proofs.tally.tally.Given as goal

abbrev pub invariant-loop-rest : goal.invariant-loop-rest
invariant-loop-rest l = (after : List ℕ) → CountsLines (lines l.ending l.rest) l.counts after → CountsLines (lines l.ending l.fn.numbers) l.initial.counts after

abbrev pub decreases-loop-rest : goal.decreases-loop-rest
decreases-loop-rest l = length l.rest
