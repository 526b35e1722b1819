-- The lines so far, and those of what is left.
use Rattle.acgrep.proofs.Common.{pieces_of}
use Rattle.std.proofs.Common.{◌++◌, ◌≡◌, length}
use Rattle.acgrep.specs.Lines.{lines}
use Rattle.acgrep.proofs.patterns.lines_of.Given as goal

abbrev pub invariant-loop-rest : goal.invariant-loop-rest
invariant-loop-rest l = pieces_of l.lines.items ++ lines 10 l.rest ≡ lines 10 l.fn.text

abbrev pub decreases-loop-rest : goal.decreases-loop-rest
decreases-loop-rest l = length l.rest
