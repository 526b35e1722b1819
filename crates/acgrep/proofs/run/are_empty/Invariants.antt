-- The patterns so far are empty.
use Rattle.acgrep.proofs.Common.{pieces_of}
use Rattle.std.proofs.Common.{◌≡◌, drop}
use Rattle.acgrep.specs.Runs.{are_empty}
use Rattle.acgrep.proofs.run.are_empty.Given as goal

abbrev pub invariant-loop-pattern : goal.invariant-loop-pattern
invariant-loop-pattern l = are_empty (pieces_of l.fn.patterns) ≡ are_empty (pieces_of (drop l.pattern-index l.fn.patterns))
