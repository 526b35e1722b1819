-- What the loop keeps: no pattern before the number holds the byte.
use Rattle.acgrep.proofs.Common.{Nowhere, pieces_of}
use Rattle.std.proofs.Common.{◌<◌, [], length, ℕ}
use Rattle.std.specs.Prelude.{slice_index_or}
use Rattle.acgrep.specs.Lines.{IsEnding}
use Rattle.acgrep.proofs.patterns.first_holding.Given as goal

abbrev pub invariant-loop-number : goal.invariant-loop-number
invariant-loop-number l = (other : ℕ) → other < l.number
    → Nowhere (IsEnding l.byte (slice_index_or (pieces_of l.patterns) other [])) 0 (length (slice_index_or (pieces_of l.patterns) other []))
