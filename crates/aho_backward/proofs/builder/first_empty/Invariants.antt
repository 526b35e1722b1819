-- What the loop keeps: no pattern before the number is empty.
use Rattle.std.proofs.Common.{◌<◌, ℕ, [], length}
use Rattle.std.specs.Prelude.{slice_index_or}
use Rattle.aho_core.specs.Replacement.{pieces_of}
use Rattle.aho_backward.proofs.builder.first_empty.Given as goal

abbrev pub invariant-loop-number : goal.invariant-loop-number
invariant-loop-number l = (other : ℕ) → other < l.number → 0 < length (slice_index_or (pieces_of l.patterns) other [])
