-- No value before what is left is empty.
use Rattle.acredact.proofs.Common.{drop, list_any, pieces_of, ◌≡◌}
use Rattle.acredact.specs.Values.{no_bytes}
use Rattle.acredact.proofs.values.are_refused.Given as goal

abbrev pub invariant-loop-value : goal.invariant-loop-value
invariant-loop-value l = list_any no_bytes (pieces_of l.fn.values) ≡ list_any no_bytes (pieces_of (drop l.value-index l.fn.values))
