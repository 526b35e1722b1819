use Rattle.std.proofs.Common.{◌≡◌, take}
use Rattle.std.specs.Prelude.{min}
use Rattle.aho_core.specs.Replacement.{pieces_of}
use Rattle.aho_levels.specs.Sorting.{bytes_together}
use Rattle.aho_levels.proofs.order.size_of.Given as goal

abbrev pub invariant-loop-pattern : goal.invariant-loop-pattern
invariant-loop-pattern l = l.size ≡ min 18446744073709551615 (bytes_together (pieces_of (take l.pattern-index l.patterns)))
