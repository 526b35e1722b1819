-- The transitions so far stand in the row.
use Rattle.std.proofs.Common.{length, drop}
use Rattle.aho_table.specs.Inside.{IsFilled}
use Rattle.aho_table.proofs.links.rows.row_of.Given as goal

abbrev pub invariant-loop-byte : goal.invariant-loop-byte
invariant-loop-byte l = IsFilled l.classes l.fn.transitions (drop (length l.yielded) l.fn.transitions) l.row
