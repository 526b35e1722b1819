-- The rows so far, and those of what is left.
use Rattle.acgrep.proofs.Common.{pieces_of}
use Rattle.std.proofs.Common.{◌++◌, ◌≡◌, drop}
use Rattle.acgrep.specs.Tallies.{rows_counted}
use Rattle.acgrep.proofs.tally.put_rows.Given as goal

abbrev pub invariant-loop-pattern : goal.invariant-loop-pattern
invariant-loop-pattern l = record {
  number : l.number ≡ l.pattern-index;
  rows : l.text.items ++ rows_counted l.number (pieces_of (drop l.pattern-index l.fn.patterns)) l.left ≡ l.initial.text.items ++ rows_counted 0 (pieces_of l.fn.patterns) l.fn.counts;
}
