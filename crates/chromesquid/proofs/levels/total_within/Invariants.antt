-- What the loop keeps: the bytes so far, of patterns that are short enough.
use Rattle.std.proofs.Common.{◌≡◌, ◌≤◌, ◌+◌, drop, length}
use Rattle.std.specs.Prelude.{sum_by}
use Rattle.std.specs.List.{All}
use Rattle.aho_core.specs.Numbers.{greatest_index}
use Rattle.aho_core.specs.Replacement.{pieces_of}
use Rattle.chromesquid.proofs.levels.total_within.Given as goal

abbrev pub invariant-loop-pattern : goal.invariant-loop-pattern
invariant-loop-pattern l = record {
  sum : l.total + sum_by length (pieces_of (drop l.pattern-index l.patterns)) ≡ sum_by length (pieces_of l.patterns);
  each : All (λ word. length word ≤ l.most) (pieces_of (drop l.pattern-index l.patterns)) → All (λ word. length word ≤ l.most) (pieces_of l.patterns);
  bound : l.total ≤ greatest_index;
}
