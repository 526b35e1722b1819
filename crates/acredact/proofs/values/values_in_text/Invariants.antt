-- What is left gives the other values.
use Rattle.acredact.proofs.Common.{length, lines_in, parts_left, pieces_of, ◌++◌, ◌≡◌}
use Rattle.acredact.specs.Values.{values_in_lines}
use Rattle.acredact.proofs.values.values_in_text.Given as goal

abbrev pub invariant-loop-left : goal.invariant-loop-left
invariant-loop-left l = pieces_of l.values.items ++ values_in_lines l.fn.form (parts_left 10 l.left) ≡ values_in_lines l.fn.form (lines_in l.fn.text)

abbrev pub decreases-loop-left : goal.decreases-loop-left
decreases-loop-left l = length (parts_left 10 l.left)
