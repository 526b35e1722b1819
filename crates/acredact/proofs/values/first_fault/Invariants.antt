-- No line before what is left is wrong.
use Rattle.acredact.proofs.Common.{length, lines_in, parts_left, ◌≡◌}
use Rattle.acredact.specs.Values.{first_fault}
use Rattle.acredact.proofs.values.first_fault.Given as goal

abbrev pub invariant-loop-left : goal.invariant-loop-left
invariant-loop-left l = first_fault l.fn.allow_empty l.fn.form 1 (lines_in l.fn.text) ≡ first_fault l.fn.allow_empty l.fn.form l.number (parts_left 10 l.left)

abbrev pub decreases-loop-left : goal.decreases-loop-left
decreases-loop-left l = length (parts_left 10 l.left)
