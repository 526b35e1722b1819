-- The names that are left give the others.
use Rattle.acredact.proofs.Common.{filter_map, length, parts_left, ◌++◌, ◌≡◌}
use Rattle.acredact.specs.Forms.{nested_called, nested_named}
use Rattle.acredact.proofs.forms.nested_named.Given as goal

abbrev pub invariant-loop-left : goal.invariant-loop-left
invariant-loop-left l = l.nested.items ++ filter_map nested_called (parts_left 44 l.left) ≡ nested_named l.fn.value

abbrev pub decreases-loop-left : goal.decreases-loop-left
decreases-loop-left l = length (parts_left 44 l.left)
