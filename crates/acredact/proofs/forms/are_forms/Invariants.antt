-- All names are those of forms where those that are left are.
use Rattle.acredact.proofs.Common.{length, list_all, parts_left, ◌≡◌}
use Rattle.acredact.specs.Forms.{are_forms, is_asked}
use Rattle.acredact.proofs.forms.are_forms.Given as goal

abbrev pub invariant-loop-left : goal.invariant-loop-left
invariant-loop-left l = are_forms l.fn.value ≡ list_all is_asked (parts_left 44 l.left)

abbrev pub decreases-loop-left : goal.decreases-loop-left
decreases-loop-left l = length (parts_left 44 l.left)
