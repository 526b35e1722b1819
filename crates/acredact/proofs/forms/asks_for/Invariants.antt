-- Some name is this form's where one of those that are left is.
use Rattle.acredact.proofs.Common.{length, list_any, parts_left, ◌≡◌}
use Rattle.acredact.specs.Forms.{asks_for, names_form}
use Rattle.acredact.proofs.forms.asks_for.Given as goal

abbrev pub invariant-loop-left : goal.invariant-loop-left
invariant-loop-left l = asks_for l.fn.value l.fn.form ≡ list_any (λ name. names_form name l.fn.form) (parts_left 44 l.left)

abbrev pub decreases-loop-left : goal.decreases-loop-left
decreases-loop-left l = length (parts_left 44 l.left)
