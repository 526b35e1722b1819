-- What is added, and what the lines that are left give.
use Rattle.acredact.proofs.Common.{flat_map, length, parts_left, secrets_of, ◌++◌, ◌≡◌}
use Rattle.acredact.specs.Parts.{line_secrets, lines_secrets}
use Rattle.acredact.proofs.parts.add_parts.Given as goal

abbrev pub invariant-loop-left : goal.invariant-loop-left
invariant-loop-left l = secrets_of l.rules.items ++ flat_map (line_secrets l.fn.list) (parts_left 10 l.left) ≡ secrets_of l.initial.rules.items ++ lines_secrets l.fn.list l.fn.pattern

abbrev pub decreases-loop-left : goal.decreases-loop-left
decreases-loop-left l = length (parts_left 10 l.left)
