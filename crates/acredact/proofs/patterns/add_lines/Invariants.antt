-- The lines in front of what is left are added.
use Rattle.acredact.proofs.Common.{GivesLine, List, length, lines_in, min, parts_left, secrets_of, ℕ, ◌++◌, ◌+◌, ◌-◌, ◌≡◌}
use Rattle.std.proofs.Common.{◌^◌}
use Rattle.acredact.proofs.Loaded.{GivenSoFar}
use Rattle.acredact.proofs.patterns.add_lines.Given as goal

abbrev pub invariant-loop-left : goal.invariant-loop-left
invariant-loop-left l = (front : List (List ℕ))
    × (lines_in l.fn.text ≡ front ++ parts_left 10 l.left)
    × GivenSoFar (GivesLine l.fn.form) front 0 (length front) (secrets_of l.initial.rules.items) (secrets_of l.rules.items)
    × (l.number ≡ min (length front + 1) (2 ^ 64 - 1))

abbrev pub decreases-loop-left : goal.decreases-loop-left
decreases-loop-left l = length (parts_left 10 l.left)
