-- None of the words before the place of the loop can be spelled.
use Rattle.acredact.proofs.Common.{drop, first_number, may_be_spelled, pieces_of, ◌+◌, ◌≡◌}
use Rattle.acredact.specs.Spelling.{first_spelled}
use Rattle.acredact.proofs.clean.first_spelled.Given as goal

abbrev pub invariant-loop-at : goal.invariant-loop-at
invariant-loop-at l = first_spelled l.fn.ignore_case (pieces_of l.fn.words) ≡ first_number (may_be_spelled l.fn.ignore_case) (l.at + 1) (pieces_of (drop l.at l.fn.words))
