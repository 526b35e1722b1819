-- The words before the place of the loop do not hold the byte.
use Rattle.acredact.proofs.Common.{drop, first_number, holder_in, holds_byte, pieces_of, ◌+◌, ◌≡◌}
use Rattle.acredact.proofs.clean.holder_of.Given as goal

abbrev pub invariant-loop-at : goal.invariant-loop-at
invariant-loop-at l = holder_in l.fn.judge.ignore_case (pieces_of l.fn.judge.words.now) l.fn.byte
    ≡ first_number (λ word. holds_byte l.fn.judge.ignore_case word l.fn.byte) (l.at + 1) (pieces_of (drop l.at l.fn.judge.words.now))
