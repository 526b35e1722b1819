-- The bytes before the place of the loop are marked, and what was marked stays so.
use Rattle.acredact.proofs.Common.{AllWithin, folded_by, get_or, ◌≡◌}
use Rattle.std.specs.Prelude.{false, true}
use Rattle.acredact.specs.Pieces.{StayMarked}
use Rattle.acredact.proofs.clean.mark.Given as goal

abbrev pub invariant-loop-byte : goal.invariant-loop-byte
invariant-loop-byte l = AllWithin (λ byte. get_or l.marks (folded_by l.fn.ignore_case byte) false ≡ true) l.fn.word 0 l.byte-index × StayMarked l.initial.marks l.marks
