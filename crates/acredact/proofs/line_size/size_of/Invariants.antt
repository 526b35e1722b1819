-- The digits that are left go on from the number so far.
use Rattle.acredact.proofs.Common.{drop, ◌≡◌}
use Rattle.acredact.specs.LineSizes.{number_from}
use Rattle.acredact.proofs.line_size.size_of.Given as goal

abbrev pub invariant-loop-digit : goal.invariant-loop-digit
invariant-loop-digit l = number_from l.number (drop l.digit-index l.digits) ≡ number_from 0 l.fn.value
