-- The line by its parts.
use Rattle.acredact.proofs.Common.{append-nil}
use Rattle.acredact.proofs.failure.tell_with_other.Goals as goal

pub returns : goal.returns
returns g c = record { told = rw (append-nil c.args.why.now, c.digits_of-other_digits.ensures.digits, c.digits_of-digits.ensures.digits) at c.write.ensures.told }
