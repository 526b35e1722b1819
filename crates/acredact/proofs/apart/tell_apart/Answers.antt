-- What is told is what the other arguments ask for.
use Rattle.acredact.proofs.Common.{all_given, refl}
use Rattle.acredact.proofs.apart.tell_apart.Goals as goal

pub returns-in-Ok-clause-which : goal.returns-in-Ok-clause-which
returns-in-Ok-clause-which g c = (
  all_given c.in-Ok.given.items,
  rw c.as_slice.ensures.value at c.in-Ok.ensures.given,
  rw (c.told_by-told.ensures.told, c.as_slice-in-Ok.ensures.value, c.is_empty.ensures, c.as_slice-names.ensures.value),
)

pub returns-in-Err-clause-wrong : goal.returns-in-Err-clause-wrong
returns-in-Err-clause-wrong g c = (c.in-Err.mistake, refl, rw c.as_slice.ensures.value at c.in-Err.ensures.wrong)
