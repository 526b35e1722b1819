-- Of patterns of lists it is told first, and then of a piece.
use Rattle.acredact.proofs.prepare.prepare.Goals as goal

pub returns-clause-told : goal.returns-clause-told
returns-clause-told g c = (
  c.warn_of_lists.new.errors,
  rw (c.has-strict.ensures.has, c.as_slice-rules.ensures.value) at c.in-Ok.ensures.told,
  (c.unclean_in-unclean.result, c.unclean_in-unclean.ensures.judged, rw c.has-strict.ensures.has at c.in-Ok-warn.ensures.told),
)
