-- What is told of lists comes first.
use Rattle.acredact.proofs.Common.{tells-later}
use Rattle.acredact.proofs.Done.{concat_both}
use Rattle.acredact.proofs.doubts.tell_of_lists.Goals as goal

pub returns : goal.returns
returns g c = record { told = rw concat_both (tells-later g.E.Sink c.tell_doubtful.ensures.told c.tell_short_asked.ensures.told) }
