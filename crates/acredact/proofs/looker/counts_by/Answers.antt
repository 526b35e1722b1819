-- What stands for the searcher looks as it does.
use Rattle.acredact.proofs.looker.counts_by.Goals as goal

pub returns-in-Some : goal.returns-in-Some
returns-in-Some g c = record { looks = λ p of. c.counts_in.ensures.looks p (c.in-Some.ensures.stands.of p of) }

pub returns-in-Some-levels : goal.returns-in-Some-levels
returns-in-Some-levels g c = record { looks = λ p of. c.counts_in-in-Some-levels.ensures.looks p (c.in-Some-levels.ensures.stands.of p of) }

pub returns-in-None : goal.returns-in-None
returns-in-None g c = record { looks = λ p of. c.counts_in-in-None.ensures.looks p (c.itself.ensures.stands.of p of) }
