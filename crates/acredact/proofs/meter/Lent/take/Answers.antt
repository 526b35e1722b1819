-- What a read gives is counted.
use Rattle.acredact.proofs.Common.{Consumes-kept, Consumes-nil, [], arith, length-take-le, take}
use Rattle.acredact.proofs.Totals.{metered_more}
use Rattle.acredact.proofs.meter.Lent.take.Goals as goal

pub returns-in_err-count-clause-metered : goal.returns-in_err-count-clause-metered
returns-in_err-count-clause-metered g c = λ whole start.
    metered_more whole _ _ start _ _ [] (Consumes-kept _ _ _ [] (Consumes-nil _) c.in_err-count.ensures.given) (omega (arith, c.args.self.now.fits))

pub returns-clause-metered : goal.returns-clause-metered
returns-clause-metered g c = λ whole start.
    let sized = length-take-le c.in_ok-count.count c.read.new.buf c.in_ok-count.ensures.within in
    metered_more whole _ _ start _ _ (take c.in_ok-count.count c.read.new.buf) c.in_ok-count.ensures.given (omega (arith, sized, c.saturating_add-self.ensures))
