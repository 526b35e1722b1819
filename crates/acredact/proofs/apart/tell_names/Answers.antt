-- Of one more it is told.
use Rattle.acredact.proofs.Doubting.{item_cut, told_more}
use Rattle.acredact.proofs.apart.tell_names.Goals as goal

pub loop-name-preserved : goal.loop-name-preserved
loop-name-preserved g c =
    told_more _ (rw (item_cut c.args.names.now c.loop-name.name-index c.name-item.result c.loop-name-test.true c.name-item.is) at c.loop-name.invariant)
    (rw c.as_slice.ensures.value at c.tell_shown.ensures.told)
