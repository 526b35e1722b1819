-- What an option more gives is read.
use Rattle.acredact.proofs.Common.{given_of}
use Rattle.acredact.proofs.Loaded.{given_all, given_item}
use Rattle.acredact.proofs.line_rules.read_rules.Goals as goal

pub loop-item-preserved : goal.loop-item-preserved
loop-item-preserved g c = given_item given_of c.args.items.now c.loop-item.item-index _ c.loop-item-test.true c.loop-item.invariant c.in-Ok.ensures.added

pub returns : goal.returns
returns g c =
    let added = given_all given_of c.args.items.now c.loop-item.item-index c.loop-item-test.false c.loop-item.invariant in
    record { read = rw added.grown added.of }
