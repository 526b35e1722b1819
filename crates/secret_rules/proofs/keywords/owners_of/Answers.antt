use Rattle.secret_rules.proofs.Owners.{owners_from-next}
use Rattle.secret_rules.proofs.keywords.owners_of.Goals as goal

pub loop-number-preserved : goal.loop-number-preserved
loop-number-preserved c =
    owners_from-next c.loop-number.number c.args.rules.now c.index-rules-number.result c.loop-number.owners.items _ _ c.deref.result.now c.loop-number-test.true
    c.deref.ensures.value c.in_ok-push_owners.ensures c.loop-number.invariant
