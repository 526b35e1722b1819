-- The values are not refused, and one more is added.
use Rattle.acredact.proofs.Common.{Bor, List, rules, ℕ}
use Rattle.acredact.proofs.Loaded.{given_all, given_item}
use Rattle.acredact.proofs.load.add_values.Goals as goal

pub loop-value-preserved : goal.loop-value-preserved
loop-value-preserved g c =
    given_item (λ (value : Bor (List ℕ)). value.now) c.args.values.now c.loop-value.value-index _ c.loop-value-test.true c.loop-value.invariant c.in-Ok.ensures.added

pub returns-clause-added : goal.returns-clause-added
returns-clause-added g c =
    let added = given_all (λ (value : Bor (List ℕ)). value.now) c.args.values.now c.loop-value.value-index c.loop-value-test.false c.loop-value.invariant in
    record { more = added.more; grown = added.grown; of = record { some = search rules; given = added.of } }
