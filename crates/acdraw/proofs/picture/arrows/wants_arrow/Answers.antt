use Rattle.std.proofs.Common.{◌≡◌, ◌≢◌, sym, subst, arith}
use Rattle.std.specs.List.{All}
use Rattle.std.proofs.lemmas.Bool.Decides.{nat_tests}
use Rattle.std.proofs.lemmas.List.{take_all}
use Rattle.std.proofs.lemmas.List.Elements.{All-more}
use Rattle.acdraw.specs.declared.picture.arrows.Arrow.{Arrow}
use Rattle.acdraw.proofs.picture.arrows.wants_arrow.Goals as goal

pub returns-then-eq-2-clause-there : goal.returns-then-eq-2-clause-there
returns-then-eq-2-clause-there c = λ is_false led.
    let here : c.arrow-item.result.next ≡ c.args.next = grind (arith, nat_tests, c.eq-in-loop-arrow.ensures, c.if-eq-2.true) in
    (c.loop-arrow.arrow-index, c.arrow-item.result, c.loop-arrow-test.true, sym c.arrow-item.is, here)

pub loop-arrow-preserved : goal.loop-arrow-preserved
loop-arrow-preserved c =
    let P : Arrow → Type 0 = λ arrow. arrow.next ≢ c.args.next in
    let other : P c.arrow-item.result = grind (arith, nat_tests, c.eq-in-loop-arrow.ensures, c.if-eq-2.false) in
    All-more P c.args.arrows.now c.loop-arrow.arrow-index c.arrow-item.result c.loop-arrow-test.true c.loop-arrow.invariant (subst P c.arrow-item.is other)

pub returns-clause-none : goal.returns-clause-none
returns-clause-none c = λ is_true. subst (All (λ (arrow : Arrow). arrow.next ≢ c.args.next)) (take_all c.loop-arrow.arrow-index c.args.arrows.now (omega (arith, c.loop-arrow-test.false))) c.loop-arrow.invariant
