use Rattle.std.proofs.Common.{◌≡◌, ◌≢◌, ◌+◌, ◌++◌, List, [], ◌∷◌, refl, sym, subst, take, arith}
use Rattle.std.specs.List.{All, AllPairs, Any}
use Rattle.std.proofs.lemmas.List.{take_all}
use Rattle.aho_table.specs.Table.{fail_id}
use Rattle.acdraw.specs.Arrows.{LeadsTo, runs_to}
use Rattle.acdraw.specs.declared.picture.arrows.Arrow.{Arrow}
use Rattle.acdraw.proofs.Arrows.{HaveArrows, alone_more, have_more, have_same}
use Rattle.acdraw.proofs.Drawn.{all_more}
use Rattle.acdraw.proofs.picture.arrows.joined.Goals as goal

pub loop-run-preserved-then-not-wants_arrow : goal.loop-run-preserved-then-not-wants_arrow
loop-run-preserved-then-not-wants_arrow c = record {
  labels = c.loop-run.invariant.labels;
  each = have_same
      c.loop-run.arrows.items
      c.args.runs.now
      c.loop-run.run-index
      c.run-item.result
      c.loop-run-test.true
      c.run-item.is
      (λ led. subst (Any (LeadsTo c.run-item.result.next)) c.as_slice.ensures.value (c.if-not-wants_arrow.ensures.there refl led))
      c.loop-run.invariant.each;
  alone = c.loop-run.invariant.alone;
  somewhere = c.loop-run.invariant.somewhere;
}

pub loop-run-preserved : goal.loop-run-preserved
loop-run-preserved c =
    let arrows : List Arrow = c.loop-run.arrows.items in
    let arrow : Arrow = record { next = c.run-item.result.next; runs = c.in_ok-chosen.field-0 } in
    let items : c.push.new.self.items ≡ arrows ++ arrow ∷ [] = c.in_ok-push.ensures.items in
    let none = subst (All (λ (other : Arrow). other.next ≢ c.run-item.result.next)) c.as_slice.ensures.value (c.if-not-wants_arrow.ensures.none refl) in
    let labelled : Arrow → Type 0 = λ a. a.runs.items ≡ runs_to a.next c.args.runs.now in
    let leads_on : Arrow → Type 0 = λ a. a.next ≢ fail_id in
    record {
      labels = subst (All labelled) (sym items) (all_more labelled arrows arrow c.loop-run.invariant.labels c.in_ok-chosen.ensures.chosen);
      each = subst
          (λ (l : List Arrow). HaveArrows l (take (c.loop-run.run-index + 1) c.args.runs.now))
          (sym items)
          (have_more arrows arrow c.args.runs.now c.loop-run.run-index c.run-item.result c.loop-run-test.true c.run-item.is refl c.loop-run.invariant.each);
      alone = subst
          (AllPairs (λ (first second : Arrow). first.next ≢ second.next))
          (sym items)
          (alone_more arrows arrow c.run-item.result.next refl c.loop-run.invariant.alone none);
      somewhere = subst (All leads_on) (sym items) (all_more leads_on arrows arrow c.loop-run.invariant.somewhere (c.if-not-wants_arrow.ensures.somewhere refl));
    }

pub returns : goal.returns
returns c =
    let all = take_all c.loop-run.run-index c.args.runs.now (omega (arith, c.loop-run-test.false)) in
    record {
      joined = record {
        labels = c.loop-run.invariant.labels;
        each = subst (HaveArrows c.loop-run.arrows.items) all c.loop-run.invariant.each;
        alone = c.loop-run.invariant.alone;
        somewhere = c.loop-run.invariant.somewhere;
      };
    }
