use Rattle.std.proofs.Common.{◌≢◌, ◌∙◌, sym, subst, refl, true, false, ℕ}
use Rattle.aho_build.specs.FailureLinks.{CanStepBySome, StepsTo}
use Rattle.aho_table.specs.Table.{dead_id}
use Rattle.aho_build.specs.FirstStates.{root_id}
use Rattle.aho_build.proofs.ChildLinks.{LinksTo-stops, LinksTo-root, LinksTo-step, CanStepBySome-link}
use Rattle.aho_build.proofs.NumberTests.{differ-true, differ-false}
use Rattle.aho_build.proofs.compiler.failure.child_link.Goals as goal

pub returns-then-ends_here : goal.returns-then-ends_here
returns-then-ends_here c = record {
  links = LinksTo-stops c.args.kind c.args.table.now.states c.args.parent c.args.byte c.args.child (sym c.ends_here.ensures.ends ∙ c.if-ends_here.true);
}

pub step-requires : goal.step-requires
step-requires c =
    let other : c.args.parent ≢ root_id = λ e. differ-true c.ne.result c.args.parent c.unanchored_start-root.result c.ne.ensures c.if-ne.true (e ∙ sym c.unanchored_start-root.ensures.start) in
    record {
      can = subst (CanStepBySome c.args.table.now.states) (sym c.fail.ensures.fail)
          (CanStepBySome-link c.args.kind c.args.table.now.states c.args.parent c.args.byte c.args.child other c.requires.can);
    }

pub returns-then-ne : goal.returns-then-ne
returns-then-ne c =
    let other : c.args.parent ≢ root_id = λ e. differ-true c.ne.result c.args.parent c.unanchored_start-root.result c.ne.ensures c.if-ne.true (e ∙ sym c.unanchored_start-root.ensures.start) in
    record {
      links = LinksTo-step c.args.kind c.args.table.now.states c.args.parent c.args.byte c.args.child c.step.result (sym c.ends_here.ensures.ends ∙ c.if-ends_here.false) other
          (subst (λ (n : ℕ). StepsTo c.args.table.now.states n c.args.byte c.step.result) c.fail.ensures.fail c.step.ensures.steps);
    }

pub returns-then-ends_here-2 : goal.returns-then-ends_here-2
returns-then-ends_here-2 c =
    let at_root = differ-false c.ne.result c.args.parent c.unanchored_start-root.result c.ne.ensures c.if-ne.false in
    record {
      links = LinksTo-root c.args.kind c.args.table.now.states c.args.parent c.args.byte c.args.child c.unanchored_start-root.result dead_id true (sym c.ends_here.ensures.ends ∙ c.if-ends_here.false)
          at_root c.unanchored_start-root.ensures.start (sym c.ends_here-2.ensures.ends ∙ c.if-ends_here-2.true) refl;
    }

pub returns : goal.returns
returns c =
    let at_root = differ-false c.ne.result c.args.parent c.unanchored_start-root.result c.ne.ensures c.if-ne.false in
    record {
      links = LinksTo-root c.args.kind c.args.table.now.states c.args.parent c.args.byte c.args.child c.unanchored_start-root.result c.unanchored_start-root.result false
          (sym c.ends_here.ensures.ends ∙ c.if-ends_here.false) at_root c.unanchored_start-root.ensures.start (sym c.ends_here-2.ensures.ends ∙ c.if-ends_here-2.false)
          (sym c.unanchored_start-root.ensures.start);
    }
