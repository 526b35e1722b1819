use Rattle.std.proofs.Common.{◌≡◌, ◌≢◌, ◌<◌, ◌∙◌, sym, subst, arith, ap}
use Rattle.aho_core.specs.Bytes.{folded}
use Rattle.aho_core.specs.Step.{follow}
use Rattle.aho_build.specs.Automaton.{IsHeldAs}
use Rattle.aho_table.specs.Table.{fail_id, next_in, fail_in}
use Rattle.aho_build.specs.Walking.{links_left, step_along}
use Rattle.aho_build.proofs.AutomatonStates.{held-taken, held-ended, held-failed}
use Rattle.aho_build.proofs.NumberTests.{differ-true, differ-false}
use Rattle.aho_build.proofs.StepResults.{along-taken, along-ended, along-linked}
use Rattle.aho_build.proofs.steps.step.Goals as goal

pub returns-then-ne-clause-next : goal.returns-then-ne-clause-next
returns-then-ne-clause-next c =
    let ne : next_in c.args.table.now.states c.links.sid c.args.byte ≢ fail_id = λ e. differ-true c.ne.result c.follow-next.result fail_id c.ne.ensures c.if-ne.true (c.follow-next.ensures.next ∙ e) in
    let t = c.links.invariant.next in
    c.follow-next.ensures.next ∙ sym (t.2 ∙ along-taken c.args.table.now.states c.args.byte c.args.anchored t.0 c.links.sid (omega (arith, t.1)) ne)

pub returns-then-ne-clause-follows : goal.returns-then-ne-clause-follows
returns-then-ne-clause-follows c p special names state automaton held =
    let small : c.args.byte < 256 = omega arith in
    let ne : next_in c.args.table.now.states c.links.sid c.args.byte ≢ fail_id = λ e. differ-true c.ne.result c.follow-next.result fail_id c.ne.ensures c.if-ne.true (c.follow-next.ensures.next ∙ e) in
    let w = c.links.invariant.walked p special names state automaton held in
    let t = held-taken special p names c.args.table.now.states automaton c.args.anchored w.0 c.links.sid c.args.byte small w.1 ne in
    subst (IsHeldAs special c.args.anchored names (follow p c.args.anchored state (folded p c.args.byte))) (sym c.follow-next.ensures.next)
    (subst (λ o. IsHeldAs special c.args.anchored names o (next_in c.args.table.now.states c.links.sid c.args.byte)) (sym w.2) t.0)

pub returns-then-ne-clause-counted : goal.returns-then-ne-clause-counted
returns-then-ne-clause-counted c p special names state automaton held =
    let small : c.args.byte < 256 = omega arith in
    let ne : next_in c.args.table.now.states c.links.sid c.args.byte ≢ fail_id = λ e. differ-true c.ne.result c.follow-next.result fail_id c.ne.ensures c.if-ne.true (c.follow-next.ensures.next ∙ e) in
    let w = c.links.invariant.walked p special names state automaton held in
    let t = held-taken special p names c.args.table.now.states automaton c.args.anchored w.0 c.links.sid c.args.byte small w.1 ne in
    omega (arith, w.3, t.1, c.follow-next.ensures.counted)

pub returns-in-Yes-clause-next : goal.returns-in-Yes-clause-next
returns-in-Yes-clause-next c =
    let e : next_in c.args.table.now.states c.links.sid c.args.byte ≡ fail_id = sym c.follow-next.ensures.next ∙ differ-false c.ne.result c.follow-next.result fail_id c.ne.ensures c.if-ne.false in
    let t = c.links.invariant.next in
    sym (t.2 ∙ along-ended c.args.table.now.states c.args.byte c.args.anchored t.0 c.links.sid c.in-Yes.is (omega (arith, t.1)) e)

pub returns-in-Yes-clause-follows : goal.returns-in-Yes-clause-follows
returns-in-Yes-clause-follows c p special names state automaton held =
    let small : c.args.byte < 256 = omega arith in
    let e : next_in c.args.table.now.states c.links.sid c.args.byte ≡ fail_id = sym c.follow-next.ensures.next ∙ differ-false c.ne.result c.follow-next.result fail_id c.ne.ensures c.if-ne.false in
    let w = c.links.invariant.walked p special names state automaton held in
    held-ended special p names c.args.table.now.states automaton c.args.anchored state w.0 c.links.sid c.args.byte c.in-Yes.is small w.1 w.2 e

pub links-preserved : goal.links-preserved
links-preserved c =
    let small : c.args.byte < 256 = omega arith in
    let e : next_in c.args.table.now.states c.links.sid c.args.byte ≡ fail_id = sym c.follow-next.ensures.next ∙ differ-false c.ne.result c.follow-next.result fail_id c.ne.ensures c.if-ne.false in
    let fail_is : c.fail-sid.result ≡ fail_in c.args.table.now.states c.links.sid = c.fail-sid.ensures.fail in
    let state = c.requires.sound.fail_state c.links.sid c.args.byte c.links.invariant.state small e in
    let nearer = c.requires.sound.fail_nearer c.links.sid c.args.byte c.links.invariant.state small e in
    record {
      state = (omega (arith, fail_is, state.0), λ z. state.1 (sym fail_is ∙ z));
      paid = omega (arith, c.follow-next.ensures.counted, c.links.invariant.paid, nearer, ap (links_left c.args.table.now.states) fail_is);
      grows = omega (arith, c.follow-next.ensures.counted, c.links.invariant.grows);
      next =
          let t = c.links.invariant.next in
          let on = along-linked c.args.table.now.states c.args.byte c.args.anchored t.0 c.links.sid c.in-No.is (omega (arith, t.1)) e in (
            on.0,
            omega (arith, t.1, on.1, nearer, ap (links_left c.args.table.now.states) fail_is),
            t.2 ∙ on.2 ∙ ap (step_along c.args.table.now.states c.args.anchored c.args.byte on.0) (sym fail_is),
          );
      walked = λ p special names state automaton held.
          let w = c.links.invariant.walked p special names state automaton held in
          let t = held-failed special p names c.args.table.now.states automaton c.args.anchored w.0 c.links.sid c.args.byte c.in-No.is small w.1 e in (
            t.0,
            subst (IsHeldAs special c.args.anchored names t.0) (sym fail_is) t.1,
            w.2 ∙ t.2,
            omega (arith, w.3, t.3, c.follow-next.ensures.counted),
          );
    }
