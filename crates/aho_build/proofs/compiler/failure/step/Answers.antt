use Rattle.std.proofs.Common.{◌≢◌, ◌<◌, ◌∙◌, sym, subst, arith, ℕ}
use Rattle.aho_table.specs.Table.{fail_id, next_in, depth_in}
use Rattle.aho_build.specs.FailureLinks.{StepsTo}
use Rattle.aho_build.proofs.NumberTests.{differ-true, differ-false}
use Rattle.aho_build.proofs.StepsAlongLinks.{IsOnTheWay, way-none, way-down, way-below, way-nearer, way-end}
use Rattle.aho_build.proofs.compiler.failure.step.Goals as goal

pub walk-init : goal.walk-init
walk-init c = way-none c.args.table.now.states c.args.from c.args.byte

pub walk-preserved : goal.walk-preserved
walk-preserved c =
    let one = sym c.next_of-next.ensures.next ∙ differ-false c.ne.result c.next_of-next.result fail_id c.ne.ensures c.if-ne.false in
    let small : c.args.byte < 256 = omega arith in
    subst (λ (n : ℕ). IsOnTheWay c.args.table.now.states c.args.from c.args.byte n) (sym c.fail-state.ensures.fail)
    (way-down c.args.table.now.states c.args.from c.args.byte c.walk.state small c.walk.invariant one)

pub walk-smaller : goal.walk-smaller
walk-smaller c =
    let one = sym c.next_of-next.ensures.next ∙ differ-false c.ne.result c.next_of-next.result fail_id c.ne.ensures c.if-ne.false in
    let small : c.args.byte < 256 = omega arith in
    subst (λ (n : ℕ). depth_in c.args.table.now.states n < depth_in c.args.table.now.states c.walk.state) (sym c.fail-state.ensures.fail)
    (way-nearer c.args.table.now.states c.args.from c.args.byte c.walk.state small c.walk.invariant one c.requires.can)

pub next_of-next-requires : goal.next_of-next-requires
next_of-next-requires c = record { added = way-below c.args.table.now.states c.args.from c.args.byte c.walk.state c.walk.invariant c.requires.can }

pub fail-state-requires : goal.fail-state-requires
fail-state-requires c = record { added = way-below c.args.table.now.states c.args.from c.args.byte c.walk.state c.walk.invariant c.requires.can }

pub returns-then-ne : goal.returns-then-ne
returns-then-ne c =
    let small : c.args.byte < 256 = omega arith in
    let there : next_in c.args.table.now.states c.walk.state c.args.byte ≢ fail_id = λ e. differ-true c.ne.result c.next_of-next.result fail_id c.ne.ensures c.if-ne.true (c.next_of-next.ensures.next ∙ e) in
    record {
      steps = subst (StepsTo c.args.table.now.states c.args.from c.args.byte) (sym c.next_of-next.ensures.next)
          (way-end c.args.table.now.states c.args.from c.args.byte c.walk.state small c.walk.invariant there);
    }
