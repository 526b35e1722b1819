use Rattle.std.proofs.Common.{◌≡◌, ◌≢◌, ◌∙◌, sym, inl, arith}
use Rattle.std.proofs.lemmas.Result.{on_ok_weaker, IfErr-weaker}
use Rattle.aho_core.specs.declared.error.BuildError.TheVariants.{OutOfMemory}
use Rattle.aho_build.specs.FailureLinks.{IsLinkingRefusal}
use Rattle.aho_table.specs.Table.{fail_id, fail_in}
use Rattle.aho_build.proofs.NumberTests.{same-false, differ-false}
use Rattle.aho_build.proofs.StoppedBuilds.{IfErr-given}
use Rattle.aho_build.proofs.VisitedTransitions.{visit_child_below, visit_can, visit_link_below, visit_apart, visit_keeps, visit_counted, visit_longer, visit_head, visit_refused, visit_copies}
use Rattle.aho_build.proofs.compiler.failure.visit.Goals as goal

pub fail-requires : goal.fail-requires
fail-requires c =
    let other : c.transition-byte.result.1 ≢ fail_id = same-false c.eq.result c.transition-byte.result.1 fail_id c.eq.ensures c.if-eq.false in
    record {
      added = visit_child_below c.args.kind c.args.queue.now.items c.args.head c.args.index c.args.table.now.states c.index-parent.result.now c.transition-byte.result
          (omega (arith, c.args.queue.now.ok.0)) (omega arith) c.index-parent.ensures c.transition-byte.ensures.listed c.transition-byte.ensures.leads c.requires.linking other;
    }

pub child_link-fail-requires : goal.child_link-fail-requires
child_link-fail-requires c =
    let other : c.transition-byte.result.1 ≢ fail_id = same-false c.eq.result c.transition-byte.result.1 fail_id c.eq.ensures c.if-eq.false in
    let free : fail_in c.args.table.now.states c.transition-byte.result.1 ≡ fail_id = sym c.fail.ensures.fail ∙ differ-false c.ne.result c.fail.result fail_id c.ne.ensures c.if-ne.false in
    record {
      can = visit_can c.args.kind c.args.queue.now.items c.args.head c.args.index c.args.table.now.states c.index-parent.result.now c.transition-byte.result
          (omega (arith, c.args.queue.now.ok.0)) (omega arith) c.index-parent.ensures c.transition-byte.ensures.listed c.transition-byte.ensures.leads other free c.requires.linking;
    }

pub link-requires-clause-sid : goal.link-requires-clause-sid
link-requires-clause-sid c =
    let other : c.transition-byte.result.1 ≢ fail_id = same-false c.eq.result c.transition-byte.result.1 fail_id c.eq.ensures c.if-eq.false in
    visit_child_below c.args.kind c.args.queue.now.items c.args.head c.args.index c.args.table.now.states c.index-parent.result.now c.transition-byte.result
    (omega (arith, c.args.queue.now.ok.0)) (omega arith) c.index-parent.ensures c.transition-byte.ensures.listed c.transition-byte.ensures.leads c.requires.linking other

pub link-requires-clause-fail : goal.link-requires-clause-fail
link-requires-clause-fail c =
    let other : c.transition-byte.result.1 ≢ fail_id = same-false c.eq.result c.transition-byte.result.1 fail_id c.eq.ensures c.if-eq.false in
    let free : fail_in c.args.table.now.states c.transition-byte.result.1 ≡ fail_id = sym c.fail.ensures.fail ∙ differ-false c.ne.result c.fail.result fail_id c.ne.ensures c.if-ne.false in
    visit_link_below c.args.kind c.args.queue.now.items c.args.head c.args.index c.args.table.now.states c.index-parent.result.now c.transition-byte.result
    (omega (arith, c.args.queue.now.ok.0)) (omega arith) c.index-parent.ensures c.transition-byte.ensures.listed c.transition-byte.ensures.leads other free c.child_link-fail.result c.child_link-fail.ensures.links c.requires.linking

pub link-requires-clause-apart : goal.link-requires-clause-apart
link-requires-clause-apart c =
    let other : c.transition-byte.result.1 ≢ fail_id = same-false c.eq.result c.transition-byte.result.1 fail_id c.eq.ensures c.if-eq.false in
    let free : fail_in c.args.table.now.states c.transition-byte.result.1 ≡ fail_id = sym c.fail.ensures.fail ∙ differ-false c.ne.result c.fail.result fail_id c.ne.ensures c.if-ne.false in
    visit_apart c.args.kind c.args.queue.now.items c.args.head c.args.index c.args.table.now.states c.index-parent.result.now c.transition-byte.result
    (omega (arith, c.args.queue.now.ok.0)) (omega arith) c.index-parent.ensures c.transition-byte.ensures.listed c.transition-byte.ensures.leads other free c.child_link-fail.result c.child_link-fail.ensures.links c.requires.linking

pub returns : goal.returns
returns c =
    let other : c.transition-byte.result.1 ≢ fail_id = same-false c.eq.result c.transition-byte.result.1 fail_id c.eq.ensures c.if-eq.false in
    let free : fail_in c.args.table.now.states c.transition-byte.result.1 ≡ fail_id = sym c.fail.ensures.fail ∙ differ-false c.ne.result c.fail.result fail_id c.ne.ensures c.if-ne.false in
    let linked = c.in_ok-link.ensures.linked in
    record {
      linking = on_ok_weaker c.enqueue.result (λ enqueued. visit_keeps c.args.kind c.args.queue.now.items c.args.head c.args.index c.args.table.now.states c.index-parent.result.now c.transition-byte.result
          (omega (arith, c.args.queue.now.ok.0)) (omega arith) c.index-parent.ensures c.transition-byte.ensures.listed c.transition-byte.ensures.leads other free c.child_link-fail.result c.child_link-fail.ensures.links c.enqueue.new.queue.items c.link.new.table.states enqueued linked) c.enqueue.ensures.enqueued;
      counted = on_ok_weaker c.enqueue.result (λ enqueued. omega (
        arith,
        c.args.queue.now.ok.0,
        c.enqueue.new.queue.ok.0,
        visit_counted c.args.kind c.args.queue.now.items c.args.head c.args.index c.args.table.now.states c.index-parent.result.now c.transition-byte.result
            (omega (arith, c.args.queue.now.ok.0)) (omega arith) c.index-parent.ensures c.transition-byte.ensures.listed c.transition-byte.ensures.leads other free c.child_link-fail.result c.child_link-fail.ensures.links c.enqueue.new.queue.items c.link.new.table.states enqueued linked c.requires.linking,
      )) c.enqueue.ensures.enqueued;
      longer = on_ok_weaker c.enqueue.result (λ enqueued. omega (
        arith,
        c.args.queue.now.ok.0,
        c.enqueue.new.queue.ok.0,
        visit_longer c.args.kind c.args.queue.now.items c.args.head c.args.index c.args.table.now.states c.index-parent.result.now c.transition-byte.result
            (omega (arith, c.args.queue.now.ok.0)) (omega arith) c.index-parent.ensures c.transition-byte.ensures.listed c.transition-byte.ensures.leads other free c.child_link-fail.result c.child_link-fail.ensures.links c.enqueue.new.queue.items c.link.new.table.states enqueued linked,
      )) c.enqueue.ensures.enqueued;
      head = on_ok_weaker c.enqueue.result (λ enqueued. visit_head c.args.kind c.args.queue.now.items c.args.head c.args.index c.args.table.now.states c.index-parent.result.now c.transition-byte.result
          (omega (arith, c.args.queue.now.ok.0)) (omega arith) c.index-parent.ensures c.transition-byte.ensures.listed c.transition-byte.ensures.leads other free c.child_link-fail.result c.child_link-fail.ensures.links c.enqueue.new.queue.items c.link.new.table.states enqueued linked) c.enqueue.ensures.enqueued;
      copies = on_ok_weaker c.enqueue.result (λ enqueued. visit_copies c.args.kind c.args.queue.now.items c.args.head c.args.index c.args.table.now.states c.index-parent.result.now c.transition-byte.result
          (omega (arith, c.args.queue.now.ok.0)) (omega arith) c.index-parent.ensures c.transition-byte.ensures.listed c.transition-byte.ensures.leads other free c.child_link-fail.result c.child_link-fail.ensures.links
          c.args.table.now.limit c.args.table.now.classes c.args.table.now.dense_len c.args.table.now.rows c.link.new.table c.requires.linking c.in_ok-link.ensures.limit c.in_ok-link.ensures.rows linked) c.enqueue.ensures.enqueued;
      refused = IfErr-weaker c.enqueue.result (λ error. error ≡ OutOfMemory) (IsLinkingRefusal c.args.kind c.args.queue.now.items c.args.head c.args.index c.args.table.now)
          (λ error memory p same so_far none. inl memory) c.enqueue.ensures.refused;
    }

pub returns-in_err-link-clause-refused : goal.returns-in_err-link-clause-refused
returns-in_err-link-clause-refused c =
    let other : c.transition-byte.result.1 ≢ fail_id = same-false c.eq.result c.transition-byte.result.1 fail_id c.eq.ensures c.if-eq.false in
    let free : fail_in c.args.table.now.states c.transition-byte.result.1 ≡ fail_id = sym c.fail.ensures.fail ∙ differ-false c.ne.result c.fail.result fail_id c.ne.ensures c.if-ne.false in
    IfErr-given (IsLinkingRefusal c.args.kind c.args.queue.now.items c.args.head c.args.index c.args.table.now) c.from_residual.result c.in_err-link.field-0.0 c.from_residual.ensures.1
    (visit_refused c.args.kind c.args.queue.now.items c.args.head c.args.index c.args.table.now.states c.index-parent.result.now c.transition-byte.result
    (omega (arith, c.args.queue.now.ok.0)) (omega arith) c.index-parent.ensures c.transition-byte.ensures.listed c.transition-byte.ensures.leads other free c.child_link-fail.result c.child_link-fail.ensures.links
    c.args.table.now.limit c.in_err-link.field-0.0 c.in_err-link.ensures.refused)
