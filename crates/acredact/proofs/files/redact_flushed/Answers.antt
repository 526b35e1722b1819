-- A file more is done.
use Rattle.acredact.proofs.Common.{Err, arith, at_drop_all, at_drop_more, name_bytes, rules, task_in, ◌≡◌}
use Rattle.acredact.proofs.Jobs.{job_failed, job_flushed, job_more, job_unflushed}
use Rattle.acredact.proofs.Turns.{turn_end, turn_fails, turn_first, turn_next}
use Rattle.acredact.proofs.files.redact_flushed.Goals as goal

pub loop-name-init : goal.loop-name-init
loop-name-init g c = λ plan by. (by, turn_first)

pub loop-name-preserved : goal.loop-name-preserved
loop-name-preserved g c = λ plan by.
    let (now, turn) = c.loop-name.invariant plan by in
    let one = c.in_ok-whole.ensures in (
      one.still plan now,
      turn_next turn (at_drop_more name_bytes c.args.names.now c.loop-name.name-index _ c.loop-name-test.true) c.both-all.ensures.both
          (job_more g.W.Write g.E.Sink (task_in g.F.Folder c.args.folder.now (g.X.Way.means plan)) (one.outcome plan now)),
    )

pub returns-in_err-whole : goal.returns-in_err-whole
returns-in_err-whole g c =
    let is : c.from_residual.result ≡ Err c.in_err-whole.field-0.0 = search rules in λ plan by.
    let (now, turn) = c.loop-name.invariant plan by in
    rw is
    (turn_fails turn (at_drop_more name_bytes c.args.names.now c.loop-name.name-index _ c.loop-name-test.true)
    (job_failed g.W.Write g.E.Sink (task_in g.F.Folder c.args.folder.now (g.X.Way.means plan)) (c.in_err-whole.ensures.outcome plan now))).is

pub returns-in_err-flush : goal.returns-in_err-flush
returns-in_err-flush g c =
    let is : c.from_residual-in_err-flush.result ≡ Err c.in_err-flush.field-0.0 = search rules in
    let flush = c.in_err-flush.ensures in λ plan by.
    rw is
    (turn_fails (c.loop-name.invariant plan by).1 (at_drop_all name_bytes c.args.names.now c.loop-name.name-index (omega (arith, c.loop-name-test.false)))
    (job_unflushed g.W.Write g.E.Sink (task_in g.F.Folder c.args.folder.now (g.X.Way.means plan)) flush.kept flush.failures flush.empty_writes flush.only)).is

pub returns : goal.returns
returns g c =
    let flush = c.in_ok-flush.ensures in λ plan by.
    (turn_end (c.loop-name.invariant plan by).1 (at_drop_all name_bytes c.args.names.now c.loop-name.name-index (omega (arith, c.loop-name-test.false)))
    (job_flushed g.W.Write g.E.Sink (task_in g.F.Folder c.args.folder.now (g.X.Way.means plan)) flush.kept flush.failures flush.empty_writes (search rules))).is
