-- The lines so far are searched, and those of the next step; where that fails nothing is written of them, or a beginning of what is told.
use Rattle.acgrep.proofs.Common.{Appends-nil}
use Rattle.std.proofs.Common.{[], refl}
use Rattle.acgrep.proofs.Beginnings.{begins_rest, on_err}
use Rattle.acgrep.proofs.Begun.{begins_more, begins_nothing, begins_some}
use Rattle.acgrep.proofs.NoneInLines.{nothing_in}
use Rattle.acgrep.proofs.Tellings.{searches_join, searches_page, searches_start}
use Rattle.acgrep.proofs.select.search_plain.Goals as goal

pub loop-rest-init : goal.loop-rest-init
loop-rest-init g c = λ p is plain. searches_start p c.args.query.now.job c.args.state.now _ _ _ c.args.text.now refl refl (Appends-nil (g.W.Sink.taken c.args.output.now))

pub loop-rest-preserved : goal.loop-rest-preserved
loop-rest-preserved g c = λ p is plain.
    searches_join p c.args.query.now.job _ _ _ _ _ _ _ c.loop-rest.rest.now _ (c.loop-rest.invariant p is plain) (c.goes_on.ensures.some c.loop-rest-test.true)
    (searches_page p _ _ _ _ _ _ _ _ (c.in-Ok.ensures.takes p is plain) (rw c.as_slice.ensures.value at c.in_ok-write_whole-in-Ok.ensures.whole))

pub returns-clause-none : goal.returns-clause-none
returns-clause-none g c = λ p is plain.
    let to = c.loop-rest.invariant p is plain in
    nothing_in p c.args.query.now.job c.args.state.now c.loop-rest.state c.args.text.now c.loop-rest.rest.now to.tells.bytes to.searched plain to.cut (c.goes_on.ensures.ends c.loop-rest-test.false) to.tells.told

pub returns-clause-written : goal.returns-clause-written
returns-clause-written g c = λ p is plain. record { left = c.loop-rest.rest.now; searches = c.loop-rest.invariant p is plain; ends = c.goes_on.ensures.ends c.loop-rest-test.false }

pub returns-in-Err-clause-begun : goal.returns-in-Err-clause-begun
returns-in-Err-clause-begun g c = λ p is plain.
    begins_rest p _ _ _ _ _ _ _ _ _ (c.loop-rest.invariant p is plain) (c.goes_on.ensures.some c.loop-rest-test.true) (begins_nothing _ _ _ _ [] (refl, refl) (Appends-nil _))

pub returns-in_err-write_whole-in-Ok-clause-begun : goal.returns-in_err-write_whole-in-Ok-clause-begun
returns-in_err-write_whole-in-Ok-clause-begun g c = λ p is plain.
    let to = c.in-Ok.ensures.takes p is plain in
    on_err c.from_residual.result (begins_rest p _ _ _ _ _ _ _ _ _ (c.loop-rest.invariant p is plain) (c.goes_on.ensures.some c.loop-rest-test.true)
    (rw to.cut (begins_more _ to.searched _ _ _ (begins_some _ _ _ _ to.tells.bytes to.tells.told (rw (c.as_slice.ensures.value, to.tells.written) at c.in_err-write_whole-in-Ok.ensures.beginning)))))
