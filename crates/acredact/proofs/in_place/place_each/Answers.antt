-- A file more is come to.
use Rattle.acredact.proofs.Common.{arith, at_drop_all, at_drop_more, name_bytes}
use Rattle.acredact.proofs.Calls.{passed_on}
use Rattle.acredact.proofs.RedactedCalls.{place_ends, places_more, places_none}
use Rattle.acredact.proofs.Turns.{turn_end, turn_fails, turn_next}
use Rattle.acredact.proofs.in_place.place_each.Goals as goal

pub loop-name-preserved : goal.loop-name-preserved
loop-name-preserved g c = λ p of.
    turn_next (c.loop-name.invariant p of) (at_drop_more name_bytes c.args.job.now.names.now c.loop-name.name-index _ c.loop-name-test.true) c.both-all.ensures.both (places_more (c.in_ok-whole.ensures p of))

pub returns-in_err-whole : goal.returns-in_err-whole
returns-in_err-whole g c = λ p of.
    rw (passed_on c.from_residual.result c.in_err-whole.field-0.0 c.from_residual.ensures.1)
    (turn_fails (c.loop-name.invariant p of) (at_drop_more name_bytes c.args.job.now.names.now c.loop-name.name-index _ c.loop-name-test.true) (place_ends (c.in_err-whole.ensures p of)))

pub returns : goal.returns
returns g c = λ p of.
    turn_end (c.loop-name.invariant p of) (at_drop_all name_bytes c.args.job.now.names.now c.loop-name.name-index (omega (arith, c.loop-name-test.false))) (places_none _)
