use Rattle.std.proofs.Common.{◌∙◌, ap, sym}
use Rattle.chromesquid.specs.declared.engine.Engine.TheVariants.{Rows}
use Rattle.chromesquid.proofs.stream_iter.StreamStart.of.Goals as goal

pub returns-in_ok-start_by-in-Some-clause-new : goal.returns-in_ok-start_by-in-Some-clause-new
returns-in_ok-start_by-in-Some-clause-new c =
    let call = c.in_ok-start_by-in-Some in
    record { fresh_for = call.ensures.fresh; held = c.in-Some.ensures.held ∙ ap Rows (sym call.ensures.of) }

pub returns-in_ok-start_by-in-None-clause-new : goal.returns-in_ok-start_by-in-None-clause-new
returns-in_ok-start_by-in-None-clause-new c =
    let call = c.in_ok-start_by-in-None in
    record { fresh_for = call.ensures.fresh; same = call.ensures.of ∙ c.itself.ensures.same }
