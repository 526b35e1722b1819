-- What is left where no cover is begun.
use Rattle.aho_cover.proofs.Going.{err_passed, leaves_nothing}
use Rattle.aho_cover.proofs.stream.try_stream_cover_all.Goals as goal

pub returns-in_err-start-clause-leaves : goal.returns-in_err-start-clause-leaves
returns-in_err-start-clause-leaves g c =
    rw (err_passed c.from_residual.result c.in_err-start.field-0.0 c.from_residual.ensures.1)
    (leaves_nothing _ _ _ _ _ _ _ _ c.in_err-start.ensures.only)
