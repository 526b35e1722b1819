-- What is left where no stream is made.
use Rattle.aho_stream.proofs.Replacings.{counts_none, err_given, leaves_none}
use Rattle.aho_stream.proofs.replace.try_stream_replace_all.Goals as goal

pub returns-in_err-start-clause-leaves : goal.returns-in_err-start-clause-leaves
returns-in_err-start-clause-leaves g c =
    rw (err_given c.from_residual.result c.in_err-start.field-0.0 c.from_residual.ensures.1)
    (leaves_none _ _ _ _ _ _ _ _ c.in_err-start.ensures.only)

pub returns-in_err-start-clause-errors : goal.returns-in_err-start-clause-errors
returns-in_err-start-clause-errors g c =
    rw (err_given c.from_residual.result c.in_err-start.field-0.0 c.from_residual.ensures.1)
    (counts_none _ _ _ _ _ c.in_err-start.ensures.only)
