-- The status of a check.
use Rattle.acredact.proofs.Common.{all_given, bytes_left, call_of, inl}
use Rattle.acredact.proofs.Checks.{seen_says, status_ended}
use Rattle.acredact.proofs.check.check.Goals as goal

pub returns-in-Ok-clause-says : goal.returns-in-Ok-clause-says
returns-in-Ok-clause-says g c = rw c.status_of.ensures.status (seen_says c.in-Ok.verdict (λ part. inl part) c.in-Ok.ensures.outcome)

pub returns-in-Err-clause-says : goal.returns-in-Err-clause-says
returns-in-Err-clause-says g c =
    let told = c.report.ensures.told in
    rw c.report.ensures.failed
    (status_ended g.E.Sink (call_of g.F.Folder c.args.folder.now (all_given c.args.given.now)) (bytes_left c.args.input.now) (bytes_left c.check_given.new.input) c.args.errors.now c.in-Err.failure c.check_given.new.errors c.report.new.errors told.0 c.in-Err.ensures.outcome told.1 told.2)
