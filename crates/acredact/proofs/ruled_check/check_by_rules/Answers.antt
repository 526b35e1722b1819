-- What the status says, by what is answered.
use Rattle.acredact.proofs.Common.{IsRuledTold, all_given, call_of, inl, inr}
use Rattle.acredact.proofs.Calls.{tells_last}
use Rattle.acredact.proofs.Checks.{says_failed, seen_says}
use Rattle.acredact.proofs.ruled_check.check_by_rules.Goals as goal

pub returns-in-Ok-clause-says : goal.returns-in-Ok-clause-says
returns-in-Ok-clause-says g c = rw c.status_of.ensures.status (seen_says c.in-Ok.verdict (λ some. some) c.in-Ok.ensures.outcome)

pub returns-in-Err-clause-says : goal.returns-in-Err-clause-says
returns-in-Err-clause-says g c =
    let told = c.report.ensures.told in
    rw c.report.ensures.failed
    (says_failed _ _ _ _ (tells_last g.E.Sink (IsRuledTold (call_of g.F.Folder c.args.folder.now (all_given c.args.given.now))) _ _ _ told.0 c.in-Err.ensures.outcome.told (inr (inl (c.in-Err.failure, told.1))) told.2))
