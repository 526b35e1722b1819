-- What stands behind the TAB is at fault.
use Rattle.acredact.proofs.Common.{Err, inr, rules, ◌≡◌}
use Rattle.acredact.proofs.patterns.row.Goals as goal

pub returns-in_err-replacement-clause-fault : goal.returns-in_err-replacement-clause-fault
returns-in_err-replacement-clause-fault c =
    let same : c.from_residual-in_err-replacement.result ≡ Err c.in_err-replacement.field-0.0 = search rules in
    rw same (inr (inr (c.in-Some.before.now, c.in-Some.behind.now, c.in-Some.ensures.split, c.in-Some.ensures.first, inr (inr c.in_err-replacement.ensures.fault))))
