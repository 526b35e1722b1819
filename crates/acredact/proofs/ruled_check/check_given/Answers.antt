-- What was loaded is looked for, behind what is told of doubtful patterns.
use Rattle.acredact.proofs.Common.{Keeps-refl, all_given, call_of, check_load, inl, secrets_of}
use Rattle.acredact.proofs.Outcomes.{comes_early, comes_untold}
use Rattle.acredact.proofs.RuledCalls.{all_doubts_told, check_behind}
use Rattle.acredact.proofs.ruled_check.check_given.Goals as goal

pub returns-in-Ok-ready_for_lines-clause-outcome : goal.returns-in-Ok-ready_for_lines-clause-outcome
returns-in-Ok-ready_for_lines-clause-outcome g c =
    let call = call_of g.F.Folder c.args.folder.now (all_given c.args.given.now) in
    check_behind g.E.Sink call (check_load c.in-Ok.rules.secrets.items c.in-Ok.rules.rules) c.check_by.result _ _ _ _ _ _ _ _ c.in-Ok.ensures.given
    (rw c.as_slice-secrets.ensures.value at c.ready_for_lines.ensures.told)
    (rw c.as_slice-secrets.ensures.value at c.check_by.ensures.outcome)

pub returns-clause-outcome : goal.returns-clause-outcome
returns-clause-outcome g c =
    comes_early (inl (Keeps-refl _)) (all_doubts_told g.E.Sink (call_of g.F.Folder c.args.folder.now (all_given c.args.given.now)) (secrets_of c.as_slice-secrets.result.now) _ _ c.ready_for_lines.ensures.told) tt

pub returns-in-Err-clause-outcome : goal.returns-in-Err-clause-outcome
returns-in-Err-clause-outcome g c = comes_untold (inl (Keeps-refl _)) tt
