-- The files are looked at by what was loaded, and what is told of that is written where it is asked for.
use Rattle.acredact.proofs.Common.{Err, Keeps-refl, Ok, all_given, call_of, check_load, false, inl, refl, sym, true, ◌∙◌}
use Rattle.acredact.proofs.RuledCalls.{files_looked, outcome_none}
use Rattle.acredact.proofs.ruled_check.check_cover.Goals as goal

pub returns-in_err-looker-clause-outcome : goal.returns-in_err-looker-clause-outcome
returns-in_err-looker-clause-outcome g c =
    outcome_none g.E.Sink (call_of g.F.Folder c.args.folder.now (all_given c.args.given.now)) c.from_residual.result c.from_residual.ensures.0 (inl (Keeps-refl _))

pub returns-then-not-tells-clause-outcome : goal.returns-then-not-tells-clause-outcome
returns-then-not-tells-clause-outcome g c =
    let call = call_of g.F.Folder c.args.folder.now (all_given c.args.given.now) in
    let sees = rw (c.has-tells.ensures.has, c.requires.names) at (c.look_at_files.ensures.sees _ c.in_ok-looker.ensures.by) in
    files_looked g.E.Sink call (check_load c.args.secrets.now c.args.rules.now) _ _ _ _ _ _ _ _ false (sym c.has-tells.ensures.has ∙ c.if-not-tells.true) c.look_at_files.result sees (Keeps-refl _)

pub returns-in-Err-clause-outcome : goal.returns-in-Err-clause-outcome
returns-in-Err-clause-outcome g c =
    let call = call_of g.F.Folder c.args.folder.now (all_given c.args.given.now) in
    let sees = rw (c.has-tells.ensures.has, c.requires.names) at (c.in-Err.ensures.sees _ c.in_ok-looker.ensures.by) in
    files_looked g.E.Sink call (check_load c.args.secrets.now c.args.rules.now) _ _ _ _ _ _ _ _ true (sym c.has-tells.ensures.has ∙ c.if-not-tells.false) (Err c.in-Err.failure) sees (refl, Keeps-refl _)

pub returns-in-Ok-flush-clause-outcome : goal.returns-in-Ok-flush-clause-outcome
returns-in-Ok-flush-clause-outcome g c =
    let call = call_of g.F.Folder c.args.folder.now (all_given c.args.given.now) in
    let sees = rw (c.has-tells.ensures.has, c.requires.names) at (c.in-Ok.ensures.sees _ c.in_ok-looker.ensures.by) in
    files_looked g.E.Sink call (check_load c.args.secrets.now c.args.rules.now) _ _ _ _ _ _ _ _ true (sym c.has-tells.ensures.has ∙ c.if-not-tells.false) (Ok c.in-Ok.verdict) sees (refl, c.flush.ensures.kept)

pub returns-clause-outcome : goal.returns-clause-outcome
returns-clause-outcome g c =
    let call = call_of g.F.Folder c.args.folder.now (all_given c.args.given.now) in
    let sees = rw (c.has-tells.ensures.has, c.requires.names) at (c.in-Ok.ensures.sees _ c.in_ok-looker.ensures.by) in
    files_looked g.E.Sink call (check_load c.args.secrets.now c.args.rules.now) _ _ _ _ _ _ _ _ true (sym c.has-tells.ensures.has ∙ c.if-not-tells.false) (Err _)
    (record { told = sees.told; begun = sees.begun; seen = tt }) (refl, c.flush.ensures.kept)
