-- What was loaded is redacted by, behind what is told of doubtful patterns.
use Rattle.acredact.proofs.Common.{Keeps-refl, Loaded, all_given, bytes_left, call_of, inl, reading_by, refl, secrets_of, subst, sym}
use Rattle.acredact.specs.Ruled.{AreRuledLoaded, load_as}
use Rattle.acredact.proofs.Outcomes.{comes_early, comes_untold}
use Rattle.acredact.proofs.RuledCalls.{all_doubts_told}
use Rattle.acredact.proofs.ruled.redact_by_rules.Goals as goal

pub returns-in-Err-clause-outcome : goal.returns-in-Err-clause-outcome
returns-in-Err-clause-outcome g c = comes_untold (inl (Keeps-refl _)) tt

pub returns-in-Err-load_key-clause-outcome : goal.returns-in-Err-load_key-clause-outcome
returns-in-Err-load_key-clause-outcome g c = comes_untold (inl (Keeps-refl _)) tt

pub returns-in-Ok-ready_for_lines-clause-outcome : goal.returns-in-Ok-ready_for_lines-clause-outcome
returns-in-Ok-ready_for_lines-clause-outcome g c =
    let call = call_of g.F.Folder c.args.folder.now (all_given c.args.given.now) in
    let keyed = c.in-Ok-load_key.ensures.keyed in
    let loaded = subst (λ (l : Loaded). AreRuledLoaded (reading_by call) call.given (load_as l.secrets c.in-Ok.loaded.rules l.key) (bytes_left c.args.streams.now.input) (bytes_left c.load_key.new.input)) (sym keyed.is)
    (record { secrets = secrets_of c.in-Ok.loaded.secrets.items; between = bytes_left c.load_rules.new.input; rules_given = c.in-Ok.ensures.given; key_given = keyed.key_given; named = refl }) in
    c.redact_by.ensures.outcome.behind (bytes_left c.args.streams.now.input) c.args.streams.now.errors (rw (c.as_slice-secrets.ensures.value, c.key_bytes-key.ensures.key) loaded) c.ready_for_lines.ensures.told

pub returns-clause-outcome : goal.returns-clause-outcome
returns-clause-outcome g c =
    comes_early (inl (Keeps-refl _)) (all_doubts_told g.E.Sink (call_of g.F.Folder c.args.folder.now (all_given c.args.given.now)) (secrets_of c.as_slice-secrets.result.now) _ _ c.ready_for_lines.ensures.told) tt
