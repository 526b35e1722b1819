-- The patterns in front of what is left have their rules.
use Rattle.acredact.proofs.Common.{drop, filled, form_secret, map, pattern_bytes, secret_of, secrets_of, ◌++◌, ◌≡◌}
use Rattle.acredact.proofs.forms.add_patterns.Given as goal

abbrev pub invariant-loop-pattern : goal.invariant-loop-pattern
invariant-loop-pattern l = secrets_of l.more.items ++ map (form_secret l.fn.number (secret_of l.fn.rule)) (filled (pattern_bytes (drop l.pattern-index l.fn.patterns)))
    ≡ secrets_of l.initial.more.items ++ map (form_secret l.fn.number (secret_of l.fn.rule)) (filled (pattern_bytes l.fn.patterns))
