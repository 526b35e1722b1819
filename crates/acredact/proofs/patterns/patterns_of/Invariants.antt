-- Those so far, and those of what is left.
use Rattle.acredact.proofs.Common.{drop, patterns_in, pieces_of, secrets_of, ◌++◌, ◌≡◌}
use Rattle.acredact.proofs.patterns.patterns_of.Given as goal

abbrev pub invariant-loop-rule : goal.invariant-loop-rule
invariant-loop-rule l = pieces_of l.patterns.items ++ patterns_in (secrets_of (drop l.rule-index l.fn.rules)) ≡ patterns_in (secrets_of l.fn.rules)
