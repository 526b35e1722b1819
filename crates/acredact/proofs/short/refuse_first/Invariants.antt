-- The first that is too short is the first of what is left.
use Rattle.acredact.proofs.Common.{drop, secrets_of, ◌+◌, ◌≡◌}
use Rattle.acredact.specs.Short.{first_short}
use Rattle.acredact.proofs.short.refuse_first.Given as goal

abbrev pub invariant-loop-rule : goal.invariant-loop-rule
invariant-loop-rule l = record {
  count : l.number ≡ l.rule-index + 1;
  first : first_short l.number (secrets_of (drop l.rule-index l.fn.rules)) ≡ first_short 1 (secrets_of l.fn.rules);
}
