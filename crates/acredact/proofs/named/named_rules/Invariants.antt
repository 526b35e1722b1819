-- What is left gives the other rules.
use Rattle.acredact.proofs.Common.{all_named, drop, map, named_secret, secrets_of, ◌++◌, ◌≡◌}
use Rattle.acredact.specs.Named.{rule_by_key}
use Rattle.acredact.proofs.named.named_rules.Given as goal

abbrev pub invariant-loop-rule : goal.invariant-loop-rule
invariant-loop-rule l =
    let make = named_secret (rule_by_key l.fn.key) (secrets_of l.fn.rules) in
    secrets_of l.named.items ++ map make (secrets_of (drop l.rule-index l.fn.rules)) ≡ all_named (rule_by_key l.fn.key) (secrets_of l.fn.rules)
