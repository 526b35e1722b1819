-- The zeros so far, and those of what is left.
use Rattle.acredact.proofs.Common.{drop, given_count, replicate, secrets_of, ◌++◌, ◌≡◌}
use Rattle.acredact.proofs.sums.sums_of.Given as goal

abbrev pub invariant-loop-rule : goal.invariant-loop-rule
invariant-loop-rule l = l.sums.items ++ replicate (given_count (secrets_of (drop l.rule-index l.rules))) 0 ≡ replicate (given_count (secrets_of l.rules)) 0
