-- What is left is to be added.
use Rattle.acredact.proofs.Common.{HaveGrown, List, drop, secrets_of, sum_for, ℕ}
use Rattle.acredact.proofs.sums.add_counts.Given as goal

abbrev pub invariant-loop-place : goal.invariant-loop-place
invariant-loop-place l = (sums : List ℕ) → HaveGrown (λ number. sum_for number l.place (secrets_of (drop l.place l.rules)) (drop l.place l.counts)) l.sums sums
    → HaveGrown (λ number. sum_for number 0 (secrets_of l.rules) l.counts) l.initial.sums sums
