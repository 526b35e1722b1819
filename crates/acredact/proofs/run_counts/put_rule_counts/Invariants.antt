-- The lines so far, and those of what is left.
use Rattle.acredact.proofs.Common.{length, ◌++◌, ◌≡◌}
use Rattle.acredact.specs.Summaries.{rule_counts_text}
use Rattle.acredact.proofs.run_counts.put_rule_counts.Given as goal

abbrev pub invariant-loop-rule : goal.invariant-loop-rule
invariant-loop-rule l = l.text.items ++ rule_counts_text l.rest l.left ≡ l.initial.text.items ++ rule_counts_text l.initial.rest l.initial.left

abbrev pub decreases-loop-rule : goal.decreases-loop-rule
decreases-loop-rule l = length l.rest
