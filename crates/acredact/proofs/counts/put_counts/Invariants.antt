-- The lines so far, and those of what is left.
use Rattle.acredact.proofs.Common.{length, lines_of_rules, ◌++◌, ◌≡◌}
use Rattle.acredact.specs.Counts.{counts_text}
use Rattle.acredact.proofs.counts.put_counts.Given as goal

abbrev pub invariant-loop-rule : goal.invariant-loop-rule
invariant-loop-rule l = l.text.items ++ counts_text l.number (lines_of_rules l.rest) l.left ≡ l.initial.text.items ++ counts_text 1 (lines_of_rules l.fn.rules) l.fn.counts

abbrev pub decreases-loop-rule : goal.decreases-loop-rule
decreases-loop-rule l = length l.rest
