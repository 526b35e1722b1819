-- The objects so far, and those of what is left.
use Rattle.acredact.proofs.Common.{length, ◌++◌, ◌≡◌}
use Rattle.acredact.specs.Summaries.{more_rules_listed, rules_listed}
use Rattle.acredact.proofs.summary.put_rules.Given as goal

abbrev pub invariant-loop-rule : goal.invariant-loop-rule
invariant-loop-rule l = l.text.items ++ more_rules_listed l.rest l.left ≡ l.fn.text.items ++ rules_listed l.fn.rules l.fn.runs

abbrev pub decreases-loop-rule : goal.decreases-loop-rule
decreases-loop-rule l = length l.rest
