-- The rules so far, and those of the lines that are left.
use Rattle.std.proofs.Common.{◌++◌, ◌≡◌, length}
use Rattle.acgrep.specs.Rules.{rules_in, rules_said}
use Rattle.acgrep.proofs.excluded.add_rules.Given as goal

abbrev pub invariant-loop-rest : goal.invariant-loop-rest
invariant-loop-rest l = rules_said l.all.items ++ rules_in l.rest ≡ rules_said l.initial.all.items ++ rules_in l.fn.text

abbrev pub decreases-loop-rest : goal.decreases-loop-rest
decreases-loop-rest l = length l.rest
