-- The rules so far, and those that are left with their texts.
use Rattle.std.proofs.Common.{◌++◌, ◌≡◌, drop}
use Rattle.acgrep.specs.Listed.{listed_bytes}
use Rattle.acgrep.specs.Rules.{expanded, rules_said}
use Rattle.acgrep.proofs.excluded.expanded.Given as goal

abbrev pub invariant-loop-rule : goal.invariant-loop-rule
invariant-loop-rule l = rules_said l.all.items ++ expanded (rules_said (drop l.rule-index l.fn.rules)) (listed_bytes l.left) ≡ expanded (rules_said l.fn.rules) (listed_bytes l.fn.texts)
