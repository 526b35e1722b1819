-- What is left decides.
use Rattle.std.proofs.Common.{◌≡◌, drop}
use Rattle.acgrep.specs.Rules.{begins_by_including, rules_said}
use Rattle.acgrep.proofs.rules.begins_by_including.Given as goal

abbrev pub invariant-loop-rule : goal.invariant-loop-rule
invariant-loop-rule l = begins_by_including (rules_said l.fn.rules) ≡ begins_by_including (rules_said (drop l.rule-index l.fn.rules))
