use Rattle.std.proofs.Common.{take}
use Rattle.secret_rules.specs.Rules.{AreSound}
use Rattle.secret_rules.proofs.rules.first_fault.Given as goal

abbrev pub invariant-loop-number : goal.invariant-loop-number
invariant-loop-number l = AreSound (take l.number l.rules)
