use Rattle.std.proofs.Common.{◌≡◌, map, take}
use Rattle.secret_rules.specs.Keywords.{is_always}
use Rattle.secret_rules.proofs.rules.always_of.Given as goal

abbrev pub invariant-loop-rule : goal.invariant-loop-rule
invariant-loop-rule l = l.flags.items ≡ map is_always (take l.rule-index l.rules)
