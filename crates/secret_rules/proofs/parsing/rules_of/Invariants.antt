use Rattle.std.proofs.Common.{take}
use Rattle.toml.specs.View.{items_view}
use Rattle.secret_rules.specs.Tables.{AreRulesIn}
use Rattle.secret_rules.proofs.parsing.rules_of.Given as goal

abbrev pub invariant-loop-number : goal.invariant-loop-number
invariant-loop-number l = AreRulesIn (items_view (take l.number l.tables)) l.rules.items
