use Rattle.std.proofs.Common.{◌≡◌, ◌++◌, drop}
use Rattle.secret_rules.specs.Keywords.{owners_from}
use Rattle.secret_rules.proofs.keywords.owners_of.Given as goal

abbrev pub invariant-loop-number : goal.invariant-loop-number
invariant-loop-number l = l.owners.items ++ owners_from l.number (drop l.number l.rules) ≡ owners_from 0 l.rules
