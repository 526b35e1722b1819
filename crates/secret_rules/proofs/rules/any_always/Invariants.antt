use Rattle.std.proofs.Common.{◌↔◌, drop, map, true}
use Rattle.aho_core.specs.Listing.{IsMember}
use Rattle.secret_rules.specs.Keywords.{is_always}
use Rattle.secret_rules.proofs.rules.any_always.Given as goal

abbrev pub invariant-loop-rule : goal.invariant-loop-rule
invariant-loop-rule l = IsMember (map is_always (drop l.rule-index l.rules)) true ↔ IsMember (map is_always l.rules) true
