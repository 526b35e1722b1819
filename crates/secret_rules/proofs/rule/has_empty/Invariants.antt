use Rattle.std.proofs.Common.{◌↔◌, [], drop, map, string_bytes}
use Rattle.aho_core.specs.Listing.{IsMember}
use Rattle.secret_rules.proofs.rule.has_empty.Given as goal

abbrev pub invariant-loop-keyword : goal.invariant-loop-keyword
invariant-loop-keyword l = IsMember (map string_bytes (drop l.keyword-index l.keywords)) [] ↔ IsMember (map string_bytes l.keywords) []
