use Rattle.std.proofs.Common.{◌≡◌, flat_map, map, take}
use Rattle.secret_rules.specs.Rules.{keywords_of}
use Rattle.secret_rules.proofs.keywords.words_of.Given as goal

abbrev pub invariant-loop-rule : goal.invariant-loop-rule
invariant-loop-rule l = map (λ word. word.now) l.words.items ≡ flat_map keywords_of (take l.rule-index l.fn.rules)
