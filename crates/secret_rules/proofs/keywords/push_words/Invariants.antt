use Rattle.std.proofs.Common.{◌≡◌, ◌++◌, map, string_bytes, take}
use Rattle.secret_rules.proofs.keywords.push_words.Given as goal

abbrev pub invariant-loop-keyword : goal.invariant-loop-keyword
invariant-loop-keyword l = map (λ word. word.now) l.words.items
    ≡ map (λ word. word.now) l.fn.words.items ++ map string_bytes (take l.keyword-index l.fn.rule.keywords.items)
