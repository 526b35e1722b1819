use Rattle.std.proofs.Common.{◌≡◌, ◌++◌, map, take}
use Rattle.secret_rules.proofs.keywords.push_owners.Given as goal

abbrev pub invariant-loop-keyword : goal.invariant-loop-keyword
invariant-loop-keyword l = l.owners.items ≡ l.fn.owners.items ++ map (λ _. l.number) (take l._keyword-index l.keywords)
