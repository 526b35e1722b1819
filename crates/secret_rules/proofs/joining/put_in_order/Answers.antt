use Rattle.std.proofs.Common.{rules}
use Rattle.std.proofs.lemmas.List.Sorted.{IsNonDecreasingBy-from_sort_by_key}
use Rattle.secret_rules.proofs.Members.{member-permuted}
use Rattle.secret_rules.proofs.joining.put_in_order.Goals as goal

pub returns-clause-order : goal.returns-clause-order
returns-clause-order c = IsNonDecreasingBy-from_sort_by_key (λ m. m.start) _ c.sort_unstable_by_key.ensures.sorted (λ a r q k. search rules)

pub returns-clause-same : goal.returns-clause-same
returns-clause-same c = member-permuted c.args.found.now.items c.sort_unstable_by_key.new.self.items c.sort_unstable_by_key.ensures.permutation
