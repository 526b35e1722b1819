use Rattle.std.proofs.Common.{ℕ, List, subst}
use Rattle.std.specs.List.Sorted.{IsPermutation}
use Rattle.std.proofs.lemmas.List.Sorted.{IsPermutation-map}
use Rattle.aho_levels.specs.Sorting.{key_numbers}
use Rattle.aho_levels.specs.declared.order.Key.{Key}
use Rattle.aho_levels.proofs.order.sorted_keys.Goals as goal

pub returns-clause-all : goal.returns-clause-all
returns-clause-all c =
    subst (λ (l : List ℕ). IsPermutation l (key_numbers c.sort_by.new.self.items)) c.in_ok-keys.ensures.all
    (IsPermutation-map (λ (key : Key). key.number) c.in_ok-keys.keys.items c.sort_by.new.self.items c.sort_by.ensures.permutation)
