-- What is left after the first pattern are patterns.
use Rattle.std.proofs.Common.{◌≤◌, ℕ, List, drop, ap, subst}
use Rattle.std.specs.List.{All}
use Rattle.std.proofs.lemmas.List.Elements.{All-drop}
use Rattle.aho_core.specs.Numbers.{greatest_index}
use Rattle.aho_table.proofs.lists.matches.MatchesIterator.next.Goals as goal

pub invariant_of-self : goal.invariant_of-self
invariant_of-self c =
    subst (λ (xs : List ℕ). All (λ (word : ℕ). word ≤ greatest_index) xs) (ap (λ (xs : List ℕ). drop 1 xs) c.in_ok-first.ensures.cases.0)
    (All-drop (λ (word : ℕ). word ≤ greatest_index) 1 c.self.inside.rest.now c.self.invariant)
