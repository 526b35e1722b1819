-- Rules with which nothing is wrong, one after another.
use Rattle.std.proofs.Common.{ℕ, ◌+◌, ◌<◌, List, [], ◌∷◌, get_or, length, subst, sym, take, inl, inr}
use Rattle.std.proofs.lemmas.List.{take_more}
use Rattle.aho_core.specs.Listing.{IsMember}
use Rattle.aho_laws.proofs.Listed.{member-of_append}
use Rattle.secret_rules.specs.Rules.{AreSound, IsSoundRule}
use Rattle.secret_rules.specs.declared.rule.Rule.{Rule}

pub AreSound-more : (rules : List Rule) (number : ℕ) (d : Rule) → number < length rules → AreSound (take number rules) → IsSoundRule (get_or rules number d)
    → AreSound (take (number + 1) rules)
AreSound-more rules number d within before here = λ rule is.
    elim (member-of_append (take number rules) (get_or rules number d ∷ []) rule (subst (λ (xs : List Rule). IsMember xs rule) (take_more rules number d within) is)) [
      | inl early ↦ before rule early
      | inr last ↦ elim last [ inl same ↦ subst IsSoundRule (sym same) here | inr never ↦ absurd never ]
    ]
