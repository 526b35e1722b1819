-- Where the readers of some rules stand.
use Rattle.std.specs.Prelude.{◌≡◌, ℕ, List, Option, Some, length, slice_get}
use Rattle.secret_rules.specs.Rules.{regex_of}
use Rattle.secret_rules.specs.declared.rule.Rule.{Rule}

-- each rule that has a place has the reader of its expression there
pub record ArePlacesOf (rules : List Rule) (readers : List (List ℕ)) (places : List (Option ℕ)) : Type 0 where
  pub count : length places ≡ length rules
  pub has : (number place : ℕ) (rule : Rule) → slice_get places number ≡ Some (Some place) → slice_get rules number ≡ Some rule
      → slice_get readers place ≡ Some (regex_of rule)
