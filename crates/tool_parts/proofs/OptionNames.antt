-- Options one after another.
use Rattle.std.proofs.Common.{◌≡◌, ◌∙◌, ap, ℕ, List}
use Rattle.tool_parts.specs.OptionNames.{Named, found_among, found_more}
use Rattle.tool_parts.specs.declared.options.found.Found.{Found}

module _ {O : Type 0} (asked : List ℕ) where
  -- what a name means with an option more, where what it means with those before is known
  pub then_option : (f g : Found O) (names : List (List ℕ)) (option : O) (r : Found O) → f ≡ g → r ≡ found_more asked f names option → r ≡ found_more asked g names option
  then_option f g names option r same is = is ∙ ap (λ (h : Found O). found_more asked h names option) same

  -- and with several options more
  pub then_options : (f g : Found O) (options : List (Named O)) (r : Found O) → f ≡ g → r ≡ found_among options asked f → r ≡ found_among options asked g
  then_options f g options r same is = is ∙ ap (λ (h : Found O). found_among options asked h) same
