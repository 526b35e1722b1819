-- The first of the groups from a number on that took part and is not empty.
use Rattle.std.proofs.Common.{◌≡◌, ℕ, ◌<◌, ◌≤◌, ◌-◌, ◌+◌, suc, None, Some, option_and_then, sym, ap, ◌∙◌, arith}
use Rattle.std.specs.Option.{option_or}
use Rattle.std.specs.List.{range_with_len}
use Rattle.regex.specs.Locations.{AreLocationsOf, location, location_count}
use Rattle.regex.specs.Patterns.{Match}
use Rattle.regex.specs.declared.locations.CaptureLocations.{CaptureLocations}
use Rattle.secret_rules.specs.Secrets.{first_filled, if_filled}

module _ (m : Match) (l : CaptureLocations) (are : AreLocationsOf m l) (number : ℕ) (low : 1 ≤ number) (high : number < location_count l) where
  first_filled-step : first_filled m (range_with_len number (location_count l - number))
      ≡ option_or (option_and_then if_filled (location l number)) (first_filled m (range_with_len (number + 1) (location_count l - (number + 1))))
  first_filled-step =
      let room : location_count l - number ≡ suc (location_count l - (number + 1)) = omega arith in
      ap (λ n. first_filled m (range_with_len number n)) room
      ∙ ap (λ r. option_or (option_and_then if_filled r) (first_filled m (range_with_len (number + 1) (location_count l - (number + 1))))) (sym (are.1 number low high))

module _ (m : Match) (l : CaptureLocations) (are : AreLocationsOf m l) (number : ℕ) where
  pub first_filled-here : (range : ℕ × ℕ) → 1 ≤ number → number < location_count l → option_and_then if_filled (location l number) ≡ Some range
      → first_filled m (range_with_len number (location_count l - number)) ≡ Some range
  first_filled-here range low high e = first_filled-step m l are number low high
      ∙ ap (λ r. option_or r (first_filled m (range_with_len (number + 1) (location_count l - (number + 1))))) e

  pub first_filled-next : 1 ≤ number → number < location_count l → option_and_then if_filled (location l number) ≡ None
      → first_filled m (range_with_len number (location_count l - number)) ≡ first_filled m (range_with_len (number + 1) (location_count l - (number + 1)))
  first_filled-next low high e = first_filled-step m l are number low high
      ∙ ap (λ r. option_or r (first_filled m (range_with_len (number + 1) (location_count l - (number + 1))))) e
