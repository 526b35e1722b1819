-- Where a byte stands among some, by cases.
use Rattle.std.proofs.Common.{◌≡◌, ◌≢◌, ◌⊎◌, ◌∙◌, ℕ, zero, suc, ◌+◌, ◌<◌, inl, inr, List, [], ◌∷◌, ap, arith, get_or, length, nat_eq, refl, sym}
use Rattle.std.specs.Prelude.{Some, None}
use Rattle.std.proofs.lemmas.Bool.{cases_eq, cond-true, cond-false, eq-eqb, ne_eqb}
use Rattle.aho_levels.specs.Layout.{position_of}

-- it stands at the place that is told, or it is none of them
abbrev pub StandsAt : List ℕ → ℕ → ℕ → Type 0
StandsAt xs byte at = (k : ℕ) × (k < length xs) × (get_or xs k 0 ≡ byte) × (position_of xs byte at ≡ Some (at + k))

abbrev pub StandsNowhere : List ℕ → ℕ → ℕ → Type 0
StandsNowhere xs byte at = ((k : ℕ) → k < length xs → get_or xs k 0 ≢ byte) × (position_of xs byte at ≡ None)

pub stands : (xs : List ℕ) (byte at : ℕ) → StandsAt xs byte at ⊎ StandsNowhere xs byte at
stands [] byte at = inr (λ k less. absurd (omega (arith, less)), refl)
stands (x ∷ xs) byte at =
    elim (cases_eq x byte) [
      | inl same ↦
          inl (0, omega arith, same, cond-true (nat_eq x byte) (Some at) (position_of xs byte (at + 1)) (eq-eqb x byte same) ∙ ap (λ (n : ℕ). Some n) (let e : at ≡ at + 0 = omega arith in e))
      | inr other ↦
          (let past : position_of (x ∷ xs) byte at ≡ position_of xs byte (at + 1) = cond-false (nat_eq x byte) (Some at) (position_of xs byte (at + 1)) (ne_eqb x byte other) in
          elim (stands xs byte (at + 1)) [
            | inl there ↦ inl (suc there.0, omega (arith, there.1), there.2, past ∙ there.3 ∙ ap (λ (n : ℕ). Some n) (let e : at + 1 + there.0 ≡ at + suc there.0 = omega arith in e))
            | inr nowhere ↦ inr (nowhere-else x xs byte other nowhere.0, past ∙ nowhere.1)
          ])
    ]
  where
    nowhere-else : (x : ℕ) (xs : List ℕ) (byte : ℕ) → x ≢ byte → ((k : ℕ) → k < length xs → get_or xs k 0 ≢ byte) → (k : ℕ) → k < length (x ∷ xs) → get_or (x ∷ xs) k 0 ≢ byte
    nowhere-else x xs byte other none zero less = other
    nowhere-else x xs byte other none (suc k) less = none k (omega (arith, less))

-- what is told as a place is one
pub stands-told : (xs : List ℕ) (byte at place : ℕ) → position_of xs byte at ≡ Some place → (k : ℕ) × (k < length xs) × (get_or xs k 0 ≡ byte) × (place ≡ at + k)
stands-told xs byte at place told =
    elim (stands xs byte at) [
      | inl there ↦ (there.0, there.1, there.2, (let both : Some place ≡ Some (at + there.0) = sym told ∙ there.3 in cc))
      | inr nowhere ↦ (let clash : None ≡ Some place = sym nowhere.1 ∙ told in cc)
    ]
