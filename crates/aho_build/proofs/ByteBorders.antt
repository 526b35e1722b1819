-- The borders that the bytes of a word make.
use Rattle.std.proofs.Common.{◌≡◌, ℕ, ◌+◌, ◌<◌, Bool, true, false, ◌||◌, nat_eq, List, [], ◌∷◌, length, get_or, take, refl, sym, ap, ◌∙◌, inl, inr}
use Rattle.std.proofs.Math.Bool.{or-false}
use Rattle.std.proofs.lemmas.Bool.{cases_Bool, eqb-true, eqb-false, eq-eqb, ne_eqb, or_left, or_right, or_from}
use Rattle.std.proofs.lemmas.List.Folds.{list_any_more}
use Rattle.aho_table.specs.Alphabet.{is_edge}
use Rattle.aho_core.specs.Bytes.{folded_by, opposite}
use Rattle.aho_build.specs.Dense.{has_folded, is_parted_by}
use Rattle.aho_build.proofs.Child.{same_letter, other_letter}

shuffled : (p q r s : Bool) → ((p || q) || (r || s)) ≡ ((q || s) || (p || r))
shuffled true true r s = refl
shuffled true false r true = refl
shuffled true false r false = refl
shuffled false true r s = refl
shuffled false false true true = refl
shuffled false false true false = refl
shuffled false false false true = refl
shuffled false false false false = refl

regrouped : (x a b c d : Bool) → ((x || (a || b)) || (c || d)) ≡ (x || ((a || c) || (b || d)))
regrouped true a b c d = refl
regrouped false true b c d = refl
regrouped false false true true d = refl
regrouped false false true false d = refl
regrouped false false false c d = refl

one_more : (x p q r s : Bool) → ((x || (p || q)) || (r || s)) ≡ (x || ((p || q) || (r || s)))
one_more true p q r s = refl
one_more false p q r s = refl

-- two bytes are the same under the case rule where one is the other or its other case
same_test : (x y : ℕ) → nat_eq (folded_by true x) (folded_by true y) ≡ (nat_eq y x || nat_eq y (opposite x))
same_test x y =
    elim (cases_Bool (nat_eq (folded_by true x) (folded_by true y))) [
      | inl same ↦
          elim (same_letter y x (sym (eqb-true (folded_by true x) (folded_by true y) same))) [
            | inl here ↦ same ∙ sym (or_left (nat_eq y x) (nat_eq y (opposite x)) (eq-eqb y x here))
            | inr there ↦ same ∙ sym (or_right (nat_eq y x) (nat_eq y (opposite x)) (eq-eqb y (opposite x) there))
          ]
      | inr other ↦
          let ne = eqb-false (folded_by true x) (folded_by true y) other in
          other
          ∙ sym
          (or_from (nat_eq y x) (nat_eq y (opposite x)) (ne_eqb y x (λ e. ne (ap (folded_by true) (sym e)))) (ne_eqb y (opposite x) (other_letter y x (λ e. ne (sym e)))))
    ]

-- and under the case rule
pub parted-letter : (x : Bool) (byte at : ℕ) → ((x || is_edge byte byte at) || is_edge (opposite byte) (opposite byte) at) ≡ (x || is_parted_by true (byte ∷ []) at)
parted-letter x byte at =
    let has : (y : ℕ) → has_folded true (byte ∷ []) y ≡ (nat_eq y byte || nat_eq y (opposite byte)) =
    λ y. or-false (nat_eq (folded_by true byte) (folded_by true y)) ∙ same_test byte y in
    one_more x (nat_eq (at + 1) byte) (nat_eq at byte) (nat_eq (at + 1) (opposite byte)) (nat_eq at (opposite byte))
    ∙ ap (λ (b : Bool). x || b)
    (shuffled (nat_eq (at + 1) byte) (nat_eq at byte) (nat_eq (at + 1) (opposite byte)) (nat_eq at (opposite byte))
    ∙ sym (ap (λ (b : Bool). b || has_folded true (byte ∷ []) (at + 1)) (has at) ∙ ap (λ (b : Bool). (nat_eq at byte || nat_eq at (opposite byte)) || b) (has (at + 1))))

-- one byte of a word more
pub parted-more : (ignore_case x : Bool) (word : List ℕ) (place byte at : ℕ) → place < length word → byte ≡ get_or word place byte
    → ((x || is_parted_by ignore_case (take place word) at) || is_parted_by ignore_case (byte ∷ []) at) ≡ (x || is_parted_by ignore_case (take (place + 1) word) at)
parted-more ignore_case x word place byte at within is =
    let has : (y : ℕ) → (has_folded ignore_case (take place word) y || has_folded ignore_case (byte ∷ []) y) ≡ has_folded ignore_case (take (place + 1) word) y =
    λ y.
    ap (λ (b : Bool). has_folded ignore_case (take place word) y || b)
    (or-false (nat_eq (folded_by ignore_case byte) (folded_by ignore_case y)) ∙ ap (λ (n : ℕ). nat_eq (folded_by ignore_case n) (folded_by ignore_case y)) is)
    ∙ sym (list_any_more (λ (other : ℕ). nat_eq (folded_by ignore_case other) (folded_by ignore_case y)) word place byte within) in
    regrouped x (has_folded ignore_case (take place word) at) (has_folded ignore_case (take place word) (at + 1)) (has_folded ignore_case (byte ∷ []) at) (has_folded ignore_case (byte ∷ []) (at + 1))
    ∙ ap (λ (b : Bool). x || (b || (has_folded ignore_case (take place word) (at + 1) || has_folded ignore_case (byte ∷ []) (at + 1)))) (has at)
    ∙ ap (λ (b : Bool). x || (has_folded ignore_case (take (place + 1) word) at || b)) (has (at + 1))
