-- Places of readers, as readers are added.
use Rattle.std.proofs.Common.{◌≡◌, ◌≢◌, ◌∙◌, ℕ, zero, suc, ◌+◌, ◌<◌, List, [], ◌∷◌, ◌++◌, length, Option, Some, get_or, set, refl, sym, ap, arith, inl, inr}
use Rattle.std.proofs.lemmas.Bool.{cases_eq}
use Rattle.std.proofs.lemmas.Option.{get_or_from_slice_get, none-some, same_Some}
use Rattle.std.proofs.lemmas.List.{length-set}
use Rattle.std.specs.List.{slice_get}
use Rattle.secret_rules.specs.Places.{ArePlacesOf}
use Rattle.secret_rules.specs.Rules.{regex_of}
use Rattle.secret_rules.specs.declared.rule.Rule.{Rule}

-- there is an element within a list
pub element_at : {A : Type 0} (xs : List A) (i : ℕ) → i < length xs → (x : A) × (slice_get xs i ≡ Some x)
element_at [] i h = absurd (omega arith)
element_at (x ∷ xs) zero h = (x, refl)
element_at (x ∷ xs) (suc i) h = element_at xs i (omega arith)

-- what was read at a number is the element of that number
pub read-is : {A : Type 0} (xs : List A) (i : ℕ) (x y : A) → y ≡ get_or xs i y → slice_get xs i ≡ Some x → y ≡ x
read-is xs i x y read at = read ∙ get_or_from_slice_get xs i x y at

pub slice_get-set_at : {A : Type 0} (xs : List A) (i : ℕ) (y : A) → i < length xs → slice_get (set xs i y) i ≡ Some y
slice_get-set_at [] i y h = absurd (omega arith)
slice_get-set_at (x ∷ xs) zero y h = refl
slice_get-set_at (x ∷ xs) (suc i) y h = slice_get-set_at xs i y (omega arith)

pub slice_get-set_other : {A : Type 0} (xs : List A) (i j : ℕ) (y : A) → j ≢ i → slice_get (set xs i y) j ≡ slice_get xs j
slice_get-set_other [] i j y h = refl
slice_get-set_other (x ∷ xs) zero zero y h = absurd (h refl)
slice_get-set_other (x ∷ xs) zero (suc j) y h = refl
slice_get-set_other (x ∷ xs) (suc i) zero y h = refl
slice_get-set_other (x ∷ xs) (suc i) (suc j) y h = slice_get-set_other xs i j y (λ e. h (ap suc e))

pub slice_get-append_last : {A : Type 0} (xs : List A) (y : A) → slice_get (xs ++ y ∷ []) (length xs) ≡ Some y
slice_get-append_last [] y = refl
slice_get-append_last (x ∷ xs) y = slice_get-append_last xs y

pub slice_get-append_left : {A : Type 0} (xs ys : List A) (i : ℕ) (x : A) → slice_get xs i ≡ Some x → slice_get (xs ++ ys) i ≡ Some x
slice_get-append_left [] ys i x h = absurd (none-some _ h)
slice_get-append_left (y ∷ xs) ys zero x h = h
slice_get-append_left (y ∷ xs) ys (suc i) x h = slice_get-append_left xs ys i x h

module _ (rules : List Rule) (readers : List (List ℕ)) (places : List (Option ℕ)) (number : ℕ) (source : List ℕ) (are : ArePlacesOf rules readers places)
    (within : number < length rules) (of : (rule : Rule) → slice_get rules number ≡ Some rule → source ≡ regex_of rule) where
  pub ArePlacesOf-added : (place : ℕ) (more : List (List ℕ)) → place ≡ length readers → more ≡ readers ++ source ∷ []
      → ArePlacesOf rules more (set places number (Some place))
  ArePlacesOf-added place more is last = record {
    count = length-set places number (Some place) ∙ are.count;
    has = λ other there rule at of_rule. elim (cases_eq other number) [
      | inl same ↦
          let held : Some (Some there) ≡ Some (Some place) = sym at ∙ ap (slice_get (set places number (Some place))) same
          ∙ slice_get-set_at places number (Some place) (omega (arith, are.count)) in
          let placed : there ≡ length readers = same_Some _ _ (same_Some _ _ held) ∙ is in
          let named : source ≡ regex_of rule = of rule (ap (slice_get rules) (sym same) ∙ of_rule) in
          ap (slice_get more) placed ∙ ap (λ xs. slice_get xs (length readers)) last ∙ slice_get-append_last readers source ∙ ap Some named
      | inr differs ↦
          let held : slice_get places other ≡ Some (Some there) = sym (slice_get-set_other places number other (Some place) differs) ∙ at in
          ap (λ xs. slice_get xs there) last ∙ slice_get-append_left readers (source ∷ []) there _ (are.has other there rule held of_rule)
    ];
  }
