-- The numbers of the states' lists, where one list is changed.
use Rattle.std.proofs.Common.{◌≡◌, ◌≢◌, ℕ, ◌<◌, ◌≤◌, ◌⊎◌, List, [], ◌∷◌, ◌++◌, length, get_or, take, sym, ap, subst, ◌∙◌, inl, inr, arith}
use Rattle.std.proofs.Math.ListN.{set, length-set}
use Rattle.std.proofs.lemmas.Bool.{cases_eq, cases_order}
use Rattle.std.proofs.lemmas.List.{get_or_past, length_push, get_or-set_same, get_or-set_other, get_or_append_left, get_or_push, get_or-take, length-take}
use Rattle.aho_table.specs.Lists.{list_at, IsList}
use Rattle.aho_table.specs.Inside.{AreNumbers}

-- a number that is a list's is below their count
pub IsList-in : {X : Type 0} (lists : List (List X)) (number : ℕ) → 0 < length lists → IsList lists number → number < length lists
IsList-in lists number some known =
    elim (cases_order number (length lists)) [
      | inl is ↦ (let zero = known (get_or_past lists number [] (omega arith)) in omega arith)
      | inr apart ↦ elim apart [
        | inl below ↦ below
        | inr above ↦ (let zero = known (get_or_past lists number [] (omega arith)) in omega arith)
      ]
    ]

-- where one list was changed, every other state has the list that it had
pub same_list : {X : Type 0} (IsCommon : ℕ → Type 0) (numbers : List ℕ) (old new : List (List X)) (sid i : ℕ) → AreNumbers IsCommon numbers old → 0 < length old
    → ((other : ℕ) → other < length old → (other ≢ get_or numbers sid 0) ⊎ IsCommon other → list_at new other ≡ list_at old other)
    → sid < length numbers → i < length numbers → i ≢ sid → list_at new (get_or numbers i 0) ≡ list_at old (get_or numbers i 0)
same_list IsCommon numbers old new sid i are some others below inside ne =
    elim (cases_eq (get_or numbers i 0) (get_or numbers sid 0)) as (λ _. list_at new (get_or numbers i 0) ≡ list_at old (get_or numbers i 0)) [
      | inl same ↦ others (get_or numbers i 0) (IsList-in old (get_or numbers i 0) some (are.known i inside)) (inr (are.apart i sid inside below ne same))
      | inr other ↦ others (get_or numbers i 0) (IsList-in old (get_or numbers i 0) some (are.known i inside)) (inl other)
    ]

-- the changed list has the number that it had, a new one, or a common one
pub AreNumbers-set : {X : Type 0} (IsCommon Still : ℕ → Type 0) (numbers : List ℕ) (old new : List (List X)) (sid made : ℕ) → AreNumbers IsCommon numbers old → 0 < length old
    → ((number : ℕ) → IsCommon number → Still number)
    → ((i : ℕ) → i < length numbers → i ≢ sid → list_at new (get_or numbers i 0) ≡ list_at old (get_or numbers i 0))
    → sid < length numbers → IsList new made → (made ≡ get_or numbers sid 0) ⊎ ((length old ≤ made) ⊎ Still made) → AreNumbers Still (set numbers sid made) new
AreNumbers-set {X = X} IsCommon Still numbers old new sid made are some still same below known fresh =
    record { known = the_known; apart = the_apart }
  where
    this : get_or (set numbers sid made) sid 0 ≡ made
    this = get_or-set_same numbers sid made 0 below

    other : (i : ℕ) → i ≢ sid → get_or (set numbers sid made) i 0 ≡ get_or numbers i 0
    other i ne = get_or-set_other numbers sid i made 0 ne

    count : length (set numbers sid made) ≡ length numbers
    count = length-set numbers sid made

    the_known : (i : ℕ) → i < length (set numbers sid made) → IsList new (get_or (set numbers sid made) i 0)
    the_known i inside = elim (cases_eq i sid) as (λ _. IsList new (get_or (set numbers sid made) i 0)) [
      | inl is ↦ subst (λ (n : ℕ). IsList new n) (sym (ap (λ (n : ℕ). get_or (set numbers sid made) n 0) is ∙ this)) known
      | inr ne ↦ subst (λ (n : ℕ). IsList new n) (sym (other i ne)) (λ none. are.known i (omega (arith, count)) (sym (same i (omega (arith, count)) ne) ∙ none))
    ]

    -- another state that has the number of the changed list
    common : (i : ℕ) → i < length numbers → i ≢ sid → get_or numbers i 0 ≡ made → Still made
    common i inside ne is = elim fresh as (λ _. Still made) [
      | inl old_number ↦ subst Still is (still (get_or numbers i 0) (are.apart i sid inside below ne (is ∙ old_number)))
      | inr more ↦ elim more as (λ _. Still made) [
        | inl above ↦ absurd (omega (arith, IsList-in old (get_or numbers i 0) some (are.known i inside)))
        | inr closed ↦ closed
      ]
    ]

    the_apart : (i j : ℕ) → i < length (set numbers sid made) → j < length (set numbers sid made) → i ≢ j → get_or (set numbers sid made) i 0 ≡ get_or (set numbers sid made) j 0
        → Still (get_or (set numbers sid made) i 0)
    the_apart i j inside inside' ne is = elim (cases_eq i sid) as (λ _. Still (get_or (set numbers sid made) i 0)) [
      | inl here ↦
          (let number : get_or (set numbers sid made) i 0 ≡ made = ap (λ (n : ℕ). get_or (set numbers sid made) n 0) here ∙ this in
          let there : j ≢ sid = λ e. ne (here ∙ sym e) in
          subst Still (sym number) (common j (omega (arith, count)) there (sym (other j there) ∙ sym is ∙ number)))
      | inr there ↦ elim (cases_eq j sid) as (λ _. Still (get_or (set numbers sid made) i 0)) [
        | inl here ↦
            (let number : get_or (set numbers sid made) j 0 ≡ made = ap (λ (n : ℕ). get_or (set numbers sid made) n 0) here ∙ this in
            subst Still (sym (is ∙ number)) (common i (omega (arith, count)) there (sym (other i there) ∙ is ∙ number)))
        | inr also ↦
            subst Still (sym (other i there))
            (still (get_or numbers i 0) (are.apart i j (omega (arith, count)) (omega (arith, count)) ne (sym (other i there) ∙ is ∙ other j also)))
      ]
    ]

-- one state more has the empty list
pub AreNumbers-push : {X : Type 0} (IsCommon : ℕ → Type 0) (numbers : List ℕ) (lists : List (List X)) → IsCommon 0 → AreNumbers IsCommon numbers lists → AreNumbers IsCommon (numbers ++ 0 ∷ []) lists
AreNumbers-push {X = X} IsCommon numbers lists none_common are = record { known = the_known; apart = the_apart }
  where
    old : (i : ℕ) → i < length numbers → get_or (numbers ++ 0 ∷ []) i 0 ≡ get_or numbers i 0
    old i below = get_or_append_left numbers (0 ∷ []) 0 i below

    last : (i : ℕ) → i < length (numbers ++ 0 ∷ []) → length numbers ≤ i → get_or (numbers ++ 0 ∷ []) i 0 ≡ 0
    last i below above = get_or_push numbers 0 0 i (omega (arith, length_push numbers 0))

    the_known : (i : ℕ) → i < length (numbers ++ 0 ∷ []) → IsList lists (get_or (numbers ++ 0 ∷ []) i 0)
    the_known i below = elim (cases_order i (length numbers)) as (λ _. IsList lists (get_or (numbers ++ 0 ∷ []) i 0)) [
      | inl is ↦ λ none. last i below (omega arith)
      | inr apart ↦ elim apart as (λ _. IsList lists (get_or (numbers ++ 0 ∷ []) i 0)) [
        | inl inside ↦ subst (λ (n : ℕ). IsList lists n) (sym (old i inside)) (are.known i inside)
        | inr above ↦ λ none. last i below (omega arith)
      ]
    ]

    empty : (i : ℕ) → get_or (numbers ++ 0 ∷ []) i 0 ≡ 0 → IsCommon (get_or (numbers ++ 0 ∷ []) i 0)
    empty i is = subst IsCommon (sym is) none_common

    inner : (i j : ℕ) → i < length numbers → j < length (numbers ++ 0 ∷ []) → i ≢ j → get_or (numbers ++ 0 ∷ []) i 0 ≡ get_or (numbers ++ 0 ∷ []) j 0 → IsCommon (get_or (numbers ++ 0 ∷ []) i 0)
    inner i j inside below ne is = elim (cases_order j (length numbers)) as (λ _. IsCommon (get_or (numbers ++ 0 ∷ []) i 0)) [
      | inl same ↦ empty i (is ∙ last j below (omega arith))
      | inr apart ↦ elim apart as (λ _. IsCommon (get_or (numbers ++ 0 ∷ []) i 0)) [
        | inl also ↦ subst IsCommon (sym (old i inside)) (are.apart i j inside also ne (sym (old i inside) ∙ is ∙ old j also))
        | inr above ↦ empty i (is ∙ last j below (omega arith))
      ]
    ]

    the_apart : (i j : ℕ) → i < length (numbers ++ 0 ∷ []) → j < length (numbers ++ 0 ∷ []) → i ≢ j → get_or (numbers ++ 0 ∷ []) i 0 ≡ get_or (numbers ++ 0 ∷ []) j 0
        → IsCommon (get_or (numbers ++ 0 ∷ []) i 0)
    the_apart i j below below' ne is = elim (cases_order i (length numbers)) as (λ _. IsCommon (get_or (numbers ++ 0 ∷ []) i 0)) [
      | inl same ↦ empty i (last i below (omega arith))
      | inr apart ↦ elim apart as (λ _. IsCommon (get_or (numbers ++ 0 ∷ []) i 0)) [
        | inl inside ↦ inner i j inside below' ne is
        | inr above ↦ empty i (last i below (omega arith))
      ]
    ]

-- and so have the first states alone
pub AreNumbers-take : {X : Type 0} (IsCommon : ℕ → Type 0) (numbers : List ℕ) (lists : List (List X)) (count : ℕ) → AreNumbers IsCommon numbers lists → AreNumbers IsCommon (take count numbers) lists
AreNumbers-take {X = X} IsCommon numbers lists count are = record {
  known = λ i below. subst (λ (n : ℕ). IsList lists n) (sym (old i below)) (are.known i (in_all i below));
  apart = λ i j below below' ne is. subst IsCommon (sym (old i below)) (are.apart i j (in_all i below) (in_all j below') ne (sym (old i below) ∙ is ∙ old j below'));
}
  where
    in_all : (i : ℕ) → i < length (take count numbers) → i < length numbers
    in_all i below = omega (arith, length-take count numbers)

    old : (i : ℕ) → i < length (take count numbers) → get_or (take count numbers) i 0 ≡ get_or numbers i 0
    old i below = get_or-take count numbers i 0 (omega (arith, length-take count numbers))
