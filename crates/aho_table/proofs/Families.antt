-- A change of one list leaves the others.
use Rattle.std.proofs.Common.{◌≡◌, ℕ, ◌+◌, ◌<◌, ◌≤◌, ◌≢◌, ◌⊎◌, Bool, true, false, cond, List, [], ◌∷◌, ◌++◌, length, refl, sym, ap, ◌∙◌, inl, inr, arith}
use Rattle.std.proofs.lemmas.Bool.{cases_order}
use Rattle.std.proofs.lemmas.List.{length-set, length_push, get_or_past, get_or-set_same, get_or-set_other, get_or_append_left}
use Rattle.aho_table.specs.Lists.{list_at, IsList, without}
use Rattle.aho_table.specs.TransitionList.{with_transition, lists_transition, is_above, room_for, number_after, set_transition_in}
use Rattle.aho_table.proofs.TransitionRuns.{with_transition-more, with_transition-same, with_transition-less, lists_transition-other, is_above-more, is_above-not}

-- a number at which a list with an item stands is a list's
pub IsList-from : {X : Type 0} (lists : List (List X)) (number : ℕ) (items : List X) → list_at lists number ≡ items → items ≢ [] → IsList lists number
IsList-from lists number items is some none = absurd (some (sym is ∙ none))

-- ---- a byte of a list was led to a state

pub with_transition-some : (xs : List (ℕ × ℕ)) (byte next : ℕ) → with_transition xs byte next ≢ []
with_transition-some [] byte next none = cc
with_transition-some (x ∷ xs) byte next none =
    elim (cases_order x.0 byte) [
      | inl same ↦ let e = sym (with_transition-same x xs byte next same) ∙ none in cc
      | inr apart ↦ elim apart [
        | inl less ↦ let e = sym (with_transition-more x xs byte next less) ∙ none in cc
        | inr more ↦ let e = sym (with_transition-less x xs byte next more) ∙ none in cc
      ]
    ]

above-unlisted : (xs : List (ℕ × ℕ)) (byte : ℕ) → is_above xs byte ≡ true → lists_transition xs byte ≡ false
above-unlisted [] byte above = refl
above-unlisted (x ∷ xs) byte above =
    elim (cases_order x.0 byte) [
      | inl same ↦ let e = sym above ∙ is_above-not x xs byte (omega arith) in absurd (cc)
      | inr apart ↦ elim apart [
        | inl less ↦ lists_transition-other x xs byte (λ e. omega arith) ∙ above-unlisted xs byte (sym (is_above-more x xs byte less) ∙ above)
        | inr more ↦ let e = sym above ∙ is_above-not x xs byte (omega arith) in absurd (cc)
      ]
    ]

module _ (lists : List (List (ℕ × ℕ))) (list byte next : ℕ) where
  room-other : (b : Bool) (other : ℕ) → other < length lists → list_at (cond b lists (lists ++ [] ∷ [])) other ≡ list_at lists other
  room-other true other below = refl
  room-other false other below = get_or_append_left lists ([] ∷ []) [] other below

  number-other : (b : Bool) (other : ℕ) → other < length lists → other ≢ list → other ≢ cond b (length lists) list
  number-other true other below ne e = omega arith
  number-other false other below ne e = ne e

  pub set_transition_in-other : (other : ℕ) → other < length lists → other ≢ list → list_at (set_transition_in lists list byte next) other ≡ list_at lists other
  set_transition_in-other other below ne =
      get_or-set_other (without (room_for lists list byte) list) (number_after lists list byte) other (with_transition (list_at lists list) byte next) []
      (number-other (is_above (list_at lists list) byte) other below ne)
      ∙ get_or-set_other (room_for lists list byte) list other [] [] ne
      ∙ room-other (lists_transition (list_at lists list) byte) other below

  in_room : (above listed : Bool) → (above ≡ true → listed ≡ false) → (above ≡ false → list < length lists) → cond above (length lists) list < length (cond listed lists (lists ++ [] ∷ []))
  in_room true true unlisted inside = absurd (let e = unlisted refl in cc)
  in_room true false unlisted inside = omega (arith, length_push lists [])
  in_room false true unlisted inside = inside refl
  in_room false false unlisted inside = omega (arith, inside refl, length_push lists [])

  inside_of : is_above (list_at lists list) byte ≡ false → list < length lists
  inside_of within = elim (cases_order list (length lists)) [
    | inl is ↦ absurd (let e = sym (ap (λ (l : List (ℕ × ℕ)). is_above l byte) (get_or_past lists list [] (omega arith))) ∙ within in cc)
    | inr apart ↦ elim apart [
      | inl below ↦ below
      | inr above ↦ absurd (let e = sym (ap (λ (l : List (ℕ × ℕ)). is_above l byte) (get_or_past lists list [] (omega arith))) ∙ within in cc)
    ]
  ]

  pub set_transition_in-this : list_at (set_transition_in lists list byte next) (number_after lists list byte) ≡ with_transition (list_at lists list) byte next
  set_transition_in-this =
      get_or-set_same (without (room_for lists list byte) list) (number_after lists list byte) (with_transition (list_at lists list) byte next) []
      (omega (
        arith,
        length-set (room_for lists list byte) list [],
        in_room (is_above (list_at lists list) byte) (lists_transition (list_at lists list) byte) (above-unlisted (list_at lists list) byte) inside_of,
      ))

  room-count : (b : Bool) → length (cond b lists (lists ++ [] ∷ [])) ≡ length lists + cond b 0 1
  room-count true = omega arith
  room-count false = length_push lists []

  -- there is one entry more, unless the byte was listed
  pub set_transition_in-count : length (set_transition_in lists list byte next) ≡ length lists + cond (lists_transition (list_at lists list) byte) 0 1
  set_transition_in-count =
      length-set (without (room_for lists list byte) list) (number_after lists list byte) (with_transition (list_at lists list) byte next)
      ∙ length-set (room_for lists list byte) list []
      ∙ room-count (lists_transition (list_at lists list) byte)

-- the number that a list has then is the one that it had, or a new one
pub number_after-fresh : (lists : List (List (ℕ × ℕ))) (list byte made : ℕ) → made ≡ number_after lists list byte → (made ≡ list) ⊎ (length lists ≤ made)
number_after-fresh lists list byte made is = fresh (is_above (list_at lists list) byte) is
  where
    fresh : (b : Bool) → made ≡ cond b (length lists) list → (made ≡ list) ⊎ (length lists ≤ made)
    fresh true same = inr (omega arith)
    fresh false same = inl same
