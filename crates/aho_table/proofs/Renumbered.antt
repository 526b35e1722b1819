-- Two states that change places: where each stands then.
use Rattle.std.proofs.Common.{◌≡◌, ℕ, ◌+◌, ◌<◌, ◌≢◌, List, [], ◌∷◌, ◌++◌, length, get_or, map, slice_index, slice_set, refl, sym, ap, subst, ◌∙◌, inl, inr, arith}
use Rattle.std.specs.List.{range_with_len, swap}
use Rattle.std.proofs.lemmas.Bool.{cases_eq, eq-eqb}
use Rattle.std.proofs.lemmas.Bool.Decides.{nat_tests}
use Rattle.std.proofs.lemmas.List.Edits.{swapped_from_swap}
use Rattle.std.proofs.lemmas.List.FromFn.{get_or-range_with_len, length-range_with_len, map-range_with_len_more}
use Rattle.std.proofs.lemmas.List.{ext_get_or, get_or-map, map-id, get_or-set_same, get_or-set_other, length-map, length-set}
use Rattle.aho_table.specs.Remapping.{transposed, AreInverse}

-- the first of the two, the second, and any other number
pub transposed-first : (a b n : ℕ) → n ≡ a → transposed a b n ≡ b
transposed-first a b n is = rw (eq-eqb n a is) refl

pub transposed-second : (a b n : ℕ) → n ≡ b → transposed a b n ≡ a
transposed-second a b n is = elim (cases_eq n a) [
  | inl same ↦ transposed-first a b n same ∙ sym is ∙ same
  | inr other ↦ grind (arith, nat_tests, is, other)
]

pub transposed-other : (a b n : ℕ) → n ≢ a → n ≢ b → transposed a b n ≡ n
transposed-other a b n not_a not_b = grind (arith, nat_tests, not_a, not_b)

pub transposed-below : (a b n len : ℕ) → a < len → b < len → n < len → transposed a b n < len
transposed-below a b n len of_a of_b of_n = elim (cases_eq n a) [
  | inl is_a ↦ subst (λ m. m < len) (sym (transposed-first a b n is_a)) of_b
  | inr not_a ↦ elim (cases_eq n b) [
    | inl is_b ↦ subst (λ m. m < len) (sym (transposed-second a b n is_b)) of_a
    | inr not_b ↦ subst (λ m. m < len) (sym (transposed-other a b n not_a not_b)) of_n
  ]
]

pub transposed-twice : (a b n : ℕ) → transposed a b (transposed a b n) ≡ n
transposed-twice a b n = elim (cases_eq n a) [
  | inl is_a ↦ ap (transposed a b) (transposed-first a b n is_a) ∙ transposed-second a b b refl ∙ sym is_a
  | inr not_a ↦ elim (cases_eq n b) [
    | inl is_b ↦ ap (transposed a b) (transposed-second a b n is_b) ∙ transposed-first a b a refl ∙ sym is_b
    | inr not_b ↦ ap (transposed a b) (transposed-other a b n not_a not_b) ∙ transposed-other a b n not_a not_b
  ]
]

-- where two items of a list have changed places
pub swap-at : {X : Type 0} (default : X) (xs ys : List X) (a b : ℕ) → a < length xs → b < length xs → ys ≡ swap xs a b → (n : ℕ) → get_or ys n default ≡ get_or xs (transposed a b n) default
swap-at default xs ys a b of_a of_b is n =
    let swapped = swapped_from_swap xs ys a b default of_a of_b is in
    elim (cases_eq n a) [
      | inl is_a ↦ ap (λ (i : ℕ). get_or ys i default) is_a ∙ swapped.0 ∙ ap (λ (i : ℕ). get_or xs i default) (sym (transposed-first a b n is_a))
      | inr not_a ↦ elim (cases_eq n b) [
        | inl is_b ↦ ap (λ (i : ℕ). get_or ys i default) is_b ∙ swapped.1 ∙ ap (λ (i : ℕ). get_or xs i default) (sym (transposed-second a b n is_b))
        | inr not_b ↦ swapped.2 n not_a not_b ∙ ap (λ (i : ℕ). get_or xs i default) (sym (transposed-other a b n not_a not_b))
      ]
    ]

module _ (places origins : List ℕ) (a b : ℕ) (inverse : AreInverse places origins) (of_a : a < length places) (of_b : b < length places) where
  abbrev first : ℕ
  first = slice_index origins a

  abbrev second : ℕ
  second = slice_index origins b

  abbrev new_places : List ℕ
  new_places = slice_set (slice_set places first b) second a

  abbrev new_origins : List ℕ
  new_origins = slice_set (slice_set origins a second) b first

  place_moves : (n : ℕ) → n < length places → slice_index new_places n ≡ transposed a b (slice_index places n)
  place_moves n less = elim (cases_eq n second) [
    | inl is_second ↦
        ap (slice_index new_places) is_second
        ∙ get_or-set_same (slice_set places first b) second a 0 (subst (λ len. second < len) (sym (length-set places first b)) (inverse.numbered b of_b))
        ∙ sym (transposed-second a b (slice_index places n) (ap (slice_index places) is_second ∙ inverse.there b of_b))
    | inr not_second ↦ get_or-set_other (slice_set places first b) second n a 0 not_second ∙ elim (cases_eq n first) [
      | inl is_first ↦
          ap (slice_index (slice_set places first b)) is_first
          ∙ get_or-set_same places first b 0 (inverse.numbered a of_a)
          ∙ sym (transposed-first a b (slice_index places n) (ap (slice_index places) is_first ∙ inverse.there a of_a))
      | inr not_first ↦
          get_or-set_other places first n b 0 not_first
          ∙ sym
          (transposed-other a b (slice_index places n)
          (λ is_a. not_first (sym (inverse.back n less) ∙ ap (slice_index origins) is_a))
          (λ is_b. not_second (sym (inverse.back n less) ∙ ap (slice_index origins) is_b)))
    ]
  ]

  origin_moves : (n : ℕ) → n < length places → slice_index new_origins n ≡ slice_index origins (transposed a b n)
  origin_moves n less = elim (cases_eq n b) [
    | inl is_b ↦
        ap (slice_index new_origins) is_b
        ∙ get_or-set_same (slice_set origins a second) b first 0 (subst (λ len. b < len) (sym (length-set origins a second ∙ inverse.as_many)) of_b)
        ∙ ap (slice_index origins) (sym (transposed-second a b n is_b))
    | inr not_b ↦ get_or-set_other (slice_set origins a second) b n first 0 not_b ∙ elim (cases_eq n a) [
      | inl is_a ↦
          ap (slice_index (slice_set origins a second)) is_a
          ∙ get_or-set_same origins a second 0 (subst (λ len. a < len) (sym inverse.as_many) of_a)
          ∙ ap (slice_index origins) (sym (transposed-first a b n is_a))
      | inr not_a ↦ get_or-set_other origins a n second 0 not_a ∙ ap (slice_index origins) (sym (transposed-other a b n not_a not_b))
    ]
  ]

  same_length : length new_places ≡ length places
  same_length = length-set (slice_set places first b) second a ∙ length-set places first b

  pub places-swapped : new_places ≡ map (transposed a b) places
  places-swapped =
      ext_get_or 0 new_places (map (transposed a b) places)
      (same_length ∙ sym (length-map places (transposed a b)))
      (λ n less.
      let below : n < length places = subst (λ len. n < len) same_length less in
      place_moves n below ∙ sym (get_or-map (transposed a b) places n 0 0 below))

  pub AreInverse-swapped : AreInverse new_places new_origins
  AreInverse-swapped = record {
    as_many = length-set (slice_set origins a second) b first ∙ length-set origins a second ∙ inverse.as_many ∙ sym same_length;
    placed = λ n less.
        let below : n < length places = subst (λ len. n < len) same_length less in
        subst (λ len. slice_index new_places n < len) (sym same_length)
        (subst (λ place. place < length places) (sym (place_moves n below)) (transposed-below a b (slice_index places n) (length places) of_a of_b (inverse.placed n below)));
    numbered = λ n less.
        let below : n < length places = subst (λ len. n < len) same_length less in
        subst (λ len. slice_index new_origins n < len) (sym same_length)
        (subst (λ number. number < length places) (sym (origin_moves n below)) (inverse.numbered (transposed a b n) (transposed-below a b n (length places) of_a of_b below)));
    back = λ n less.
        let below : n < length places = subst (λ len. n < len) same_length less in
        let place : transposed a b (slice_index places n) < length places = transposed-below a b (slice_index places n) (length places) of_a of_b (inverse.placed n below) in
        ap (slice_index new_origins) (place_moves n below)
        ∙ origin_moves (transposed a b (slice_index places n)) place
        ∙ ap (slice_index origins) (transposed-twice a b (slice_index places n))
        ∙ inverse.back n below;
    there = λ n less.
        let below : n < length places = subst (λ len. n < len) same_length less in
        let moved : transposed a b n < length places = transposed-below a b n (length places) of_a of_b below in
        ap (slice_index new_places) (origin_moves n below)
        ∙ place_moves (slice_index origins (transposed a b n)) (inverse.numbered (transposed a b n) moved)
        ∙ ap (transposed a b) (inverse.there (transposed a b n) moved)
        ∙ transposed-twice a b n;
  }

-- the numbers in order, one more
pub range_with_len-push : (n : ℕ) → range_with_len 0 (n + 1) ≡ range_with_len 0 n ++ n ∷ []
range_with_len-push n =
    sym (map-id (range_with_len 0 (n + 1)))
    ∙ map-range_with_len_more (λ (x : ℕ). x) 0 n n (omega arith)
    ∙ ap (λ xs. xs ++ n ∷ []) (map-id (range_with_len 0 n))

-- where nothing has moved
module _ (len : ℕ) where
  abbrev numbers : List ℕ
  numbers = range_with_len 0 len

  stays : (n : ℕ) → n < length numbers → slice_index numbers n ≡ n
  stays n less = get_or-range_with_len 0 len n 0 (subst (λ size. n < size) (length-range_with_len 0 len) less) ∙ omega arith

  below : (n : ℕ) → n < length numbers → slice_index numbers n < length numbers
  below n less = subst (λ number. number < length numbers) (sym (stays n less)) less

  back : (n : ℕ) → n < length numbers → slice_index numbers (slice_index numbers n) ≡ n
  back n less = ap (slice_index numbers) (stays n less) ∙ stays n less

  pub AreInverse-range : AreInverse numbers numbers
  AreInverse-range = record { as_many = refl; placed = below; numbered = below; back = back; there = back }
