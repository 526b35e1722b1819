-- The listing of an overlapping search, place by place.
use Rattle.std.proofs.Common.{◌≡◌, ℕ, zero, suc, ◌+◌, ◌-◌, ◌<◌, ◌≤◌, Bool, true, false, List, [], ◌∷◌, ◌++◌, map, refl, ◌∙◌, ap, arith}
use Rattle.std.specs.Prelude.{nat_eq, nat_lt, slice_range}
use Rattle.std.specs.List.{All, filter, flat_map, range_with_len}
use Rattle.std.proofs.lemmas.Bool.{cond-true, cond-false, eq-eqb, le-ltb, lt-ltb, ne_eqb}
use Rattle.std.proofs.lemmas.Grind.{flat_map-append}
use Rattle.std.proofs.lemmas.List.{append-nil}
use Rattle.std.proofs.lemmas.List.Elements.{All-append, All-cons, All-filter, All-head, All-nil, All-tail, All-weaker, filter-append}
use Rattle.aho_core.specs.declared.search.Anchored.{Anchored}
use Rattle.aho_core.specs.declared.search.Anchored.TheVariants.{No, Yes}
use Rattle.aho_core.specs.Bytes.{is_same_word}
use Rattle.aho_core.specs.Occurrence.{Occurrence, occurrence}
use Rattle.aho_core.specs.Overlapping.{begins_some, occurrences_at, occurrences_ending, overlapping_by, places}
use Rattle.aho_core.specs.Patterns.{Patterns, numbers, pattern_at}
use Rattle.aho_laws.proofs.Ranges.{range_with_len-add}

-- a test that each element passes, and one that none does
pub filter-all : {X : Type 0} (test : X → Bool) (xs : List X) → All (λ x. test x ≡ true) xs → filter test xs ≡ xs
filter-all test [] all = refl
filter-all test (x ∷ xs) all =
    cond-true (test x) (x ∷ filter test xs) (filter test xs) (All-head (λ y. test y ≡ true) x xs all)
    ∙ ap (λ ys. x ∷ ys) (filter-all test xs (All-tail (λ y. test y ≡ true) x xs all))

pub filter-none : {X : Type 0} (test : X → Bool) (xs : List X) → All (λ x. test x ≡ false) xs → filter test xs ≡ []
filter-none test [] all = refl
filter-none test (x ∷ xs) all =
    cond-false (test x) (x ∷ filter test xs) (filter test xs) (All-head (λ y. test y ≡ false) x xs all)
    ∙ filter-none test xs (All-tail (λ y. test y ≡ false) x xs all)

-- what holds of each piece holds of the whole
All-flat_map : {X A : Type 0} (P : A → Type 0) (f : X → List A) (xs : List X) → ((x : X) → All P (f x)) → All P (flat_map f xs)
All-flat_map P f [] each = All-nil P
All-flat_map P f (x ∷ xs) each = All-append P (f x) (flat_map f xs) (each x) (All-flat_map P f xs each)

filter-flat_map : {X A : Type 0} (test : A → Bool) (f : X → List A) (xs : List X) → filter test (flat_map f xs) ≡ flat_map (λ x. filter test (f x)) xs
filter-flat_map test f [] = refl
filter-flat_map test f (x ∷ xs) = filter-append test (f x) (flat_map f xs) ∙ ap (λ ys. filter test (f x) ++ ys) (filter-flat_map test f xs)

-- where no place has anything nothing is listed
pub flat_map-nothing : {A : Type 0} (f : ℕ → List A) (a n : ℕ) → ((k : ℕ) → a ≤ k → k < a + n → f k ≡ []) → flat_map f (range_with_len a n) ≡ []
flat_map-nothing f a zero none = refl
flat_map-nothing f a (suc n) none =
    ap (λ xs. xs ++ flat_map f (range_with_len (a + 1) n)) (none a (omega arith) (omega arith))
    ∙ flat_map-nothing f (a + 1) n (λ k low high. none k (omega arith) (omega arith))

-- a test of what is listed place by place
filter-places_all : (test : Occurrence → Bool) (f : ℕ → List Occurrence) (a n : ℕ) → ((k : ℕ) → a ≤ k → k < a + n → filter test (f k) ≡ f k) → filter test (flat_map f (range_with_len a n)) ≡ flat_map f (range_with_len a n)
filter-places_all test f a zero each = refl
filter-places_all test f a (suc n) each =
    filter-append test (f a) (flat_map f (range_with_len (a + 1) n))
    ∙ ap (λ xs. xs ++ filter test (flat_map f (range_with_len (a + 1) n))) (each a (omega arith) (omega arith))
    ∙ ap (λ xs. f a ++ xs) (filter-places_all test f (a + 1) n (λ k low high. each k (omega arith) (omega arith)))

filter-places_none : (test : Occurrence → Bool) (f : ℕ → List Occurrence) (a n : ℕ) → ((k : ℕ) → a ≤ k → k < a + n → filter test (f k) ≡ []) → filter test (flat_map f (range_with_len a n)) ≡ []
filter-places_none test f a n none = filter-flat_map test f (range_with_len a n) ∙ flat_map-nothing (λ k. filter test (f k)) a n none

module _ (p : Patterns) (haystack : List ℕ) (start : ℕ) where
  -- what a search lists at a place
  abbrev pub ending : Anchored → ℕ → List Occurrence
  ending No end = occurrences_ending p haystack start end
  ending Yes end = filter (λ (m : Occurrence). begins_some p (slice_range haystack start m.end)) (occurrences_ending p haystack start end)

  -- the listing is what is listed place by place
  pub listing : (anchored : Anchored) (end : ℕ) → overlapping_by anchored p haystack start end ≡ flat_map (ending anchored) (places start end)
  listing No end = refl
  listing Yes end = filter-flat_map (λ (m : Occurrence). begins_some p (slice_range haystack start m.end)) (occurrences_ending p haystack start) (places start end)

  abbrev EndsAt : ℕ → Occurrence → Type 0
  EndsAt end m = m.end ≡ end

  map-ends : (from end : ℕ) (ks : List ℕ) → All (EndsAt end) (map (occurrence from end) ks)
  map-ends from end [] = All-nil (EndsAt end)
  map-ends from end (k ∷ ks) = All-cons (EndsAt end) (occurrence from end k) (map (occurrence from end) ks) refl (map-ends from end ks)

  occurrences-end : (end : ℕ) → All (EndsAt end) (occurrences_ending p haystack start end)
  occurrences-end end =
      All-flat_map (EndsAt end) (λ from. occurrences_at p haystack from end) (places start end)
      (λ from. map-ends from end (filter (λ number. is_same_word p (pattern_at p number) (slice_range haystack from end)) (numbers p)))

  -- it all ends there
  pub ending-ends : (anchored : Anchored) (end : ℕ) → All (λ (m : Occurrence). m.end ≡ end) (ending anchored end)
  ending-ends No end = occurrences-end end
  ending-ends Yes end = All-filter (λ (m : Occurrence). begins_some p (slice_range haystack start m.end)) (EndsAt end) (occurrences_ending p haystack start end) (occurrences-end end)

  module _ (anchored : Anchored) where
    -- what is listed at each of n places
    abbrev pub listed : ℕ → ℕ → List Occurrence
    listed from n = flat_map (ending anchored) (range_with_len from n)

    kept_by : (test : Occurrence → Bool) (end : ℕ) → ((m : Occurrence) → m.end ≡ end → test m ≡ true) → filter test (ending anchored end) ≡ ending anchored end
    kept_by test end passes = filter-all test (ending anchored end) (All-weaker (EndsAt end) (λ m. test m ≡ true) passes (ending anchored end) (ending-ends anchored end))

    left_out_by : (test : Occurrence → Bool) (end : ℕ) → ((m : Occurrence) → m.end ≡ end → test m ≡ false) → filter test (ending anchored end) ≡ []
    left_out_by test end fails = filter-none test (ending anchored end) (All-weaker (EndsAt end) (λ m. test m ≡ false) fails (ending anchored end) (ending-ends anchored end))

    -- the listing in three: what ends before a place, what ends there, and the rest
    pub listing_parts : (at end : ℕ) → start ≤ at → at ≤ end → overlapping_by anchored p haystack start end ≡ listed start (at - start) ++ (ending anchored at ++ listed (at + 1) (end - at))
    listing_parts at end low high =
        let count : end + 1 - start ≡ (at - start) + suc (end - at) = omega arith in
        let place : start + (at - start) ≡ at = omega arith in
        listing anchored end
        ∙ ap (λ (n : ℕ). listed start n) count
        ∙ ap (flat_map (ending anchored)) (range_with_len-add start (at - start) (suc (end - at)))
        ∙ flat_map-append (ending anchored) (range_with_len start (at - start)) (range_with_len (start + (at - start)) (suc (end - at)))
        ∙ ap (λ (x : ℕ). listed start (at - start) ++ listed x (suc (end - at))) place

    -- what ends before a place
    pub before_part : (at end : ℕ) → start ≤ at → at ≤ end + 1 → filter (λ (m : Occurrence). nat_lt m.end at) (overlapping_by anchored p haystack start end) ≡ listed start (at - start)
    before_part at end low high =
        let test : Occurrence → Bool = λ (m : Occurrence). nat_lt m.end at in
        let count : end + 1 - start ≡ (at - start) + (end + 1 - at) = omega arith in
        let place : start + (at - start) ≡ at = omega arith in
        ap (filter test)
        (listing anchored end
        ∙ ap (λ (n : ℕ). listed start n) count
        ∙ ap (flat_map (ending anchored)) (range_with_len-add start (at - start) (end + 1 - at))
        ∙ flat_map-append (ending anchored) (range_with_len start (at - start)) (range_with_len (start + (at - start)) (end + 1 - at)))
        ∙ filter-append test (listed start (at - start)) (listed (start + (at - start)) (end + 1 - at))
        ∙ ap (λ xs. xs ++ filter test (listed (start + (at - start)) (end + 1 - at)))
        (filter-places_all test (ending anchored) start (at - start) (λ k least most. kept_by test k (λ m e. lt-ltb m.end at (omega arith))))
        ∙ ap (λ xs. listed start (at - start) ++ xs)
        (filter-places_none test (ending anchored) (start + (at - start)) (end + 1 - at) (λ k least most. left_out_by test k (λ m e. le-ltb m.end at (omega arith))))
        ∙ append-nil (listed start (at - start))

    -- what ends there
    pub at_part : (at end : ℕ) → start ≤ at → at ≤ end → filter (λ (m : Occurrence). nat_eq m.end at) (overlapping_by anchored p haystack start end) ≡ ending anchored at
    at_part at end low high =
        let test : Occurrence → Bool = λ (m : Occurrence). nat_eq m.end at in
        ap (filter test) (listing_parts at end low high)
        ∙ filter-append test (listed start (at - start)) (ending anchored at ++ listed (at + 1) (end - at))
        ∙ ap (λ xs. xs ++ filter test (ending anchored at ++ listed (at + 1) (end - at)))
        (filter-places_none test (ending anchored) start (at - start) (λ k least most. left_out_by test k (λ m e. ne_eqb m.end at (λ same. omega arith))))
        ∙ filter-append test (ending anchored at) (listed (at + 1) (end - at))
        ∙ ap (λ xs. xs ++ filter test (listed (at + 1) (end - at))) (kept_by test at (λ m e. eq-eqb m.end at e))
        ∙ ap (λ xs. ending anchored at ++ xs)
        (filter-places_none test (ending anchored) (at + 1) (end - at) (λ k least most. left_out_by test k (λ m e. ne_eqb m.end at (λ same. omega arith))))
        ∙ append-nil (ending anchored at)

    -- from one place to a later one
    pub listed_between : (at place : ℕ) → start ≤ at → at < place → ((k : ℕ) → at < k → k < place → ending anchored k ≡ []) → listed start (place - start) ≡ listed start (at - start) ++ ending anchored at
    listed_between at place low less none =
        let count : place - start ≡ (at - start) + suc (place - (at + 1)) = omega arith in
        let here : start + (at - start) ≡ at = omega arith in
        ap (λ (n : ℕ). listed start n) count
        ∙ ap (flat_map (ending anchored)) (range_with_len-add start (at - start) (suc (place - (at + 1))))
        ∙ flat_map-append (ending anchored) (range_with_len start (at - start)) (range_with_len (start + (at - start)) (suc (place - (at + 1))))
        ∙ ap (λ (x : ℕ). listed start (at - start) ++ listed x (suc (place - (at + 1)))) here
        ∙ ap (λ xs. listed start (at - start) ++ (ending anchored at ++ xs))
        (flat_map-nothing (ending anchored) (at + 1) (place - (at + 1)) (λ k least most. none k (omega arith) (omega arith)))
        ∙ ap (λ xs. listed start (at - start) ++ xs) (append-nil (ending anchored at))
