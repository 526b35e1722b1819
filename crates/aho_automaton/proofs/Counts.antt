-- At one place no more occurrences end than there are patterns.
use Rattle.std.proofs.Common.{◌≡◌, ℕ, zero, suc, ◌+◌, ◌-◌, ◌<◌, ◌≤◌, inl, inr, Bool, true, List, [], ◌∷◌, length, refl, ap, arith, length-append}
use Rattle.std.specs.Prelude.{slice_range}
use Rattle.std.specs.List.{filter, flat_map, range_with_len}
use Rattle.std.proofs.lemmas.Bool.{cases_Bool, cond-true, cond-false}
use Rattle.std.proofs.lemmas.List.{length-map}
use Rattle.std.proofs.lemmas.List.FromFn.{length-range_with_len}
use Rattle.aho_core.specs.declared.search.Anchored.{Anchored}
use Rattle.aho_core.specs.declared.search.Anchored.TheVariants.{No, Yes}
use Rattle.aho_core.specs.Occurrence.{Occurrence, occurrence}
use Rattle.aho_core.specs.Overlapping.{begins_some, occurrences_at, occurrences_ending}
use Rattle.aho_core.specs.Patterns.{Patterns, numbers}
use Rattle.aho_automaton.proofs.Endings.{Test, as_long, none_pass}
use Rattle.aho_automaton.proofs.Listing.{ending}

-- a test that at most one place passes
at_most_one : (test : ℕ → Bool) (a n : ℕ) → ((x y : ℕ) → a ≤ x → x < a + n → a ≤ y → y < a + n → test x ≡ true → test y ≡ true → x ≡ y) → length (filter test (range_with_len a n)) ≤ 1
at_most_one test a zero one = omega arith
at_most_one test a (suc n) one =
    let rest = filter test (range_with_len (a + 1) n) in
    elim (cases_Bool (test a)) [
      | inl passes ↦
          (let none : rest ≡ [] = none_pass test (a + 1) n (λ k low high t. let same : a ≡ k = one a k (omega arith) (omega arith) (omega arith) (omega arith) passes t in omega arith) in
          omega (arith, ap length (cond-true (test a) (a ∷ rest) rest passes), ap length none))
      | inr fails ↦
          omega (arith, ap length (cond-false (test a) (a ∷ rest) rest fails), at_most_one test (a + 1) n (λ x y low high low' high' t u. one x y (omega arith) (omega arith) (omega arith) (omega arith) t u))
    ]

-- one number more, at each place
one_more : (test : ℕ → ℕ → Bool) (k : ℕ) (ks places : List ℕ) → length (flat_map (λ at. filter (test at) (k ∷ ks)) places) ≡ length (filter (λ at. test at k) places) + length (flat_map (λ at. filter (test at) ks) places)
one_more test k ks [] = refl
one_more test k ks (at ∷ places) =
    let rest = filter (test at) ks in
    let further = filter (λ x. test x k) places in
    let again = one_more test k ks places in
    let whole = length-append (filter (test at) (k ∷ ks)) (flat_map (λ x. filter (test x) (k ∷ ks)) places) in
    let less = length-append rest (flat_map (λ x. filter (test x) ks) places) in
    elim (cases_Bool (test at k)) [
      | inl passes ↦ omega (arith, again, whole, less, ap length (cond-true (test at k) (k ∷ rest) rest passes), ap length (cond-true (test at k) (at ∷ further) further passes))
      | inr fails ↦ omega (arith, again, whole, less, ap length (cond-false (test at k) (k ∷ rest) rest fails), ap length (cond-false (test at k) (at ∷ further) further fails))
    ]

-- so no more pass in all than there are numbers
no_more_than : (test : ℕ → ℕ → Bool) (ks : List ℕ) (a n : ℕ) → ((k x y : ℕ) → a ≤ x → x < a + n → a ≤ y → y < a + n → test x k ≡ true → test y k ≡ true → x ≡ y) → length (flat_map (λ at. filter (test at) ks) (range_with_len a n)) ≤ length ks
no_more_than test [] a n one = none (range_with_len a n)
  where
    none : (places : List ℕ) → length (flat_map (λ at. filter (test at) []) places) ≤ 0
    none [] = omega arith
    none (at ∷ places) = none places
no_more_than test (k ∷ ks) a n one = omega (arith, one_more test k ks (range_with_len a n), at_most_one (λ at. test at k) a n (one k), no_more_than test ks a n one)

length-filter : {X : Type 0} (test : X → Bool) (xs : List X) → length (filter test xs) ≤ length xs
length-filter test [] = omega arith
length-filter test (x ∷ xs) =
    elim (cases_Bool (test x)) [
      | inl passes ↦ omega (arith, ap length (cond-true (test x) (x ∷ filter test xs) (filter test xs) passes), length-filter test xs)
      | inr fails ↦ omega (arith, ap length (cond-false (test x) (x ∷ filter test xs) (filter test xs) fails), length-filter test xs)
    ]

module _ (p : Patterns) (haystack : List ℕ) where
  -- as many occurrences as numbers
  as_many : (end : ℕ) (places : List ℕ) → length (flat_map (λ at. occurrences_at p haystack at end) places) ≡ length (flat_map (λ at. filter (Test p haystack at end) (numbers p)) places)
  as_many end [] = refl
  as_many end (at ∷ places) =
      omega (
        arith,
        as_many end places,
        length-map (filter (Test p haystack at end) (numbers p)) (occurrence at end),
        length-append (occurrences_at p haystack at end) (flat_map (λ at. occurrences_at p haystack at end) places),
        length-append (filter (Test p haystack at end) (numbers p)) (flat_map (λ at. filter (Test p haystack at end) (numbers p)) places),
      )

  occurrences_bound : (start end : ℕ) → end ≤ length haystack → length (occurrences_ending p haystack start end) ≤ length p.words
  occurrences_bound start end within =
      omega (
        arith,
        as_many end (range_with_len start (end + 1 - start)),
        length-range_with_len 0 (length p.words),
        no_more_than (λ at. Test p haystack at end) (numbers p) start (end + 1 - start)
            (λ k x y low high low' high' t u. omega (arith, as_long p haystack x end k within t, as_long p haystack y end k within u)),
      )

  pub ending_bound : (anchored : Anchored) (start end : ℕ) → end ≤ length haystack → length (ending p haystack start anchored end) ≤ length p.words
  ending_bound No start end within = occurrences_bound start end within
  ending_bound Yes start end within =
      omega (arith, occurrences_bound start end within, length-filter (λ (m : Occurrence). begins_some p (slice_range haystack start m.end)) (occurrences_ending p haystack start end))
