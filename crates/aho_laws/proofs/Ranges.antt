-- Lists over the places of a range, one place after another.
use Rattle.std.proofs.Common.{◌≡◌, ℕ, suc, zero, ◌+◌, ◌-◌, ◌≤◌, List, [], ◌∷◌, ◌++◌, map, ap, sym, ◌∙◌, arith, Bool, true, false, cond, append_assoc, subst}
use Rattle.std.proofs.lemmas.Grind.{flat_map-append}
use Rattle.std.proofs.lemmas.List.{append-nil, map-append}
use Rattle.std.proofs.lemmas.List.Elements.{filter-append}
use Rattle.std.specs.List.{range_with_len, flat_map, filter}

pub range_with_len-more : (a n : ℕ) → range_with_len a (suc n) ≡ range_with_len a n ++ (a + n) ∷ []
range_with_len-more a zero = let e : a ≡ a + 0 = omega arith in ap (λ (x : ℕ). x ∷ []) e
range_with_len-more a (suc n) =
    let e : a + 1 + n ≡ a + suc n = omega arith in
    ap (λ (xs : List ℕ). a ∷ xs) (range_with_len-more (a + 1) n ∙ ap (λ (x : ℕ). range_with_len (a + 1) n ++ x ∷ []) e)

-- one range after another
pub range_with_len-add : (a m n : ℕ) → range_with_len a (m + n) ≡ range_with_len a m ++ range_with_len (a + m) n
range_with_len-add a zero n =
    let none : 0 + n ≡ n = omega arith in
    let here : a ≡ a + 0 = omega arith in
    ap (range_with_len a) none ∙ ap (λ (x : ℕ). range_with_len x n) here
range_with_len-add a (suc m) n =
    let count : suc m + n ≡ suc (m + n) = omega arith in
    let place : a + 1 + m ≡ a + suc m = omega arith in
    ap (range_with_len a) count
    ∙ ap (λ xs. a ∷ xs) (range_with_len-add (a + 1) m n ∙ ap (λ (x : ℕ). range_with_len (a + 1) m ++ range_with_len x n) place)

-- one place more
pub flat_map-places_more : {X : Type 0} (f : ℕ → List X) (a k : ℕ) → a ≤ k
    → flat_map f (range_with_len a (k + 1 - a)) ≡ flat_map f (range_with_len a (k - a)) ++ f k
flat_map-places_more f a k h =
    let count : k + 1 - a ≡ suc (k - a) = omega arith in
    let last : a + (k - a) ≡ k = omega arith in
    ap (λ (n : ℕ). flat_map f (range_with_len a n)) count
    ∙ ap (flat_map f) (range_with_len-more a (k - a))
    ∙ flat_map-append f (range_with_len a (k - a)) ((a + (k - a)) ∷ [])
    ∙ ap (λ xs. flat_map f (range_with_len a (k - a)) ++ xs) (append-nil (f (a + (k - a))) ∙ ap f last)

-- one number more under a test
pub filter-range_with_len_more : (test : ℕ → Bool) (n : ℕ)
    → filter test (range_with_len 0 (n + 1)) ≡ filter test (range_with_len 0 n) ++ filter test (n ∷ [])
filter-range_with_len_more test n =
    let count : n + 1 ≡ suc n = omega arith in
    let last : 0 + n ≡ n = omega arith in
    ap (λ (m : ℕ). filter test (range_with_len 0 m)) count
    ∙ ap (filter test) (range_with_len-more 0 n ∙ ap (λ (x : ℕ). range_with_len 0 n ++ x ∷ []) last)
    ∙ filter-append test (range_with_len 0 n) (n ∷ [])

-- a list that grew by what one place more gives
pub places_step : {X : Type 0} (f : ℕ → List X) (a k : ℕ) (front before after : List X) → a ≤ k
    → before ≡ front ++ flat_map f (range_with_len a (k - a)) → after ≡ before ++ f k
    → after ≡ front ++ flat_map f (range_with_len a (k + 1 - a))
places_step f a k front before after h was now =
    now ∙ ap (λ xs. xs ++ f k) was ∙ append_assoc front (flat_map f (range_with_len a (k - a))) (f k)
    ∙ ap (λ xs. front ++ xs) (sym (flat_map-places_more f a k h))

-- a list that grew by a number that passes a test
pub tested_step : {X : Type 0} (f : ℕ → X) (test : ℕ → Bool) (n : ℕ) (front before after : List X)
    → before ≡ front ++ map f (filter test (range_with_len 0 n)) → test n ≡ true → after ≡ before ++ f n ∷ []
    → after ≡ front ++ map f (filter test (range_with_len 0 (n + 1)))
tested_step f test n front before after was passes now =
    let last : filter test (n ∷ []) ≡ n ∷ [] = ap (λ (b : Bool). cond b (n ∷ []) []) passes in
    now ∙ ap (λ xs. xs ++ f n ∷ []) was ∙ append_assoc front (map f (filter test (range_with_len 0 n))) (f n ∷ [])
    ∙ ap (λ xs. front ++ xs)
    (sym (map-append f (filter test (range_with_len 0 n)) (n ∷ []))
    ∙ ap (map f) (ap (λ xs. filter test (range_with_len 0 n) ++ xs) (sym last) ∙ sym (filter-range_with_len_more test n)))

-- a list that stayed as it was, since the number fails the test
pub untested_step : {X : Type 0} (f : ℕ → X) (test : ℕ → Bool) (n : ℕ) (front before : List X)
    → before ≡ front ++ map f (filter test (range_with_len 0 n)) → test n ≡ false
    → before ≡ front ++ map f (filter test (range_with_len 0 (n + 1)))
untested_step f test n front before was fails =
    let last : filter test (n ∷ []) ≡ [] = ap (λ (b : Bool). cond b (n ∷ []) []) fails in
    was
    ∙ ap (λ xs. front ++ map f xs)
    (sym (append-nil (filter test (range_with_len 0 n)))
    ∙ ap (λ xs. filter test (range_with_len 0 n) ++ xs) (sym last) ∙ sym (filter-range_with_len_more test n))

-- the same at the last place
pub places_end : {X : Type 0} (f : ℕ → List X) (a k end : ℕ) (front before after : List X) → a ≤ k → k ≡ end
    → before ≡ front ++ flat_map f (range_with_len a (k - a)) → after ≡ before ++ f k
    → after ≡ front ++ flat_map f (range_with_len a (end + 1 - a))
places_end f a k end front before after h last was now =
    subst (λ (e : ℕ). after ≡ front ++ flat_map f (range_with_len a (e + 1 - a))) last (places_step f a k front before after h was now)
