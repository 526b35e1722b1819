-- Words that begin others, and numbers that pass a test.
use Rattle.std.proofs.Common.{◌≡◌, inl, inr, ℕ, zero, suc, ◌+◌, ◌<◌, ◌≤◌, Bool, true, false, List, [], ◌∷◌, ◌++◌, length, drop, refl, sym, ◌∙◌, ap, subst, arith, append_assoc, length-append}
use Rattle.std.specs.Prelude.{filter}
use Rattle.std.specs.List.{list_any, range_with_len, All}
use Rattle.std.proofs.lemmas.Bool.{cases_Bool, cases_eq, or_cases, or_left, or_right, cond-true, cond-false}
use Rattle.std.proofs.lemmas.List.{append-nil, nil_from_length}
use Rattle.std.proofs.lemmas.Bool.Decides.{Decides-eqb}
use Rattle.std.proofs.lemmas.List.Elements.{All-nil, All-cons}
use Rattle.std.proofs.lemmas.Slice.Eq.{starts_is, bytes_eq-Decides}
use Rattle.aho_core.specs.Trie.{begins, is_word}

-- the rest of a word after another that begins it
abbrev pub Begins : List ℕ → List ℕ → Type 0
Begins xs ys = (rest : List ℕ) × (xs ++ rest ≡ ys)

-- two cuts of one word
pub two_cuts : (xs ys us vs : List ℕ) → xs ++ ys ≡ us ++ vs → length xs ≤ length us → (ms : List ℕ) × (us ≡ xs ++ ms) × (ys ≡ ms ++ vs)
two_cuts [] ys us vs e le = (us, refl, e)
two_cuts (x ∷ xs) ys [] vs e le = absurd (omega arith)
two_cuts (x ∷ xs) ys (u ∷ us) vs e le =
    let t = two_cuts xs ys us vs (cc) (omega arith) in
    (t.0, cc, t.2)

-- what the test of the beginning says, and how to pass it
pub begins-true : (xs ys : List ℕ) → begins xs ys ≡ true → Begins xs ys
begins-true xs ys h = (drop (length xs) ys, sym ((starts_is Decides-eqb ys xs (begins xs ys) refl).0 h))

pub begins-from : (xs rest ys : List ℕ) → xs ++ rest ≡ ys → begins xs ys ≡ true
begins-from xs rest ys e = (starts_is Decides-eqb ys xs (begins xs ys) refl).1 rest (sym e)

-- what begins a word that begins a third begins that
pub begins_trans : (xs ys zs : List ℕ) → Begins xs ys → Begins ys zs → Begins xs zs
begins_trans xs ys zs a b = (a.0 ++ b.0, sym (append_assoc xs a.0 b.0) ∙ ap (λ (w : List ℕ). w ++ b.0) a.1 ∙ b.1)

-- of two words that begin a third the shorter begins the longer
pub begins_shorter : (xs ys zs : List ℕ) → Begins xs zs → Begins ys zs → length xs ≤ length ys → Begins xs ys
begins_shorter xs ys zs a b le = let t = two_cuts xs a.0 ys b.0 (a.1 ∙ sym b.1) le in (t.0, sym t.1)

-- a word that begins another and is as long is that word
pub begins_whole : (xs ys : List ℕ) → Begins xs ys → length ys ≤ length xs → xs ≡ ys
begins_whole xs ys b le =
    let none : b.0 ≡ [] = nil_from_length b.0 (omega (arith, ap length b.1, length-append xs b.0)) in
    sym (append-nil xs) ∙ ap (λ (t : List ℕ). xs ++ t) (sym none) ∙ b.1

-- and is no longer than the word that it begins
pub begins_length : (xs ys : List ℕ) → Begins xs ys → length xs ≤ length ys
begins_length xs ys b = omega (arith, ap length b.1, length-append xs b.0)

-- the test of equal words, likewise
pub is_word-true : (xs ys : List ℕ) → is_word xs ys ≡ true → xs ≡ ys
is_word-true xs ys h = (bytes_eq-Decides xs ys).0 h

pub is_word-from : (xs ys : List ℕ) → xs ≡ ys → is_word xs ys ≡ true
is_word-from xs ys e = (bytes_eq-Decides xs ys).1 e

-- a number of a range that passes, and the test that there is one
pub any-true : (f : ℕ → Bool) (a n : ℕ) → list_any f (range_with_len a n) ≡ true → (k : ℕ) × (a ≤ k) × (k < a + n) × (f k ≡ true)
any-true f a zero h = cc
any-true f a (suc n) h =
    elim (or_cases (f a) (list_any f (range_with_len (a + 1) n)) h) [
      | inl t ↦ (a, omega arith, omega arith, t)
      | inr t ↦ (let s = any-true f (a + 1) n t in (s.0, omega (arith, s.1), omega (arith, s.2), s.3))
    ]

pub any-from : (f : ℕ → Bool) (a n k : ℕ) → a ≤ k → k < a + n → f k ≡ true → list_any f (range_with_len a n) ≡ true
any-from f a zero k low high h = absurd (omega arith)
any-from f a (suc n) k low high h =
    elim (cases_eq k a) [
      | inl e ↦ or_left (f a) (list_any f (range_with_len (a + 1) n)) (ap f (sym e) ∙ h)
      | inr ne ↦ or_right (f a) (list_any f (range_with_len (a + 1) n)) (any-from f (a + 1) n k (omega arith) (omega arith) h)
    ]

-- the first number that passes
pub first_passing : (f : ℕ → Bool) (a n k : ℕ) (ks : List ℕ) → filter f (range_with_len a n) ≡ k ∷ ks
    → (a ≤ k) × (k < a + n) × (f k ≡ true) × ((j : ℕ) → a ≤ j → j < a + n → f j ≡ true → k ≤ j)
first_passing f a zero k ks h = cc
first_passing f a (suc n) k ks h =
    let rest = filter f (range_with_len (a + 1) n) in
    elim (cases_Bool (f a)) [
      | inl t ↦
          (let e : a ∷ rest ≡ k ∷ ks = sym (cond-true (f a) (a ∷ rest) rest t) ∙ h in
          let same : a ≡ k = cc in
          (omega arith, omega arith, ap f (sym same) ∙ t, λ j low high g. omega arith))
      | inr t ↦
          (let e : rest ≡ k ∷ ks = sym (cond-false (f a) (a ∷ rest) rest t) ∙ h in
          let s = first_passing f (a + 1) n k ks e in
          (omega (arith, s.0), omega (arith, s.1), s.2, λ j low high g. elim (cases_eq j a) [ inl is ↦ (let clash : true ≡ false = sym g ∙ ap f is ∙ t in cc) | inr ne ↦ s.3 j (omega arith) (omega arith) g ]))
    ]

-- where none is left over none passes
pub none_passing : (f : ℕ → Bool) (a n : ℕ) → filter f (range_with_len a n) ≡ [] → (j : ℕ) → a ≤ j → j < a + n → f j ≡ true → ⊥
none_passing f a zero h j low high g = omega arith
none_passing f a (suc n) h j low high g =
    let rest = filter f (range_with_len (a + 1) n) in
    elim (cases_Bool (f a)) [
      | inl t ↦ (let e : a ∷ rest ≡ [] = sym (cond-true (f a) (a ∷ rest) rest t) ∙ h in cc)
      | inr t ↦
          (let e : rest ≡ [] = sym (cond-false (f a) (a ∷ rest) rest t) ∙ h in
          elim (cases_eq j a) [ inl is ↦ (let clash : true ≡ false = sym g ∙ ap f is ∙ t in cc) | inr ne ↦ none_passing f (a + 1) n e j (omega arith) (omega arith) g ])
    ]

-- what holds of each that passes holds of all that are left over
pub all_passing : (P : ℕ → Type 0) (f : ℕ → Bool) (a n : ℕ) → ((k : ℕ) → a ≤ k → k < a + n → f k ≡ true → P k) → All P (filter f (range_with_len a n))
all_passing P f a zero each = All-nil P
all_passing P f a (suc n) each =
    let rest = filter f (range_with_len (a + 1) n) in
    let further : All P rest = all_passing P f (a + 1) n (λ k low high t. each k (omega arith) (omega arith) t) in
    elim (cases_Bool (f a)) [
      | inl t ↦ subst (All P) (sym (cond-true (f a) (a ∷ rest) rest t)) (All-cons P a rest (each a (omega arith) (omega arith) t) further)
      | inr t ↦ subst (All P) (sym (cond-false (f a) (a ∷ rest) rest t)) further
    ]

-- two tests that agree at each number
pub any_agree : (f g : ℕ → Bool) → ((k : ℕ) → f k ≡ g k) → (ks : List ℕ) → list_any f ks ≡ list_any g ks
any_agree f g same [] = refl
any_agree f g same (k ∷ ks) = rw (same k, any_agree f g same ks) refl
