-- Members of lists that are put together, and the order of such lists.
use Rattle.std.proofs.Common.{◌≡◌, ℕ, zero, suc, ◌+◌, ◌<◌, ◌≤◌, Bool, true, false, List, [], ◌∷◌, map, inl, inr, refl, arith, subst, sym, ap, ◌∙◌}
use Rattle.std.proofs.lemmas.Bool.{cases_eq, cases_Bool, cond-true, cond-false}
use Rattle.std.specs.List.{flat_map, filter, range_with_len}
use Rattle.aho_core.specs.Listing.{IsMember, IsListedBy}
use Rattle.aho_laws.proofs.Listed.{member-left, member-right, member-of_append, listed-append}

pub member-flat_map : {X A : Type 0} (f : X → List A) (xs : List X) (x : X) (a : A) → IsMember xs x → IsMember (f x) a → IsMember (flat_map f xs) a
member-flat_map f [] x a h m = absurd h
member-flat_map f (y ∷ xs) x a h m =
    elim h [
      | inl e ↦ member-left (f y) (flat_map f xs) a (subst (λ z. IsMember (f z) a) e m)
      | inr t ↦ member-right (f y) (flat_map f xs) a (member-flat_map f xs x a t m)
    ]

pub member-of_flat_map : {X A : Type 0} (f : X → List A) (xs : List X) (a : A) → IsMember (flat_map f xs) a → (x : X) × IsMember xs x × IsMember (f x) a
member-of_flat_map f [] a h = absurd h
member-of_flat_map f (y ∷ xs) a h =
    elim (member-of_append (f y) (flat_map f xs) a h) [
      | inl m ↦ (y, inl refl, m)
      | inr m ↦ (let t = member-of_flat_map f xs a m in (t.0, inr t.1, t.2))
    ]

pub member-range : (a n k : ℕ) → a ≤ k → k < a + n → IsMember (range_with_len a n) k
member-range a zero k low high = absurd (omega arith)
member-range a (suc n) k low high = elim (cases_eq k a) [ inl e ↦ inl e | inr apart ↦ inr (member-range (a + 1) n k (omega arith) (omega arith)) ]

pub member-of_range : (a n k : ℕ) → IsMember (range_with_len a n) k → (a ≤ k) × (k < a + n)
member-of_range a zero k h = absurd h
member-of_range a (suc n) k h = elim h [ inl e ↦ (omega arith, omega arith) | inr m ↦ (let t = member-of_range (a + 1) n k m in (omega arith, omega arith)) ]

pub member-filter : {X : Type 0} (test : X → Bool) (xs : List X) (x : X) → test x ≡ true → IsMember xs x → IsMember (filter test xs) x
member-filter test [] x t h = absurd h
member-filter {X} test (y ∷ xs) x t h =
    let rest = filter test xs in
    elim (cases_Bool (test y)) [
      | inl passes ↦
          subst (λ (ys : List X). IsMember ys x) (sym (cond-true (test y) (y ∷ rest) rest passes))
          (elim h [ inl e ↦ inl e | inr m ↦ inr (member-filter test xs x t m) ])
      | inr fails ↦
          subst (λ (ys : List X). IsMember ys x) (sym (cond-false (test y) (y ∷ rest) rest fails))
          (elim h [ inl e ↦ (let clash : test x ≡ false = ap test e ∙ fails in cc) | inr m ↦ member-filter test xs x t m ])
    ]

pub member-of_filter : {X : Type 0} (test : X → Bool) (xs : List X) (x : X) → IsMember (filter test xs) x → (test x ≡ true) × IsMember xs x
member-of_filter test [] x h = absurd h
member-of_filter {X} test (y ∷ xs) x h =
    let rest = filter test xs in
    elim (cases_Bool (test y)) [
      | inl passes ↦
          (let k : IsMember (y ∷ rest) x = subst (λ (ys : List X). IsMember ys x) (cond-true (test y) (y ∷ rest) rest passes) h in
          elim k [ inl e ↦ (ap test e ∙ passes, inl e) | inr m ↦ (let t = member-of_filter test xs x m in (t.0, inr t.1)) ])
      | inr fails ↦
          (let k : IsMember rest x = subst (λ (ys : List X). IsMember ys x) (cond-false (test y) (y ∷ rest) rest fails) h in
          let t = member-of_filter test xs x k in (t.0, inr t.1))
    ]

pub member-map : {X Y : Type 0} (f : X → Y) (xs : List X) (x : X) → IsMember xs x → IsMember (map f xs) (f x)
member-map f [] x h = absurd h
member-map f (y ∷ xs) x h = elim h [ inl e ↦ inl (ap f e) | inr m ↦ inr (member-map f xs x m) ]

pub member-of_map : {X Y : Type 0} (f : X → Y) (xs : List X) (y : Y) → IsMember (map f xs) y → (x : X) × IsMember xs x × (y ≡ f x)
member-of_map f [] y h = absurd h
member-of_map f (x ∷ xs) y h = elim h [ inl e ↦ (x, inl refl, e) | inr m ↦ (let t = member-of_map f xs y m in (t.0, inr t.1, t.2)) ]

-- lists of rising numbers, one after another
pub listed-flat_map_range : {A : Type 0} (Before : A → A → Type 0) (f : ℕ → List A) (a n : ℕ)
    → ((k : ℕ) → IsListedBy Before (f k)) → ((k l : ℕ) (x y : A) → k < l → IsMember (f k) x → IsMember (f l) y → Before x y)
    → IsListedBy Before (flat_map f (range_with_len a n))
listed-flat_map_range Before f a zero each across = tt
listed-flat_map_range Before f a (suc n) each across =
    listed-append Before (f a) (flat_map f (range_with_len (a + 1) n)) (each a) (listed-flat_map_range Before f (a + 1) n each across)
    (λ x y in_a in_rest.
    let found = member-of_flat_map f (range_with_len (a + 1) n) y in_rest in
    let later : a < found.0 = omega (arith, member-of_range (a + 1) n found.0 found.1) in
    across a found.0 x y later in_a found.2)

-- what a test leaves of a list in order is in order
pub listed-filter : {X : Type 0} (Before : X → X → Type 0) (test : X → Bool) (xs : List X) → IsListedBy Before xs → IsListedBy Before (filter test xs)
listed-filter Before test [] h = tt
listed-filter {X} Before test (x ∷ xs) h =
    let rest = filter test xs in
    elim (cases_Bool (test x)) [
      | inl passes ↦
          subst (IsListedBy Before) (sym (cond-true (test x) (x ∷ rest) rest passes))
          ((λ later m. h.0 later (member-of_filter test xs later m).1), listed-filter Before test xs h.1)
      | inr fails ↦ subst (IsListedBy Before) (sym (cond-false (test x) (x ∷ rest) rest fails)) (listed-filter Before test xs h.1)
    ]

pub listed-map : {X Y : Type 0} (Before : Y → Y → Type 0) (f : X → Y) (xs : List X) → IsListedBy (λ x y. Before (f x) (f y)) xs → IsListedBy Before (map f xs)
listed-map Before f [] h = tt
listed-map Before f (x ∷ xs) h = (
  (λ later m. let made = member-of_map f xs later m in subst (Before (f x)) (sym made.2) (h.0 made.0 made.1)),
  listed-map Before f xs h.1,
)

pub listed-range : (a n : ℕ) → IsListedBy (λ j k. j < k) (range_with_len a n)
listed-range a zero = tt
listed-range a (suc n) = ((λ later m. omega (arith, (member-of_range (a + 1) n later m).0)), listed-range (a + 1) n)

-- a weaker order
pub listed-by_weaker : {X : Type 0} (Strong Weak : X → X → Type 0) (xs : List X) → ((x y : X) → Strong x y → Weak x y) → IsListedBy Strong xs → IsListedBy Weak xs
listed-by_weaker Strong Weak [] weaker h = tt
listed-by_weaker Strong Weak (x ∷ xs) weaker h = ((λ later m. weaker x later (h.0 later m)), listed-by_weaker Strong Weak xs weaker h.1)
