-- Members of lists, by their places.
use Rattle.std.proofs.Common.{◌≡◌, ◌↔◌, ℕ, zero, suc, ◌<◌, ◌≤◌, List, [], ◌∷◌, All, length, get_or, take, sym, subst, inl, inr, arith}
use Rattle.std.specs.List.Sorted.{IsNonDecreasingBy, IsPermutation}
use Rattle.std.proofs.lemmas.List.Sorted.{All-permutation, IsPermutation-sym}
use Rattle.aho_core.specs.Listing.{IsMember}
use Rattle.secret_rules.proofs.Owners.{member-get_or}

-- members after a sort
pub member-permuted : {X : Type 0} (xs ys : List X) → IsPermutation xs ys → (x : X) → IsMember ys x ↔ IsMember xs x
member-permuted {X = X} xs ys moved = λ x. (from xs ys moved x, from ys xs (IsPermutation-sym xs ys moved) x)
  where
    all-members : (zs : List X) → All (IsMember zs) zs
    all-members zs = λ k d within. member-get_or zs k d within

    one : (P : X → Type 0) (zs : List X) (x : X) → All P zs → IsMember zs x → P x
    one P [] x all is = absurd is
    one P (z ∷ zs) x all (inl same) = subst P (sym same) (all 0 z (omega arith))
    one P (z ∷ zs) x all (inr later) = one P zs x (λ k d within. all (suc k) d (omega (arith, within))) later

    from : (xs ys : List X) → IsPermutation xs ys → (x : X) → IsMember ys x → IsMember xs x
    from xs ys moved x is = one (IsMember xs) ys x (All-permutation (IsMember xs) xs ys moved (all-members xs)) is

-- one of the first of a list stands at an earlier place
pub member-of_take : {X : Type 0} (xs : List X) (n : ℕ) (x d : X) → IsMember (take n xs) x → (k : ℕ) × (k < n) × (k < length xs) × (get_or xs k d ≡ x)
member-of_take [] zero x d there = absurd there
member-of_take [] (suc n) x d there = absurd there
member-of_take (y ∷ xs) zero x d there = absurd there
member-of_take (y ∷ xs) (suc n) x d there =
    elim there [
      | inl e ↦ (0, omega arith, omega arith, sym e)
      | inr later ↦ (let p = member-of_take xs n x d later in (suc p.0, omega (arith, p.1), omega (arith, p.2), p.3))
    ]

pub member-take : {X : Type 0} (xs : List X) (n : ℕ) (x : X) → IsMember (take n xs) x → IsMember xs x
member-take xs n x there = (let p = member-of_take xs n x x there in subst (IsMember xs) p.3 (member-get_or xs p.0 x p.2))

-- in order by a number the first ones have no greater number than what follows them
pub take-ordered : {X : Type 0} (key : X → ℕ) (xs : List X) (n : ℕ) (x d : X) → IsNonDecreasingBy key xs → n < length xs → IsMember (take n xs) x → key x ≤ key (get_or xs n d)
take-ordered key xs n x d ordered within there =
    (let p = member-of_take xs n x d there in subst (λ z. key z ≤ key (get_or xs n d)) p.3 (ordered p.0 n d (omega (arith, p.1)) within))
