-- Members of lists, as a walk comes along them.
use Rattle.std.proofs.Common.{◌≡◌, ℕ, zero, suc, List, [], ◌∷◌, Some, sym, inl, inr}
use Rattle.std.proofs.lemmas.Option.{none-some, same_Some}
use Rattle.std.specs.List.{slice_get}
use Rattle.aho_core.specs.Listing.{IsMember}

-- an element by its number is a member
pub member-at : {A : Type 0} (xs : List A) (i : ℕ) (x : A) → slice_get xs i ≡ Some x → IsMember xs x
member-at [] i x h = absurd (none-some _ h)
member-at (y ∷ xs) zero x h = inl (sym (same_Some _ _ h))
member-at (y ∷ xs) (suc i) x h = inr (member-at xs i x h)
