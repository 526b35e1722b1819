-- Arguments at even and at odd places.
use Rattle.std.proofs.Common.{arith, ◌≡◌, ℕ, ◌%◌, ◌<◌, List, [], ◌∷◌, length, map, ap, sym, ◌∙◌, refl}
use Prim.Native.Nat.{suc}
use denote.Ref.{Bor}
use Rattle.aho_core.specs.Replacement.{pieces_of}
use Rattle.tool_parts.specs.Asked.{at_even, at_odd}

-- an even number of arguments below two is none
pub none_at_even : {A : Type 0} (f : A → List ℕ) (ws : List A) → length ws % 2 ≡ 0 → length ws < 2 → at_even (map f ws) ≡ []
none_at_even f [] even few = refl
none_at_even f (w ∷ []) even few = absurd (omega (arith, even))
none_at_even f (w ∷ v ∷ ws) even few = absurd (omega (arith, few))

pub none_at_odd : {A : Type 0} (f : A → List ℕ) (ws : List A) → length ws < 2 → at_odd (map f ws) ≡ []
none_at_odd f [] few = refl
none_at_odd f (w ∷ []) few = refl
none_at_odd f (w ∷ v ∷ ws) few = absurd (omega (arith, few))

-- an even number of arguments has as many at odd places as at even ones
pub as_many : {A : Type 0} (f : A → List ℕ) (ws : List A) → length ws % 2 ≡ 0 → length (at_even (map f ws)) ≡ length (at_odd (map f ws))
as_many f [] even = refl
as_many f (w ∷ []) even = absurd (omega (arith, even))
as_many f (w ∷ v ∷ ws) even = ap (λ n. suc n) (as_many f ws (omega (arith, even)))

-- what a slice of the arguments shows
pub shown : {items now : List (Bor (List ℕ))} {ws : List (List ℕ)} → now ≡ items → pieces_of items ≡ ws → ws ≡ pieces_of now
shown is same = sym (ap pieces_of is ∙ same)
