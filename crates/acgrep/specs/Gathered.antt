-- What several things give, one after another, where each may read from standard input.
use Rattle.std.specs.Prelude.{◌++◌, ◌∷◌, ◌≡◌, List, Option, [], ℕ}

-- `Gives one left left'` says what one of them gives, where the input has `left` before and `left'` then
module _ {A B : Type 0} (Gives : A → (left left' : Option (List ℕ)) → List B → Type 0) where
  abbrev pub AllGive : List A → (left left' : Option (List ℕ)) → List B → Type 0
  AllGive [] left left' all = (left' ≡ left) × (all ≡ [])
  AllGive (one ∷ others) left left' all = (between : Option (List ℕ)) × (first : List B) × (rest : List B)
      × (all ≡ first ++ rest) × Gives one left between first × AllGive others between left' rest

-- what one gives is added to what others gave
pub record AddsGiven {B : Type 0} (Gives : List B → Type 0) (old new : List B) : Type 0 where
  pub more : List B
  pub grown : new ≡ old ++ more
  pub of : Gives more
