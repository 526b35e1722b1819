-- Words of one length that are made longer by a byte keep their order.
use Rattle.std.proofs.Common.{ℕ, ◌<◌, inl, inr, List, [], ◌∷◌, ◌++◌, refl}
use Rattle.aho_levels.specs.Meaning.{IsLess}

-- of two words that differ the first byte that does decides, whatever follows
pub less-longer : (u w : List ℕ) (x y : ℕ) → IsLess u w → IsLess (u ++ x ∷ []) (w ++ y ∷ [])
less-longer u [] x y less = absurd less
less-longer [] (b ∷ w) x y less = absurd less
less-longer (a ∷ u) (b ∷ w) x y (inl lt) = inl lt
less-longer (a ∷ u) (b ∷ w) x y (inr same) = inr (same.0, less-longer u w x y same.1)

-- of equal ones the last byte
pub less-last : (u : List ℕ) (x y : ℕ) → x < y → IsLess (u ++ x ∷ []) (u ++ y ∷ [])
less-last [] x y lt = inl lt
less-last (a ∷ u) x y lt = inr (refl, less-last u x y lt)
