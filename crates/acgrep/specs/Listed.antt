-- The bytes of names that are held as vectors.
use Rattle.std.specs.Prelude.{List, Vec, map, ℕ}

-- the bytes of each name
abbrev pub listed_bytes : {Z : Type 0} → List (Vec ℕ Z) → List (List ℕ)
listed_bytes names = map (λ name. name.items) names
