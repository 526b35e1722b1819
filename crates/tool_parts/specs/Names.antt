-- The names of files among the arguments.
use Rattle.std.specs.Prelude.{◌≡◌, ◌⊎◌, ℕ, Bool, List, [], ◌∷◌, Option, codes, map, option_map}
use Rattle.std.specs.Borrow.{Bor}
use Rattle.std.specs.Str.{bytes_eq}

-- '-' is standard input
abbrev pub is_input : List ℕ → Bool
is_input name = bytes_eq name (codes "-")

-- standard input where none is given
abbrev pub or_input : List (List ℕ) → List (List ℕ)
or_input [] = codes "-" ∷ []
or_input (name ∷ names) = name ∷ names

-- the bytes of each name
abbrev pub name_bytes : List (Bor (List ℕ)) → List (List ℕ)
name_bytes names = map (λ name. name.now) names

-- the bytes of a name, where there is one
abbrev pub given_name : Option (Bor (List ℕ)) → Option (List ℕ)
given_name name = option_map (λ name. name.now) name

-- a name is one of these
abbrev pub IsOneOf : List ℕ → List (List ℕ) → Type 0
IsOneOf name [] = ⊥
IsOneOf name (first ∷ names) = (name ≡ first) ⊎ IsOneOf name names
