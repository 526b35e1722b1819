-- A secret as hexadecimal digits.
use Rattle.std.specs.Prelude.{ℕ, List, [], ◌∷◌}
use Rattle.hex.specs.Hex.{encode_lower, encode_upper}

-- the digits in lower case, and in upper case
abbrev pub hex_patterns : List ℕ → List (List ℕ)
hex_patterns secret = encode_lower secret ∷ encode_upper secret ∷ []
