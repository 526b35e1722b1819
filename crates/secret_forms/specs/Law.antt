-- What a form of a secret promises: of what was encoded with the secret within, no character that holds a bit of the secret is outside the patterns.
use Rattle.std.specs.Prelude.{◌≡◌, ℕ, ◌+◌, ◌*◌, ◌<◌, ◌≤◌, Contains, List, ◌++◌, flat_map, length, slice_index}

-- in an encoding by characters of `width` bits each, the character at a place holds a bit of the `size` bytes behind the first `before` ones
pub record HoldsBit (width before size place : ℕ) : Type 0 where
  pub after_start : 8 * before < width * (place + 1)
  pub before_end : width * place < 8 * (before + size)

-- the character at a place of a text lies in an occurrence of some pattern
pub record IsHidden (patterns : List (List ℕ)) (text : List ℕ) (place : ℕ) : Type 0 where
  pub pattern : List ℕ
  pub ahead : List ℕ
  pub behind : List ℕ
  pub listed : Contains patterns pattern
  pub occurs : text ≡ ahead ++ (pattern ++ behind)
  pub after_start : length ahead ≤ place
  pub before_end : place < length ahead + length pattern

-- the numbers are bytes
abbrev pub IsOfBytes : List ℕ → Type 0
IsOfBytes bytes = (at : ℕ) → slice_index bytes at < 256

-- wherever the encoding of `before`, the secret and `after` stands in a text, each of its characters that holds a bit of the secret is hidden
abbrev pub HidesBits : ℕ → (List ℕ → List ℕ) → List (List ℕ) → List ℕ → Type 0
HidesBits width encode patterns secret =
    (before after ahead behind : List ℕ) (place : ℕ) → IsOfBytes after → HoldsBit width (length before) (length secret) place
    → IsHidden patterns (ahead ++ (encode (before ++ (secret ++ after)) ++ behind)) (length ahead + place)

-- the same where each byte, or each character, is written on its own: no character that belongs to the secret is outside the patterns
abbrev pub HidesEach : (ℕ → List ℕ) → List (List ℕ) → List ℕ → Type 0
HidesEach write patterns secret =
    (before after ahead behind : List ℕ) (place : ℕ) → length (flat_map write before) ≤ place
    → place < length (flat_map write before) + length (flat_map write secret)
    → IsHidden patterns (ahead ++ (flat_map write (before ++ (secret ++ after)) ++ behind)) (length ahead + place)
