-- A secret within base64: what it decides of the encoding of bytes in which it stands.
use Rattle.std.specs.Prelude.{ℕ, ◌+◌, ◌-◌, ◌*◌, ◌/◌, ◌%◌, ◌==◌, List, [], ◌∷◌, ◌++◌, drop, length, map, slice_range, if◌then◌else◌}
use Rattle.std.specs.List.{range_with_len}
use Rattle.base64.specs.declared.engine.general_purpose.GeneralPurpose.{GeneralPurpose}
use Rattle.base64.specs.Engines.{standard_no_pad, url_safe_no_pad}
use Rattle.base64.specs.GeneralPurpose.{encode_of}

-- the secret between other bytes: `shift` of them ahead, of which the last is `before`
abbrev pub secret_within : (shift before : ℕ) → (secret after : List ℕ) → List ℕ
secret_within shift before secret after = drop (2 - shift) (0 ∷ before ∷ []) ++ (secret ++ after)

-- a text without its first `front` and its last `back` characters
abbrev pub trimmed : (front back : ℕ) → List ℕ → List ℕ
trimmed front back text = slice_range text front (length text - back)

-- how many characters of a message of `shift` bytes ahead have bits of these bytes
abbrev pub front_of : ℕ → ℕ
front_of shift = (4 * shift + 2) / 3

-- how many bytes of the last group are the secret's, or stand ahead of it
abbrev pub rest_of : ℕ → List ℕ → ℕ
rest_of shift secret = (shift + length secret) % 3

-- whether the last character that holds bits of the secret holds other bits too: 1 if so
abbrev pub back_of : ℕ → ℕ
back_of rest = if rest == 0 then 0 else 1

-- how many values the bits have that stand ahead of the secret in its first character
abbrev pub values_ahead : ℕ → ℕ
values_ahead shift = if shift == 0 then 0 else if shift == 1 then 4 else 16

-- how many values the bits have that stand behind the secret in its last character
abbrev pub values_behind : ℕ → ℕ
values_behind rest = if rest == 0 then 0 else if rest == 1 then 16 else 4

-- the byte that begins with such bits
abbrev pub byte_behind : (rest bits : ℕ) → ℕ
byte_behind rest bits = if rest == 1 then bits * 16 else bits * 64

-- the characters that the secret alone decides
abbrev pub core_of : GeneralPurpose → List ℕ → ℕ → List ℕ
core_of engine secret shift =
    trimmed (front_of shift) (back_of (rest_of shift secret)) (encode_of engine (secret_within shift 0 secret []))

-- these and the one ahead, in which the secret begins behind these bits
abbrev pub with_ahead : GeneralPurpose → List ℕ → ℕ → ℕ → List ℕ
with_ahead engine secret shift bits =
    trimmed shift (back_of (rest_of shift secret)) (encode_of engine (secret_within shift bits secret []))

-- these and the one behind, in which the secret ends before these bits
abbrev pub with_behind : GeneralPurpose → List ℕ → ℕ → ℕ → List ℕ
with_behind engine secret shift bits =
    trimmed (front_of shift) 1 (encode_of engine (secret_within shift 0 secret (byte_behind (rest_of shift secret) bits ∷ [])))

-- for each value of the bits ahead, and of the bits behind
abbrev pub all_ahead : GeneralPurpose → List ℕ → ℕ → List (List ℕ)
all_ahead engine secret shift = map (with_ahead engine secret shift) (range_with_len 0 (values_ahead shift))

abbrev pub all_behind : GeneralPurpose → List ℕ → ℕ → List (List ℕ)
all_behind engine secret shift = map (with_behind engine secret shift) (range_with_len 0 (values_behind (rest_of shift secret)))

-- the patterns of a shift: so many bytes, of three, stand ahead in the group in which the secret begins
unfoldable pub shift_patterns : GeneralPurpose → List ℕ → ℕ → List (List ℕ)
shift_patterns engine secret shift = core_of engine secret shift ∷ (all_ahead engine secret shift ++ all_behind engine secret shift)

-- the patterns of an alphabet
abbrev pub alphabet_patterns : GeneralPurpose → List ℕ → List (List ℕ)
alphabet_patterns engine secret = shift_patterns engine secret 0 ++ (shift_patterns engine secret 1 ++ shift_patterns engine secret 2)

-- the patterns of the standard alphabet, and of that of URLs
abbrev pub base64_patterns : List ℕ → List (List ℕ)
base64_patterns secret = alphabet_patterns standard_no_pad secret ++ alphabet_patterns url_safe_no_pad secret
