-- A secret as the `escape` of JavaScript writes it, character by character.
use Rattle.std.specs.Prelude.{ℕ, ◌-◌, ◌/◌, ◌%◌, All, IsUtf8, List, [], ◌∷◌, ◌++◌, chars, flat_map, nat_lt, if◌then◌else◌}
use Rattle.std.specs.Str.{is_utf8}
use Rattle.secret_forms.specs.Json.{high_half, low_half}
use Rattle.secret_forms.specs.Law.{HidesEach}
use Rattle.secret_forms.specs.Spelling.{HidesSpelled, digit, spelled_by, url_byte, url_spellings}
use Rattle.secret_forms.specs.declared.bytewise.Digits.TheVariants.{Upper}
use Rattle.secret_forms.specs.declared.bytewise.Kept.TheVariants.{Escape}
use Rattle.secret_forms.specs.declared.bytewise.Space.TheVariants.{Encoded}

-- a character, or half of a pair, by its number: `%u` and four digits
abbrev pub escape_unit : ℕ → List ℕ
escape_unit unit =
    37 ∷ 117 ∷ digit Upper (unit / 4096) ∷ digit Upper (unit / 256 % 16) ∷ digit Upper (unit / 16 % 16) ∷ digit Upper (unit % 16) ∷ []

-- a character by how far it is beyond the first 65,536
abbrev pub escape_pair : ℕ → List ℕ
escape_pair above = escape_unit (high_half above) ++ escape_unit (low_half above)

-- a character: up to 255 as a byte of a URL
unfoldable pub escape_char : ℕ → List ℕ
escape_char character =
    if nat_lt character 256 then url_byte Escape Encoded Upper character
    else if nat_lt character 65536 then escape_unit character
    else escape_pair (character - 65536)

-- characters
abbrev pub escaped : List ℕ → List ℕ
escaped characters = flat_map escape_char characters

-- the pattern of a secret that has characters
abbrev pub escape_patterns : List ℕ → List (List ℕ)
escape_patterns secret = if is_utf8 secret then escaped (chars secret) ∷ [] else []

-- the patterns of a secret in URLs: of its bytes, and of its characters where it has them
abbrev pub url_patterns : List ℕ → List (List ℕ)
url_patterns secret = spelled_by url_spellings secret ++ escape_patterns secret

-- percent-encoded byte by byte, and by the characters of a secret of whole ones
abbrev pub HidesUrl : List (List ℕ) → List ℕ → Type 0
HidesUrl patterns secret =
    All (HidesSpelled patterns secret) url_spellings × (IsUtf8 secret → HidesEach escape_char patterns (chars secret))
