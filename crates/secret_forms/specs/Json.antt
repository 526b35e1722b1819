-- A secret within a JSON string, of the text's own encoding or of ASCII alone.
use Rattle.std.specs.Prelude.{ℕ, ◌+◌, ◌-◌, ◌/◌, ◌%◌, ◌==◌, ◌||◌, Bool, true, List, [], ◌∷◌, ◌++◌, chars, encode_utf8, flat_map, map, nat_lt, if◌then◌else◌}
use Rattle.std.specs.Str.{is_utf8}
use Rattle.secret_forms.specs.Law.{HidesEach}
use Rattle.secret_forms.specs.Spelling.{json_byte, json_unit, spelled_by}
use Rattle.secret_forms.specs.declared.bytewise.Digits.{Digits}
use Rattle.secret_forms.specs.declared.bytewise.Digits.TheVariants.{Upper, Lower}
use Rattle.secret_forms.specs.declared.bytewise.Marks.{Marks}
use Rattle.secret_forms.specs.declared.bytewise.Marks.TheVariants.{Kept, Slash, Markup, SlashAndMarkup, Gson, Dotnet, Html, SlashAndHtml}
use Rattle.secret_forms.specs.declared.bytewise.Feeds.{Feeds}
use Rattle.secret_forms.specs.declared.bytewise.Feeds.TheVariants.{Letters, Numbers}
use Rattle.secret_forms.specs.declared.bytewise.Numbered.{Numbered}
use Rattle.secret_forms.specs.declared.bytewise.Numbered.TheVariants.{Delete, Beyond, Separators}
use Rattle.secret_forms.specs.declared.bytewise.Json.{Json}
use Rattle.secret_forms.specs.declared.bytewise.Spelling.{Spelling}
use Rattle.secret_forms.specs.declared.bytewise.Spelling.TheVariants.{Json as JsonString}

-- the two halves of a character by how far it is beyond the first 65,536
abbrev pub high_half : ℕ → ℕ
high_half above = 55296 + above / 1024

abbrev pub low_half : ℕ → ℕ
low_half above = 56320 + above % 1024

-- such a character
abbrev pub json_pair : Digits → ℕ → List ℕ
json_pair digits above = json_unit digits (high_half above) ++ json_unit digits (low_half above)

-- whether a character beyond the first 127 is written by its number
abbrev pub has_number : Numbered → ℕ → Bool
has_number Delete character = true
has_number Beyond character = nat_lt 127 character
has_number Separators character = (character == 8232) || (character == 8233)

-- such a character by its number
unfoldable pub json_number : Digits → ℕ → List ℕ
json_number digits character = if nat_lt character 65536 then json_unit digits character else json_pair digits (character - 65536)

-- a character of a JSON string
unfoldable pub json_char : Json → ℕ → List ℕ
json_char json character =
    if nat_lt character 127 then json_byte json character
    else if has_number json.numbered character then json_number json.digits character
    else if nat_lt character 128 then json_byte json character
    else encode_utf8 character

-- characters within a JSON string of ASCII alone
abbrev pub numbered : Json → List ℕ → List ℕ
numbered json characters = flat_map (json_char json) characters

-- characters as each of some encoders writes them
abbrev pub numbered_by : List Json → List ℕ → List (List ℕ)
numbered_by ways characters = map (λ json. numbered json characters) ways

-- a way to write all characters beyond ASCII by their numbers
abbrev pub way_of : Digits → Marks → Json
way_of digits marks = record { marks = marks; mark_digits = digits; digits = digits; feeds = Letters; numbered = Delete }

-- with digits in both cases
abbrev pub ways_of : Marks → List Json
ways_of marks = way_of Lower marks ∷ way_of Upper marks ∷ []

-- a way of PHP, which Perl and Ruby have with some marks
abbrev pub php_way : Numbered → Marks → Json
php_way numbered marks = record { marks = marks; mark_digits = Upper; digits = Lower; feeds = Letters; numbered = numbered }

-- a way of Go
abbrev pub go_way : Feeds → Marks → Json
go_way feeds marks = record { marks = marks; mark_digits = Lower; digits = Lower; feeds = feeds; numbered = Separators }

-- the encoders of JSON
abbrev pub json_ways : List Json
json_ways =
    flat_map ways_of (Kept ∷ Slash ∷ Markup ∷ SlashAndMarkup ∷ Gson ∷ Dotnet ∷ Html ∷ SlashAndHtml ∷ [])
    ++ (map (php_way Beyond) (Kept ∷ Slash ∷ Markup ∷ SlashAndMarkup ∷ Html ∷ SlashAndHtml ∷ [])
    ++ (map (php_way Separators) (Kept ∷ Slash ∷ Markup ∷ SlashAndMarkup ∷ Html ∷ SlashAndHtml ∷ [])
    ++ (go_way Letters Markup ∷ go_way Numbers Markup ∷ go_way Numbers Kept ∷ [])))

-- the same encoders, where characters beyond ASCII stand as they are
abbrev pub json_spellings : List Spelling
json_spellings = map (λ json. JsonString json) json_ways

-- the patterns of a secret: of its bytes, and of its characters where it has them
abbrev pub json_patterns : List ℕ → List (List ℕ)
json_patterns secret = spelled_by json_spellings secret ++ (if is_utf8 secret then numbered_by json_ways (chars secret) else [])

-- no character that belongs to the secret is outside the patterns, where an encoder writes each character on its own
abbrev pub HidesCharacters : List (List ℕ) → List ℕ → Json → Type 0
HidesCharacters patterns secret json = HidesEach (json_char json) patterns (chars secret)
