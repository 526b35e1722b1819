-- A secret as encoders of a shell's words write it that look at the byte before each.
use Rattle.std.specs.Prelude.{ℕ, ◌+◌, ◌/◌, ◌%◌, ◌<◌, ◌≤◌, ◌==◌, ◌&&◌, ◌||◌, nat_lt, not, All, Bool, false, List, [], ◌∷◌, ◌++◌, None, Option, Some, length, map, if◌then◌else◌}
use Rattle.secret_forms.specs.Law.{IsHidden}
use Rattle.secret_forms.specs.Spelling.{HidesSpelled, digit, escaped_unless, is_bash_mark, is_control, is_printable, octal_unless, shell_spellings, spelled_by}
use Rattle.secret_forms.specs.declared.bytewise.Digits.TheVariants.{Lower, Upper}
use Rattle.secret_forms.specs.declared.joined_form.Joining.{Joining}
use Rattle.secret_forms.specs.declared.joined_form.Joining.TheVariants.{Bash, Coreutils, CoreutilsAscii, Numbers}
use Rattle.secret_forms.specs.declared.joined_form.Radix.{Radix}
use Rattle.secret_forms.specs.declared.joined_form.Radix.TheVariants.{Hexadecimal, Decimal}
use Rattle.secret_forms.specs.declared.joined_form.Separator.{Separator}
use Rattle.secret_forms.specs.declared.joined_form.Separator.TheVariants.{Space, Colon, Dash, Comma, CommaSpace}

-- whether a byte is written by a letter or its number
abbrev pub is_dollar_byte : Joining → ℕ → Bool
is_dollar_byte Bash byte = false
is_dollar_byte Coreutils byte = is_control byte
is_dollar_byte CoreutilsAscii byte = not (is_printable byte)
is_dollar_byte (Numbers radix separator) byte = false

-- a byte within single quotes, or within `$'` and `'`
unfoldable pub named_byte : Bool → ℕ → List ℕ
named_byte is_kept byte =
    if byte == 39 then 39 ∷ 92 ∷ 39 ∷ 39 ∷ [] else if byte == 7 then 92 ∷ 97 ∷ [] else if byte == 8 then 92 ∷ 98 ∷ []
    else if byte == 9 then 92 ∷ 116 ∷ [] else if byte == 10 then 92 ∷ 110 ∷ [] else if byte == 11 then 92 ∷ 118 ∷ []
    else if byte == 12 then 92 ∷ 102 ∷ [] else if byte == 13 then 92 ∷ 114 ∷ [] else octal_unless is_kept byte

-- a byte by its decimal digits
unfoldable pub decimal_byte : ℕ → List ℕ
decimal_byte byte =
    if nat_lt byte 10 then (48 + byte) ∷ [] else if nat_lt byte 100 then (48 + byte / 10) ∷ (48 + byte % 10) ∷ []
    else (48 + byte / 100) ∷ (48 + byte / 10 % 10) ∷ (48 + byte % 10) ∷ []

-- the number of a byte
abbrev pub radix_byte : Radix → ℕ → List ℕ
radix_byte (Hexadecimal digits) byte = digit digits (byte / 16) ∷ digit digits (byte % 16) ∷ []
radix_byte Decimal byte = decimal_byte byte

-- a byte by itself
unfoldable pub alone_byte : Joining → ℕ → List ℕ
alone_byte Bash byte = escaped_unless (not (is_bash_mark byte)) byte
alone_byte Coreutils byte = named_byte (not (is_dollar_byte Coreutils byte)) byte
alone_byte CoreutilsAscii byte = named_byte (not (is_dollar_byte CoreutilsAscii byte)) byte
alone_byte (Numbers radix separator) byte = radix_byte radix byte

-- whether a backslash stands before a byte behind another: before `~` behind `=` and `:`
abbrev pub escapes_tilde : Joining → (before byte : ℕ) → Bool
escapes_tilde Bash before byte = (byte == 126) && ((before == 61) || (before == 58))
escapes_tilde _ before byte = false

-- what begins numbers, unless the byte before is one
abbrev pub opening_marks : Bool → List ℕ
opening_marks is_open = if is_open then [] else 39 ∷ 36 ∷ 39 ∷ []

-- what ends numbers before a byte: a quote ends them by itself
abbrev pub closing_marks : ℕ → List ℕ
closing_marks byte = if byte == 39 then [] else 39 ∷ 39 ∷ []

-- what separates two numbers
abbrev pub separator_marks : Separator → List ℕ
separator_marks Space = 32 ∷ []
separator_marks Colon = 58 ∷ []
separator_marks Dash = 45 ∷ []
separator_marks Comma = 44 ∷ []
separator_marks CommaSpace = 44 ∷ 32 ∷ []

-- what separates two bytes that are neither within `$'` and `'`
abbrev pub separating_marks : Joining → List ℕ
separating_marks (Numbers radix separator) = separator_marks separator
separating_marks _ = []

-- what stands between two bytes
abbrev pub marks_between : Joining → (before byte : ℕ) → List ℕ
marks_between joining before byte =
    if is_dollar_byte joining byte then opening_marks (is_dollar_byte joining before)
    else if is_dollar_byte joining before then closing_marks byte
    else if escapes_tilde joining before byte then 92 ∷ [] else separating_marks joining

-- what stands before a byte, be it the first or not
abbrev pub marks_before : Joining → Option ℕ → ℕ → List ℕ
marks_before joining None byte = []
marks_before joining (Some before) byte = marks_between joining before byte

-- bytes behind another, or from the first on
abbrev pub joined_from : Joining → Option ℕ → List ℕ → List ℕ
joined_from joining before [] = []
joined_from joining before (byte ∷ bytes) = marks_before joining before byte ++ (alone_byte joining byte ++ joined_from joining (Some byte) bytes)

abbrev pub joined_word : Joining → List ℕ → List ℕ
joined_word joining bytes = joined_from joining None bytes

-- a secret as each of some encoders writes it
abbrev pub joined_words : List Joining → List ℕ → List (List ℕ)
joined_words joinings secret = map (λ joining. joined_word joining secret) joinings

-- these encoders
abbrev pub joinings : List Joining
joinings =
    Bash ∷ Coreutils ∷ CoreutilsAscii ∷ (map (Numbers (Hexadecimal Lower)) (Space ∷ Colon ∷ Dash ∷ [])
    ++ (map (Numbers (Hexadecimal Upper)) (Space ∷ Colon ∷ Dash ∷ []) ++ map (Numbers Decimal) (Space ∷ Comma ∷ CommaSpace ∷ [])))

-- the patterns of a secret in a shell's words
abbrev pub shell_patterns : List ℕ → List (List ℕ)
shell_patterns secret = spelled_by shell_spellings secret ++ joined_words joinings secret

-- of what is written of other bytes and the secret, the characters at the end that are the secret's are in a pattern, whatever stands behind
abbrev pub HidesJoined : List (List ℕ) → List ℕ → Joining → Type 0
HidesJoined patterns secret joining =
    (first : Option ℕ) (before after ahead behind : List ℕ) (place : ℕ)
    → length (joined_from joining first (before ++ secret)) ≤ place + length (joined_word joining secret)
    → place < length (joined_from joining first (before ++ secret))
    → IsHidden patterns (ahead ++ (joined_from joining first (before ++ (secret ++ after)) ++ behind)) (length ahead + place)

-- by encoders that write each byte on its own, and by those that look at the one before it
abbrev pub HidesShell : List (List ℕ) → List ℕ → Type 0
HidesShell patterns secret = All (HidesSpelled patterns secret) shell_spellings × All (HidesJoined patterns secret) joinings
