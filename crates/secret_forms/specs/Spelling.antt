-- How encoders that work byte by byte write each byte.
use Rattle.std.specs.Prelude.{ℕ, ◌+◌, not, ◌/◌, ◌%◌, ◌==◌, ◌&&◌, ◌||◌, Bool, true, false, codes, List, [], ◌∷◌, ◌++◌, map, nat_lt, if◌then◌else◌}
use Rattle.std.specs.Char.{is_ascii_alphanumeric}
use Rattle.std.specs.List.{flat_map, list_any}
use Rattle.secret_forms.specs.Law.{HidesEach}
use Rattle.secret_forms.specs.declared.bytewise.Kept.{Kept}
use Rattle.secret_forms.specs.declared.bytewise.Kept.TheVariants.{Nothing, Unreserved, Slash, Component, Uri, Form, Fewest, Dotnet, Query, Path, User, GoUser, GoSegment, GoPath, GoFragment, Alphanumeric, Turned, Escape, PlainPath, PlainQuery, JavaQuery, JavaUser, Fragment}
use Rattle.secret_forms.specs.declared.bytewise.Beyond.{Beyond}
use Rattle.secret_forms.specs.declared.bytewise.Beyond.TheVariants.{Encoded as EncodedBeyond, Kept as KeptBeyond}
use Rattle.secret_forms.specs.declared.bytewise.Space.{Space}
use Rattle.secret_forms.specs.declared.bytewise.Space.TheVariants.{Encoded, Plus}
use Rattle.secret_forms.specs.declared.bytewise.Digits.{Digits}
use Rattle.secret_forms.specs.declared.bytewise.Digits.TheVariants.{Upper, Lower}
use Rattle.secret_forms.specs.declared.bytewise.Marks.{Marks}
use Rattle.secret_forms.specs.declared.bytewise.Marks.TheVariants.{Kept as KeptMarks, Slash as SlashMark, Markup, SlashAndMarkup, Gson, Dotnet as DotnetMarks, Html, SlashAndHtml}
use Rattle.secret_forms.specs.declared.bytewise.Json.{Json}
use Rattle.secret_forms.specs.declared.bytewise.Feeds.{Feeds}
use Rattle.secret_forms.specs.declared.bytewise.Feeds.TheVariants.{Letters as LetterFeeds, Numbers as NumberFeeds}
use Rattle.secret_forms.specs.declared.bytewise.Backslashed.{Backslashed}
use Rattle.secret_forms.specs.declared.bytewise.Backslashed.TheVariants.{Nothing as NoBackslash, Alone, Single as SingleMark, Double as DoubleMark, Space as SpaceMark}
use Rattle.secret_forms.specs.declared.bytewise.Letters.{Letters}
use Rattle.secret_forms.specs.declared.bytewise.Letters.TheVariants.{Nothing as NoLetters, Three, Five, Seven}
use Rattle.secret_forms.specs.declared.bytewise.Numbers.{Numbers}
use Rattle.secret_forms.specs.declared.bytewise.Numbers.TheVariants.{Hexadecimal as HexadecimalNumbers, Octal, Kept as KeptNumbers}
use Rattle.secret_forms.specs.declared.bytewise.Literal.{Literal}
use Rattle.secret_forms.specs.declared.bytewise.Quotes.{Quotes}
use Rattle.secret_forms.specs.declared.bytewise.Quotes.TheVariants.{Kept as KeptQuotes, Mixed, Named, DoubleAlone, Canonical, Padded, Decimal, Hexadecimal, DecimalMarks, HexadecimalMarks}
use Rattle.secret_forms.specs.declared.bytewise.Quoting.{Quoting}
use Rattle.secret_forms.specs.declared.bytewise.Quoting.TheVariants.{Single, SingleByDouble, Double, Backslashes, BashBackslashes, BashTildes, Every, EveryCharacter, RegexMarks, Dollar, DollarAscii, Git, DoubledSingle, DoubledDouble, Ruby, Zsh, Fish}
use Rattle.secret_forms.specs.declared.bytewise.Spelling.{Spelling}
use Rattle.secret_forms.specs.declared.bytewise.Spelling.TheVariants.{Url, Json as JsonString, Xml, Shell, Literal as LiteralString}

-- the marks that stand in a URL as they are
abbrev pub kept_marks : Kept → List ℕ
kept_marks Nothing = []
kept_marks Unreserved = codes "-._~"
kept_marks Slash = codes "-._~/"
kept_marks Component = codes "-._~!'()*"
kept_marks Uri = codes "-._~!'()*;,/?:@&=+$#"
kept_marks Form = codes "-._*"
kept_marks Fewest = codes "-._"
kept_marks Dotnet = codes "-._!*()"
kept_marks Query = codes "-._~!()*;,/?:@&=+$%[\\]^`{|}"
kept_marks Path = codes "-._~!'()*;,/:@&=+$%[\\]^|"
kept_marks User = codes "-._~!'()*,&+$%"
kept_marks GoUser = codes "-._~$&+,;="
kept_marks GoSegment = codes "-._~$&+:=@"
kept_marks GoPath = codes "-._~$&+,/:;=@"
kept_marks GoFragment = codes "-._~$&+,/:;=?@!()*"
kept_marks Alphanumeric = []
kept_marks Turned = codes "-._~!'()*;,/:@&=+$%[\\]^|"
kept_marks Escape = codes "-._*@+/"
kept_marks (PlainPath beyond) = codes "-._~!'()*;,/:@&=+$"
kept_marks (PlainQuery beyond) = codes "-._~!'()*;,/?:@&=+$"
kept_marks (JavaQuery beyond) = codes "-._~!'()*;,/?:@&=+$[]"
kept_marks (JavaUser beyond) = codes "-._~!'()*;,:&=+$"
kept_marks (Fragment beyond) = codes "-._~!'()*;,/?:@&=+$#%[\\]^{|}"

-- whether bytes above 127 stand as they are
abbrev pub is_kept_beyond : Beyond → Bool
is_kept_beyond EncodedBeyond = false
is_kept_beyond KeptBeyond = true

-- whether they do so in a URL
abbrev pub keeps_beyond : Kept → Bool
keeps_beyond (PlainPath beyond) = is_kept_beyond beyond
keeps_beyond (PlainQuery beyond) = is_kept_beyond beyond
keeps_beyond (JavaQuery beyond) = is_kept_beyond beyond
keeps_beyond (JavaUser beyond) = is_kept_beyond beyond
keeps_beyond (Fragment beyond) = is_kept_beyond beyond
keeps_beyond _ = false

-- whether letters and digits stand in a URL as they are
abbrev pub keeps_letters : Kept → Bool
keeps_letters Nothing = false
keeps_letters _ = true

-- whether a byte stands in a URL as it is
abbrev pub is_unencoded : Kept → ℕ → Bool
is_unencoded kept byte =
    ((keeps_letters kept && is_ascii_alphanumeric byte) || list_any (λ one. one == byte) (kept_marks kept)) || (keeps_beyond kept && nat_lt 127 byte)

-- a hexadecimal digit
abbrev pub letter_base : Digits → ℕ
letter_base Upper = 55
letter_base Lower = 87

abbrev pub digit : Digits → ℕ → ℕ
digit digits value = if nat_lt value 10 then 48 + value else letter_base digits + value

-- whether a space is written as `+`
abbrev pub is_plus : Space → ℕ → Bool
is_plus Encoded byte = false
is_plus Plus byte = byte == 32

-- whether a URL has `/` in place of a byte
abbrev pub is_turned : Kept → ℕ → Bool
is_turned Turned byte = byte == 92
is_turned _ byte = false

-- a byte of a URL
unfoldable pub url_byte : Kept → Space → Digits → ℕ → List ℕ
url_byte kept space digits byte =
    if is_turned kept byte then 47 ∷ []
    else if is_unencoded kept byte then byte ∷ []
    else if is_plus space byte then 43 ∷ []
    else 37 ∷ digit digits (byte / 16) ∷ digit digits (byte % 16) ∷ []

-- a character, or half of a pair, by its number: `\u` and four digits
abbrev pub json_unit : Digits → ℕ → List ℕ
json_unit digits unit =
    92 ∷ 117 ∷ digit digits (unit / 4096) ∷ digit digits (unit / 256 % 16) ∷ digit digits (unit / 16 % 16) ∷ digit digits (unit % 16) ∷ []

-- whether `/` is escaped
abbrev pub escapes_slash : Marks → Bool
escapes_slash SlashMark = true
escapes_slash SlashAndMarkup = true
escapes_slash SlashAndHtml = true
escapes_slash _ = false

-- the bytes beside control characters that JSON writes by their numbers
abbrev pub numbered_marks : Marks → List ℕ
numbered_marks KeptMarks = []
numbered_marks SlashMark = []
numbered_marks Markup = codes "<>&"
numbered_marks SlashAndMarkup = codes "<>&"
numbered_marks Gson = codes "<>&='"
numbered_marks DotnetMarks = codes "<>&+'\"`" ++ (127 ∷ [])
numbered_marks Html = codes "<>&'\""
numbered_marks SlashAndHtml = codes "<>&'\""

-- whether JSON writes a mark by its number
abbrev pub is_numbered_mark : Marks → ℕ → Bool
is_numbered_mark marks byte = list_any (λ one. one == byte) (numbered_marks marks)

-- whether a backslash stands before a byte of a JSON string that is not written by its number
abbrev pub has_backslash : Marks → ℕ → Bool
has_backslash marks byte = (byte == 34) || ((byte == 47) && escapes_slash marks)

-- a byte with a backslash before it, unless it stands as it is
abbrev pub escaped_unless : Bool → ℕ → List ℕ
escaped_unless is_kept byte = if is_kept then byte ∷ [] else 92 ∷ byte ∷ []

-- a byte of a JSON string for which there is no letter
unfoldable pub json_no_letter : Json → ℕ → List ℕ
json_no_letter json byte =
    if nat_lt byte 32 then json_unit json.digits byte
    else if is_numbered_mark json.marks byte then json_unit json.mark_digits byte
    else escaped_unless (not (has_backslash json.marks byte)) byte

-- a backspace or a form feed: by a letter or its number
abbrev pub feed_by : Feeds → Digits → (byte letter : ℕ) → List ℕ
feed_by LetterFeeds digits byte letter = 92 ∷ letter ∷ []
feed_by NumberFeeds digits byte letter = json_unit digits byte

abbrev pub json_feed : Json → (byte letter : ℕ) → List ℕ
json_feed json byte letter = feed_by json.feeds json.digits byte letter

-- a byte of a JSON string: `\\`, `\b`, `\t`, `\n`, `\f` and `\r`, or by its number, or with a backslash, or as it is
unfoldable pub json_byte : Json → ℕ → List ℕ
json_byte json byte =
    if byte == 92 then 92 ∷ 92 ∷ [] else if byte == 8 then json_feed json byte 98
    else if byte == 9 then 92 ∷ 116 ∷ [] else if byte == 10 then 92 ∷ 110 ∷ [] else if byte == 12 then json_feed json byte 102
    else if byte == 13 then 92 ∷ 114 ∷ [] else json_no_letter json byte

-- a double quote as XML and HTML write it
abbrev pub double_quote : Quotes → List ℕ
double_quote KeptQuotes = 34 ∷ []
double_quote Mixed = codes "&quot;"
double_quote Named = codes "&quot;"
double_quote DoubleAlone = codes "&quot;"
double_quote Canonical = codes "&quot;"
double_quote Padded = codes "&quot;"
double_quote Decimal = codes "&#34;"
double_quote Hexadecimal = codes "&quot;"
double_quote DecimalMarks = codes "&#34;"
double_quote (HexadecimalMarks digits) = codes "&#x22;"

-- a single quote as XML and HTML write it
abbrev pub single_quote : Quotes → List ℕ
single_quote KeptQuotes = 39 ∷ []
single_quote Mixed = codes "&#39;"
single_quote Named = codes "&apos;"
single_quote DoubleAlone = 39 ∷ []
single_quote Canonical = 39 ∷ []
single_quote Padded = codes "&#039;"
single_quote Decimal = codes "&#39;"
single_quote Hexadecimal = codes "&#x27;"
single_quote DecimalMarks = codes "&#39;"
single_quote (HexadecimalMarks digits) = codes "&#x27;"

-- `&` as XML and HTML write it
abbrev pub ampersand : Quotes → List ℕ
ampersand KeptQuotes = codes "&amp;"
ampersand Mixed = codes "&amp;"
ampersand Named = codes "&amp;"
ampersand DoubleAlone = codes "&amp;"
ampersand Canonical = codes "&amp;"
ampersand Padded = codes "&amp;"
ampersand Decimal = codes "&amp;"
ampersand Hexadecimal = codes "&amp;"
ampersand DecimalMarks = codes "&#38;"
ampersand (HexadecimalMarks digits) = codes "&#x26;"

-- `<` as XML and HTML write it
abbrev pub less_than : Quotes → List ℕ
less_than KeptQuotes = codes "&lt;"
less_than Mixed = codes "&lt;"
less_than Named = codes "&lt;"
less_than DoubleAlone = codes "&lt;"
less_than Canonical = codes "&lt;"
less_than Padded = codes "&lt;"
less_than Decimal = codes "&lt;"
less_than Hexadecimal = codes "&lt;"
less_than DecimalMarks = codes "&#60;"
less_than (HexadecimalMarks Upper) = codes "&#x3C;"
less_than (HexadecimalMarks Lower) = codes "&#x3c;"

-- `>` as XML and HTML write it
abbrev pub greater_than : Quotes → List ℕ
greater_than KeptQuotes = codes "&gt;"
greater_than Mixed = codes "&gt;"
greater_than Named = codes "&gt;"
greater_than DoubleAlone = codes "&gt;"
greater_than Canonical = 62 ∷ []
greater_than Padded = codes "&gt;"
greater_than Decimal = codes "&gt;"
greater_than Hexadecimal = codes "&gt;"
greater_than DecimalMarks = codes "&#62;"
greater_than (HexadecimalMarks Upper) = codes "&#x3E;"
greater_than (HexadecimalMarks Lower) = codes "&#x3e;"

-- a byte of XML or HTML: of `&`, `<`, `>` and the quotes a reference
unfoldable pub xml_byte : Quotes → ℕ → List ℕ
xml_byte quotes byte =
    if byte == 38 then ampersand quotes else if byte == 60 then less_than quotes else if byte == 62 then greater_than quotes
    else if byte == 34 then double_quote quotes else if byte == 39 then single_quote quotes else byte ∷ []

-- whether a byte stands as it is in a word that is quoted by backslashes alone
abbrev pub is_plain : ℕ → Bool
is_plain byte = nat_lt 127 byte || is_ascii_alphanumeric byte || list_any (λ one. one == byte) (codes "@%+=:,./-_")

-- whether bash puts a backslash before a byte
abbrev pub is_bash_mark : ℕ → Bool
is_bash_mark byte = list_any (λ one. one == byte) (codes " !\"$&'()*,;<>?[\\]^`{|}")

-- whether a byte is such a one or `~`
abbrev pub is_bash_mark_or_tilde : ℕ → Bool
is_bash_mark_or_tilde byte = (byte == 126) || is_bash_mark byte

-- whether bash puts a backslash before a byte when it traces a comparison
abbrev pub is_traced : ℕ → Bool
is_traced byte = not (byte == 1) && not (byte == 127)

-- whether a byte is within a character of UTF-8, and not its first
abbrev pub is_continuation : ℕ → Bool
is_continuation byte = nat_lt 127 byte && nat_lt byte 192

-- whether bash puts a backslash before a character that begins with a byte
abbrev pub is_traced_character : ℕ → Bool
is_traced_character byte = is_traced byte && not (is_continuation byte)

-- whether a byte is a mark of a regular expression
abbrev pub is_regex_mark : ℕ → Bool
is_regex_mark byte = list_any (λ one. one == byte) (codes ".[*^$+?(){|\\")

-- whether a byte is a control character of ASCII
abbrev pub is_control : ℕ → Bool
is_control byte = nat_lt byte 32 || byte == 127

-- whether a byte is one of ASCII, and no control character
abbrev pub is_printable : ℕ → Bool
is_printable byte = not (is_control byte) && nat_lt byte 128

-- a byte by its number, a backslash and three octal digits, unless it stands as it is
unfoldable pub octal_unless : Bool → ℕ → List ℕ
octal_unless is_kept byte =
    if is_kept then byte ∷ [] else 92 ∷ (48 + byte / 64) ∷ (48 + byte / 8 % 8) ∷ (48 + byte % 8) ∷ []

-- a byte within `$'` and `'`: `\'`, `\\`, `\a`, `\b`, `\t`, `\n`, `\v`, `\f`, `\r` and `\E`, by its number, or as it is
unfoldable pub dollar_byte : Bool → ℕ → List ℕ
dollar_byte is_kept byte =
    if byte == 39 then 92 ∷ 39 ∷ [] else if byte == 92 then 92 ∷ 92 ∷ [] else if byte == 7 then 92 ∷ 97 ∷ []
    else if byte == 8 then 92 ∷ 98 ∷ [] else if byte == 9 then 92 ∷ 116 ∷ [] else if byte == 10 then 92 ∷ 110 ∷ []
    else if byte == 11 then 92 ∷ 118 ∷ [] else if byte == 12 then 92 ∷ 102 ∷ [] else if byte == 13 then 92 ∷ 114 ∷ []
    else if byte == 27 then 92 ∷ 69 ∷ [] else octal_unless is_kept byte

-- a byte within single quotes, of which one is written so
abbrev pub single_byte : List ℕ → ℕ → List ℕ
single_byte quote byte = if byte == 39 then quote else byte ∷ []

-- a byte within single quotes, which end before a quote and before `!`
abbrev pub git_byte : ℕ → List ℕ
git_byte byte = if list_any (λ one. one == byte) (39 ∷ 33 ∷ []) then 39 ∷ 92 ∷ byte ∷ 39 ∷ [] else byte ∷ []

-- a byte, or a mark twice
abbrev pub doubled_byte : (mark byte : ℕ) → List ℕ
doubled_byte mark byte = if byte == mark then mark ∷ mark ∷ [] else byte ∷ []

-- whether Ruby writes a byte with no backslash before it: one that stands as it is, or one within a character
abbrev pub is_ruby_plain : ℕ → Bool
is_ruby_plain byte = is_ascii_alphanumeric byte || list_any (λ one. one == byte) (codes "_-.,:+/@") || is_continuation byte

-- a byte of a word as Ruby's `Shellwords` writes it
abbrev pub ruby_byte : ℕ → List ℕ
ruby_byte byte = if byte == 10 then 39 ∷ 10 ∷ 39 ∷ [] else escaped_unless (is_ruby_plain byte) byte

-- whether a byte is printed: one of ASCII that is no control character, or one above 127 that is kept
abbrev pub is_printed : Beyond → ℕ → Bool
is_printed EncodedBeyond byte = is_printable byte
is_printed KeptBeyond byte = not (is_control byte)

-- whether a string of a program has a control character by a letter
abbrev pub has_letter : Letters → ℕ → Bool
has_letter NoLetters byte = false
has_letter Three byte = (byte == 9) || (byte == 10) || (byte == 13)
has_letter Five byte = (nat_lt 7 byte && nat_lt byte 14) && not (byte == 12)
has_letter Seven byte = nat_lt 6 byte && nat_lt byte 14

-- the letter of a control character
abbrev pub letter : ℕ → ℕ
letter byte =
    if byte == 7 then 97 else if byte == 8 then 98 else if byte == 9 then 116 else if byte == 10 then 110
    else if byte == 11 then 118 else if byte == 12 then 102 else 114

-- a byte by its number, or as it is
unfoldable pub numbered_byte : Numbers → ℕ → List ℕ
numbered_byte (HexadecimalNumbers digits) byte = 92 ∷ 120 ∷ digit digits (byte / 16) ∷ digit digits (byte % 16) ∷ []
numbered_byte Octal byte = octal_unless false byte
numbered_byte KeptNumbers byte = byte ∷ []

-- whether a backslash stands before a byte in a string of a program
abbrev pub is_backslashed : Backslashed → ℕ → Bool
is_backslashed NoBackslash byte = false
is_backslashed Alone byte = byte == 92
is_backslashed SingleMark byte = (byte == 92) || (byte == 39)
is_backslashed DoubleMark byte = (byte == 92) || (byte == 34)
is_backslashed SpaceMark byte = (byte == 92) || (byte == 32)

-- whether a byte that could be printed is written by its number
abbrev pub is_numbered_quote : Backslashed → ℕ → Bool
is_numbered_quote NoBackslash byte = (byte == 92) || (byte == 34)
is_numbered_quote _ byte = false

-- whether a byte stands as it is in a string of a program
abbrev pub is_literal : Literal → ℕ → Bool
is_literal literal byte = is_printed literal.beyond byte && not (is_numbered_quote literal.backslashed byte)

-- a byte of a string of a program
unfoldable pub literal_byte : Literal → ℕ → List ℕ
literal_byte literal byte =
    if is_backslashed literal.backslashed byte then 92 ∷ byte ∷ []
    else if has_letter literal.letters byte then 92 ∷ letter byte ∷ []
    else if is_literal literal byte then byte ∷ []
    else numbered_byte literal.numbers byte

-- a byte by its letter, or its number in octal digits
unfoldable pub lettered_byte : ℕ → List ℕ
lettered_byte byte = if has_letter Seven byte then 92 ∷ letter byte ∷ [] else octal_unless false byte

-- such a byte within `$'` and `'`
abbrev pub zsh_number : ℕ → List ℕ
zsh_number byte = (36 ∷ 39 ∷ []) ++ (lettered_byte byte ++ (39 ∷ []))

-- whether zsh puts a backslash before a byte
abbrev pub is_zsh_mark : ℕ → Bool
is_zsh_mark byte = list_any (λ one. one == byte) (codes " '\"$\\#[]{}()<>|&;`*?^")

-- a byte of a word as zsh writes it
unfoldable pub zsh_byte : Beyond → ℕ → List ℕ
zsh_byte beyond byte =
    if is_printed beyond byte then escaped_unless (not (is_zsh_mark byte)) byte
    else zsh_number byte

-- whether fish puts a backslash before a byte
abbrev pub is_fish_mark : ℕ → Bool
is_fish_mark byte = list_any (λ one. one == byte) (codes " \"#$%&'()*;<=>?[\\]{|}~")

-- whether fish has a control character by the letter that C has for it
abbrev pub is_fish_letter : ℕ → Bool
is_fish_letter byte = (byte == 8) || (byte == 9) || (byte == 10) || (byte == 13)

-- a control character of a word as fish writes it: by a letter, by `\c` and a letter, as `\e`, or by its number
unfoldable pub fish_control : ℕ → List ℕ
fish_control byte =
    if is_fish_letter byte then 92 ∷ letter byte ∷ [] else if nat_lt byte 27 then 92 ∷ 99 ∷ (96 + byte) ∷ []
    else if byte == 27 then 92 ∷ 101 ∷ [] else numbered_byte (HexadecimalNumbers Lower) byte

-- a byte of a word as fish writes it
abbrev pub fish_byte : ℕ → List ℕ
fish_byte byte = if is_control byte then fish_control byte else escaped_unless (not (is_fish_mark byte)) byte

-- a byte of a shell's word
unfoldable pub shell_byte : Quoting → ℕ → List ℕ
shell_byte Single byte = single_byte (39 ∷ 92 ∷ 39 ∷ 39 ∷ []) byte
shell_byte SingleByDouble byte = single_byte (39 ∷ 34 ∷ 39 ∷ 34 ∷ 39 ∷ []) byte
shell_byte Double byte = escaped_unless (not (list_any (λ one. one == byte) (36 ∷ 96 ∷ 34 ∷ 92 ∷ []))) byte
shell_byte Backslashes byte = escaped_unless (is_plain byte) byte
shell_byte BashBackslashes byte = escaped_unless (not (is_bash_mark byte)) byte
shell_byte BashTildes byte = escaped_unless (not (is_bash_mark_or_tilde byte)) byte
shell_byte Every byte = escaped_unless (not (is_traced byte)) byte
shell_byte EveryCharacter byte = escaped_unless (not (is_traced_character byte)) byte
shell_byte RegexMarks byte = escaped_unless (not (is_regex_mark byte)) byte
shell_byte Dollar byte = dollar_byte (not (is_control byte)) byte
shell_byte DollarAscii byte = dollar_byte (is_printable byte) byte
shell_byte Git byte = git_byte byte
shell_byte DoubledSingle byte = doubled_byte 39 byte
shell_byte DoubledDouble byte = doubled_byte 34 byte
shell_byte Ruby byte = ruby_byte byte
shell_byte (Zsh beyond) byte = zsh_byte beyond byte
shell_byte Fish byte = fish_byte byte

-- a byte as an encoder writes it
abbrev pub spelled_byte : Spelling → ℕ → List ℕ
spelled_byte (Url kept space digits) byte = url_byte kept space digits byte
spelled_byte (JsonString json) byte = json_byte json byte
spelled_byte (Xml quotes) byte = xml_byte quotes byte
spelled_byte (Shell quoting) byte = shell_byte quoting byte
spelled_byte (LiteralString literal) byte = literal_byte literal byte

-- bytes as an encoder writes them
abbrev pub spelled : Spelling → List ℕ → List ℕ
spelled spelling bytes = flat_map (spelled_byte spelling) bytes

-- a secret as each of some encoders writes it
abbrev pub spelled_by : List Spelling → List ℕ → List (List ℕ)
spelled_by spellings secret = map (λ spelling. spelled spelling secret) spellings

-- with a space as any other byte and as `+`, and with digits in both cases
abbrev pub url_of : Kept → List Spelling
url_of kept = Url kept Encoded Upper ∷ Url kept Encoded Lower ∷ Url kept Plus Upper ∷ Url kept Plus Lower ∷ []

-- with a space as any other byte alone
abbrev pub url_without_plus : Kept → List Spelling
url_without_plus kept = Url kept Encoded Upper ∷ Url kept Encoded Lower ∷ []

-- such an encoder, with bytes above 127 encoded and as they are
abbrev pub url_beyond : (Beyond → Kept) → List Spelling
url_beyond kept = url_without_plus (kept EncodedBeyond) ++ url_without_plus (kept KeptBeyond)

-- the encoders of URLs
abbrev pub url_spellings : List Spelling
url_spellings =
    flat_map url_of (Unreserved ∷ Slash ∷ Component ∷ Uri ∷ Form ∷ Fewest ∷ Dotnet ∷ Query ∷ Path ∷ Alphanumeric ∷ [])
    ++ (flat_map url_without_plus (User ∷ GoUser ∷ GoSegment ∷ GoPath ∷ GoFragment ∷ Turned ∷ Escape ∷ Nothing ∷ [])
    ++ (url_beyond PlainPath ++ (url_beyond PlainQuery ++ (url_beyond JavaQuery ++ (url_beyond JavaUser ++ url_beyond Fragment)))))

-- the encoders of XML and HTML
abbrev pub xml_spellings : List Spelling
xml_spellings =
    Xml KeptQuotes ∷ Xml Mixed ∷ Xml Named ∷ Xml DoubleAlone ∷ Xml Canonical ∷ Xml Padded ∷ Xml Decimal
    ∷ Xml Hexadecimal ∷ Xml DecimalMarks ∷ Xml (HexadecimalMarks Upper) ∷ Xml (HexadecimalMarks Lower) ∷ []

-- with bytes above 127 as they are, and by their numbers
abbrev pub literals_of : Backslashed → Letters → Numbers → List Literal
literals_of backslashed letters numbers =
    record { backslashed = backslashed; letters = letters; numbers = numbers; beyond = KeptBeyond }
    ∷ record { backslashed = backslashed; letters = letters; numbers = numbers; beyond = EncodedBeyond } ∷ []

-- strings as Python, Go, coreutils in two ways, Apache, nginx and PHP write them
abbrev pub literals : List Literal
literals =
    literals_of Alone Three (HexadecimalNumbers Lower) ++ (literals_of SingleMark Three (HexadecimalNumbers Lower)
    ++ (literals_of DoubleMark Seven (HexadecimalNumbers Lower) ++ (literals_of DoubleMark Seven Octal ++ (literals_of SpaceMark Seven Octal
    ++ (literals_of DoubleMark Five (HexadecimalNumbers Lower) ++ (literals_of NoBackslash NoLetters (HexadecimalNumbers Upper)
    ++ (record { backslashed = SingleMark; letters = NoLetters; numbers = KeptNumbers; beyond = KeptBeyond } ∷ [])))))))

-- the ways to quote a shell's word, and a string of a program
abbrev pub shell_spellings : List Spelling
shell_spellings =
    Shell Single ∷ Shell SingleByDouble ∷ Shell Double ∷ Shell Backslashes ∷ Shell BashBackslashes
    ∷ Shell BashTildes ∷ Shell Every ∷ Shell EveryCharacter ∷ Shell RegexMarks ∷ Shell Dollar ∷ Shell DollarAscii ∷ Shell Git
    ∷ Shell DoubledSingle ∷ Shell DoubledDouble ∷ Shell Ruby ∷ Shell (Zsh KeptBeyond) ∷ Shell (Zsh EncodedBeyond) ∷ Shell Fish
    ∷ (map (λ literal. LiteralString literal) literals)

-- no character that belongs to the secret is outside the patterns
abbrev pub HidesSpelled : List (List ℕ) → List ℕ → Spelling → Type 0
HidesSpelled patterns secret spelling = HidesEach (spelled_byte spelling) patterns secret
