-- No pattern of a form is empty.
use Rattle.std.proofs.Common.{◌≡◌, ℕ, zero, suc, ◌-◌, ◌≤◌, Bool, true, false, cond, List, [], ◌∷◌, ◌++◌, length, nat_lt, drop, refl, ap, ◌∙◌, arith}
use Rattle.std.specs.Prelude.{◌==◌, All, IsUtf8, Some, chars, encode_utf8, encode_utf8_all, flat_map}
use Rattle.std.proofs.Math.Utf8.{encode}
use Rattle.std.specs.List.{list_any, range_with_len, slice_split}
use Rattle.std.specs.Str.{is_utf8}
use Rattle.std.specs.Str.Lines.{strip_carriage_return}
use Rattle.std.proofs.lemmas.Bool.{ltb-false}
use Rattle.std.proofs.lemmas.List.{append-nil, length-append, length-drop, length-take-le}
use Rattle.std.proofs.lemmas.List.Elements.{All-append, All-map}
use Rattle.std.proofs.lemmas.Str.{IsUtf8-from_is_utf8, encodes-chars}
use Rattle.base64.specs.declared.engine.general_purpose.GeneralPurpose.{GeneralPurpose}
use Rattle.base64.specs.Engines.{standard, standard_no_pad, url_safe, url_safe_no_pad}
use Rattle.base64.specs.GeneralPurpose.{encode_of}
use Rattle.base64.specs.Rfc4648.{encode_symbols, unpadded_len}
use Rattle.base64.proofs.RoundTrip.{length-encode_symbols}
use Rattle.hex.specs.Hex.{encode_with, lower_digits, upper_digits}
use Rattle.hex.proofs.HexLemmas.{length-encode_with}
use Rattle.secret_forms.specs.Base64.{secret_within, trimmed, front_of, rest_of, back_of, byte_behind, values_ahead, values_behind, core_of, with_ahead, with_behind, all_ahead, all_behind, shift_patterns, alphabet_patterns, base64_patterns}
use Rattle.secret_forms.specs.Escape.{escape_char, escaped, url_patterns}
use Rattle.secret_forms.specs.Forms.{form_patterns}
use Rattle.secret_forms.specs.Joined.{alone_byte, decimal_byte, joined_word, joined_words, joined_from, joinings, named_byte, radix_byte}
use Rattle.secret_forms.specs.Json.{json_char, json_number, json_patterns, json_spellings, json_ways, numbered, numbered_by}
use Rattle.secret_forms.specs.Lines.{ends_line, long_line}
use Rattle.secret_forms.specs.Spelling.{ampersand, dollar_byte, double_quote, feed_by, fish_control, greater_than, json_byte, json_no_letter, less_than, lettered_byte, literal_byte, numbered_byte, octal_unless, shell_byte, shell_spellings, single_quote, spelled, spelled_by, spelled_byte, url_byte, url_spellings, xml_byte, xml_spellings, zsh_byte}
use Rattle.secret_forms.specs.declared.bytewise.Feeds.{Feeds}
use Rattle.secret_forms.specs.declared.bytewise.Feeds.TheVariants.{Letters as LetterFeeds, Numbers as NumberFeeds}
use Rattle.secret_forms.specs.declared.bytewise.Literal.{Literal}
use Rattle.secret_forms.specs.declared.bytewise.Numbers.{Numbers as StringNumbers}
use Rattle.secret_forms.specs.declared.bytewise.Numbers.TheVariants.{Hexadecimal as HexadecimalNumbers, Octal, Kept as KeptNumbers}
use Rattle.secret_forms.specs.declared.bytewise.Json.{Json}
use Rattle.secret_forms.specs.declared.bytewise.Kept.{Kept}
use Rattle.secret_forms.specs.declared.bytewise.Beyond.{Beyond}
use Rattle.secret_forms.specs.declared.bytewise.Space.{Space}
use Rattle.secret_forms.specs.declared.bytewise.Digits.{Digits}
use Rattle.secret_forms.specs.declared.bytewise.Digits.TheVariants.{Upper, Lower}
use Rattle.secret_forms.specs.declared.bytewise.Quotes.{Quotes}
use Rattle.secret_forms.specs.declared.bytewise.Quotes.TheVariants.{Kept as KeptQuotes, Mixed, Named, DoubleAlone, Canonical, Padded, Decimal, Hexadecimal, DecimalMarks, HexadecimalMarks}
use Rattle.secret_forms.specs.declared.bytewise.Quoting.{Quoting}
use Rattle.secret_forms.specs.declared.bytewise.Quoting.TheVariants.{Single, SingleByDouble, Double, Backslashes, BashBackslashes, BashTildes, Every, EveryCharacter, RegexMarks, Dollar, DollarAscii, Git, DoubledSingle, DoubledDouble, Ruby, Zsh, Fish}
use Rattle.secret_forms.specs.declared.bytewise.Spelling.{Spelling}
use Rattle.secret_forms.specs.declared.bytewise.Spelling.TheVariants.{Url, Json as JsonString, Xml, Shell, Literal as LiteralString}
use Rattle.secret_forms.specs.declared.form.Form.{Form}
use Rattle.secret_forms.specs.declared.form.Form.TheVariants.{Base64, Hex, Url as UrlForm, Json as JsonForm, Xml as XmlForm, Shell as ShellForm, Lines}
use Rattle.secret_forms.specs.declared.joined_form.Joining.{Joining}
use Rattle.secret_forms.specs.declared.joined_form.Joining.TheVariants.{Bash, Coreutils, CoreutilsAscii, Numbers}
use Rattle.secret_forms.specs.declared.joined_form.Radix.{Radix}
use Rattle.secret_forms.specs.declared.joined_form.Radix.TheVariants.{Hexadecimal as HexadecimalRadix, Decimal as DecimalRadix}
use Rattle.secret_forms.proofs.Base64Law.{length_within}

-- there is a byte
pub record IsFilled (bytes : List ℕ) : Type 0 where
  pub some : 1 ≤ length bytes

filled : (x : ℕ) (xs : List ℕ) → IsFilled (x ∷ xs)
filled x xs = record { some = omega arith }

either : (b : Bool) (xs ys : List ℕ) → IsFilled xs → IsFilled ys → IsFilled (cond b xs ys)
either true xs ys one other = one
either false xs ys one other = other

none : All IsFilled []
none k d below = absurd (omega (arith, below))

one : (x : List ℕ) → IsFilled x → All IsFilled (x ∷ [])
one x has zero d below = has
one x has (suc k) d below = absurd (omega (arith, below))

both : (xs ys : List (List ℕ)) → All IsFilled xs → All IsFilled ys → All IsFilled (xs ++ ys)
both xs ys first second = All-append IsFilled xs ys first second

some_or_none : (b : Bool) (xs : List (List ℕ)) → All IsFilled xs → All IsFilled (cond b xs [])
some_or_none true xs has = has
some_or_none false xs has = none

each : (write : ℕ → List ℕ) (s : List ℕ) → ((b : ℕ) → IsFilled (write b)) → IsFilled s → IsFilled (flat_map write s)
each write [] all has = absurd (omega (arith, has.some))
each write (b ∷ bs) all has =
    let here : 1 ≤ length (write b) = (all b).some in
    record { some = rw (length-append (write b) (flat_map write bs)) (omega (arith, here)) }

-- bytes of URLs, XML, a shell's words and JSON
url_filled : (kept : Kept) (space : Space) (digits : Digits) (b : ℕ) → IsFilled (url_byte kept space digits b)
unfolding url_byte
url_filled kept space digits b = search (either, filled)

double_filled : (quotes : Quotes) → IsFilled (double_quote quotes)
double_filled KeptQuotes = filled _ _
double_filled Mixed = filled _ _
double_filled Named = filled _ _
double_filled DoubleAlone = filled _ _
double_filled Canonical = filled _ _
double_filled Padded = filled _ _
double_filled Decimal = filled _ _
double_filled Hexadecimal = filled _ _
double_filled DecimalMarks = filled _ _
double_filled (HexadecimalMarks digits) = filled _ _

single_filled : (quotes : Quotes) → IsFilled (single_quote quotes)
single_filled KeptQuotes = filled _ _
single_filled Mixed = filled _ _
single_filled Named = filled _ _
single_filled DoubleAlone = filled _ _
single_filled Canonical = filled _ _
single_filled Padded = filled _ _
single_filled Decimal = filled _ _
single_filled Hexadecimal = filled _ _
single_filled DecimalMarks = filled _ _
single_filled (HexadecimalMarks digits) = filled _ _

ampersand_filled : (quotes : Quotes) → IsFilled (ampersand quotes)
ampersand_filled KeptQuotes = filled _ _
ampersand_filled Mixed = filled _ _
ampersand_filled Named = filled _ _
ampersand_filled DoubleAlone = filled _ _
ampersand_filled Canonical = filled _ _
ampersand_filled Padded = filled _ _
ampersand_filled Decimal = filled _ _
ampersand_filled Hexadecimal = filled _ _
ampersand_filled DecimalMarks = filled _ _
ampersand_filled (HexadecimalMarks digits) = filled _ _

less_filled : (quotes : Quotes) → IsFilled (less_than quotes)
less_filled KeptQuotes = filled _ _
less_filled Mixed = filled _ _
less_filled Named = filled _ _
less_filled DoubleAlone = filled _ _
less_filled Canonical = filled _ _
less_filled Padded = filled _ _
less_filled Decimal = filled _ _
less_filled Hexadecimal = filled _ _
less_filled DecimalMarks = filled _ _
less_filled (HexadecimalMarks Upper) = filled _ _
less_filled (HexadecimalMarks Lower) = filled _ _

greater_filled : (quotes : Quotes) → IsFilled (greater_than quotes)
greater_filled KeptQuotes = filled _ _
greater_filled Mixed = filled _ _
greater_filled Named = filled _ _
greater_filled DoubleAlone = filled _ _
greater_filled Canonical = filled _ _
greater_filled Padded = filled _ _
greater_filled Decimal = filled _ _
greater_filled Hexadecimal = filled _ _
greater_filled DecimalMarks = filled _ _
greater_filled (HexadecimalMarks Upper) = filled _ _
greater_filled (HexadecimalMarks Lower) = filled _ _

xml_filled : (quotes : Quotes) (b : ℕ) → IsFilled (xml_byte quotes b)
unfolding xml_byte
xml_filled quotes b = search (either, ampersand_filled, less_filled, greater_filled, filled, double_filled, single_filled) depth 12

octal_filled : (is_kept : Bool) (b : ℕ) → IsFilled (octal_unless is_kept b)
unfolding octal_unless
octal_filled is_kept b = search (either, filled)

dollar_filled : (is_kept : Bool) (b : ℕ) → IsFilled (dollar_byte is_kept b)
unfolding dollar_byte
dollar_filled is_kept b = search (either, octal_filled, filled) depth 12

number_filled : (numbers : StringNumbers) (b : ℕ) → IsFilled (numbered_byte numbers b)
unfolding numbered_byte
number_filled (HexadecimalNumbers digits) b = filled _ _
number_filled Octal b = octal_filled false b
number_filled KeptNumbers b = filled _ _

literal_filled : (literal : Literal) (b : ℕ) → IsFilled (literal_byte literal b)
unfolding literal_byte
literal_filled literal b = search (either, number_filled, filled) depth 12

zsh_filled : (beyond : Beyond) (b : ℕ) → IsFilled (zsh_byte beyond b)
unfolding zsh_byte
zsh_filled beyond b = search (either, filled)

fish_filled : (b : ℕ) → IsFilled (fish_control b)
unfolding fish_control
fish_filled b = search (either, number_filled, filled) depth 12

shell_filled : (quoting : Quoting) (b : ℕ) → IsFilled (shell_byte quoting b)
unfolding shell_byte
shell_filled Single b = search (either, filled)
shell_filled SingleByDouble b = search (either, filled)
shell_filled Double b = search (either, filled)
shell_filled Backslashes b = search (either, filled)
shell_filled BashBackslashes b = search (either, filled)
shell_filled BashTildes b = search (either, filled)
shell_filled Every b = search (either, filled)
shell_filled EveryCharacter b = search (either, filled)
shell_filled RegexMarks b = search (either, filled)
shell_filled Dollar b = dollar_filled _ b
shell_filled DollarAscii b = dollar_filled _ b
shell_filled Git b = search (either, filled)
shell_filled DoubledSingle b = search (either, filled)
shell_filled DoubledDouble b = search (either, filled)
shell_filled Ruby b = search (either, filled)
shell_filled (Zsh beyond) b = zsh_filled beyond b
shell_filled Fish b = search (either, fish_filled, filled)

no_letter_filled : (json : Json) (b : ℕ) → IsFilled (json_no_letter json b)
unfolding json_no_letter
no_letter_filled json b = search (either, filled)

feed_filled : (feeds : Feeds) (digits : Digits) (b letter : ℕ) → IsFilled (feed_by feeds digits b letter)
feed_filled LetterFeeds digits b letter = filled _ _
feed_filled NumberFeeds digits b letter = filled _ _

json_filled : (json : Json) (b : ℕ) → IsFilled (json_byte json b)
unfolding json_byte
json_filled json b = search (either, filled, feed_filled, no_letter_filled) depth 16

utf8_filled : (c : ℕ) → IsFilled (encode_utf8 c)
unfolding encode
utf8_filled c = search (either, filled)

wide_filled : (digits : Digits) (c : ℕ) → IsFilled (json_number digits c)
unfolding json_number
wide_filled digits c = search (either, filled)

char_filled : (json : Json) (c : ℕ) → IsFilled (json_char json c)
unfolding json_char
char_filled json c = search (either, json_filled, wide_filled, utf8_filled) depth 12

byte_filled : (spelling : Spelling) (b : ℕ) → IsFilled (spelled_byte spelling b)
byte_filled (Url kept space digits) b = url_filled kept space digits b
byte_filled (JsonString json) b = json_filled json b
byte_filled (Xml quotes) b = xml_filled quotes b
byte_filled (Shell quoting) b = shell_filled quoting b
byte_filled (LiteralString literal) b = literal_filled literal b

spelled_filled : (spellings : List Spelling) (s : List ℕ) → IsFilled s → All IsFilled (spelled_by spellings s)
spelled_filled spellings s some = All-map IsFilled (λ (u : Spelling). spelled u s) spellings (λ k d below. each (spelled_byte _) s (byte_filled _) some)

-- characters of a text
chars_filled : (s cs : List ℕ) → IsFilled s → encode_utf8_all cs ≡ s → IsFilled cs
chars_filled s [] has same = absurd (omega (arith, has.some, ap length same))
chars_filled s (c ∷ cs) has same = filled c cs

numbered_filled : (s : List ℕ) → IsFilled s → IsUtf8 s → All IsFilled (numbered_by json_ways (chars s))
numbered_filled s some text = All-map IsFilled (λ (u : Json). numbered u (chars s)) json_ways
    (λ k d below. each (json_char _) (chars s) (char_filled _) (chars_filled s (chars s) some (encodes-chars s text)))

maybe_numbered : (s : List ℕ) (b : Bool) → is_utf8 s ≡ b → IsFilled s → All IsFilled (cond b (numbered_by json_ways (chars s)) [])
maybe_numbered s true is some = numbered_filled s some (IsUtf8-from_is_utf8 s is)
maybe_numbered s false is some = none

json_all : (s : List ℕ) → IsFilled s → All IsFilled (json_patterns s)
json_all s some = both (spelled_by json_spellings s) _ (spelled_filled json_spellings s some) (maybe_numbered s (is_utf8 s) refl some)

-- the same of `escape`
escape_filled : (c : ℕ) → IsFilled (escape_char c)
unfolding escape_char
escape_filled c = search (either, filled, url_filled)

maybe_escaped : (s : List ℕ) (b : Bool) → is_utf8 s ≡ b → IsFilled s → All IsFilled (cond b (escaped (chars s) ∷ []) [])
maybe_escaped s true is some = one (escaped (chars s)) (each escape_char (chars s) escape_filled (chars_filled s (chars s) some (encodes-chars s (IsUtf8-from_is_utf8 s is))))
maybe_escaped s false is some = none

url_all : (s : List ℕ) → IsFilled s → All IsFilled (url_patterns s)
url_all s some = both (spelled_by url_spellings s) _ (spelled_filled url_spellings s some) (maybe_escaped s (is_utf8 s) refl some)

-- of what looks at the byte before each
named_filled : (is_kept : Bool) (b : ℕ) → IsFilled (named_byte is_kept b)
unfolding named_byte
named_filled is_kept b = search (either, octal_filled, filled) depth 12

decimal_filled : (b : ℕ) → IsFilled (decimal_byte b)
unfolding decimal_byte
decimal_filled b = search (either, filled)

radix_filled : (radix : Radix) (b : ℕ) → IsFilled (radix_byte radix b)
radix_filled (HexadecimalRadix digits) b = filled _ _
radix_filled DecimalRadix b = decimal_filled b

alone_filled : (joining : Joining) (b : ℕ) → IsFilled (alone_byte joining b)
unfolding alone_byte
alone_filled Bash b = search (either, filled)
alone_filled Coreutils b = named_filled _ b
alone_filled CoreutilsAscii b = named_filled _ b
alone_filled (Numbers radix separator) b = radix_filled radix b

joined_filled : (joining : Joining) (s : List ℕ) → IsFilled s → IsFilled (joined_word joining s)
joined_filled joining [] has = absurd (omega (arith, has.some))
joined_filled joining (b ∷ bs) has =
    let here : 1 ≤ length (alone_byte joining b) = (alone_filled joining b).some in
    record { some = rw (length-append (alone_byte joining b) (joined_from joining (Some b) bs)) (omega (arith, here)) }

shell_all : (s : List ℕ) → IsFilled s → All IsFilled (spelled_by shell_spellings s ++ joined_words joinings s)
shell_all s some = both (spelled_by shell_spellings s) (joined_words joinings s) (spelled_filled shell_spellings s some)
    (All-map IsFilled (λ (u : Joining). joined_word u s) joinings (λ k d below. joined_filled _ s some))

-- lines
line_filled : (line : List ℕ) (b : Bool) → nat_lt (length line) 8 ≡ b → All IsFilled (cond b [] (line ∷ []))
line_filled line true is = none
line_filled line false is = one line (record { some = omega (arith, ltb-false (length line) 8 is) })

parts_filled : (parts : List (List ℕ)) → All IsFilled (flat_map long_line parts)
parts_filled [] = none
parts_filled (part ∷ parts) = both (long_line part) (flat_map long_line parts) (line_filled (strip_carriage_return part) _ refl) (parts_filled parts)

-- parts of an encoding
part_filled : (t text w : List ℕ) (front back : ℕ) → text ≡ encode_symbols t w → front ≤ 3 → back ≤ 1 → 4 ≤ length w → IsFilled (trimmed front back text)
part_filled t text w front back same f b long =
    let len : length text ≡ unpadded_len (length w) = ap length same ∙ length-encode_symbols t w in
    let dropped = length-drop front text in
    let kept = length-take-le (length text - back - front) (drop front text) (rw dropped (omega arith)) in
    record { some = rw kept (omega (arith, len, long, f, b)) }

at_most_one : (b : Bool) → cond b 0 1 ≤ 1
at_most_one true = omega arith
at_most_one false = omega arith

back_small : (rest : ℕ) → back_of rest ≤ 1
back_small rest = at_most_one (rest == 0)

shift_filled : (engine : GeneralPurpose) (t s : List ℕ) (k : ℕ) → ((m : List ℕ) → encode_of engine m ≡ encode_symbols t m) → k ≤ 2 → 4 ≤ length s
    → All IsFilled (shift_patterns engine s k)
unfolding shift_patterns
shift_filled engine t s k plain small long =
    let front : front_of k ≤ 3 = omega (arith, small) in
    let back = back_small (rest_of k s) in
    let core = part_filled t _ (secret_within k 0 s []) (front_of k) (back_of (rest_of k s)) (plain (secret_within k 0 s [])) front back
    (rw (length_within k 0 s [] small) (omega (arith, long))) in
    let ahead = λ (h : ℕ). part_filled t _ (secret_within k h s []) k (back_of (rest_of k s)) (plain (secret_within k h s [])) (omega (arith, small)) back
    (rw (length_within k h s [] small) (omega (arith, long))) in
    let behind = λ (h : ℕ). part_filled t _ (secret_within k 0 s (byte_behind (rest_of k s) h ∷ [])) (front_of k) 1
    (plain (secret_within k 0 s (byte_behind (rest_of k s) h ∷ []))) front (omega arith)
    (rw (length_within k 0 s (byte_behind (rest_of k s) h ∷ []) small) (omega (arith, long))) in
    both (core_of engine s k ∷ []) (all_ahead engine s k ++ all_behind engine s k) (one (core_of engine s k) core)
    (both (all_ahead engine s k) (all_behind engine s k)
    (All-map IsFilled (with_ahead engine s k) (range_with_len 0 (values_ahead k)) (λ i d below. ahead _))
    (All-map IsFilled (with_behind engine s k) (range_with_len 0 (values_behind (rest_of k s))) (λ i d below. behind _)))

alphabet_filled : (engine : GeneralPurpose) (t s : List ℕ) → ((m : List ℕ) → encode_of engine m ≡ encode_symbols t m) → 4 ≤ length s
    → All IsFilled (alphabet_patterns engine s)
alphabet_filled engine t s plain long =
    both (shift_patterns engine s 0) (shift_patterns engine s 1 ++ shift_patterns engine s 2) (shift_filled engine t s 0 plain (omega arith) long)
    (both (shift_patterns engine s 1) (shift_patterns engine s 2) (shift_filled engine t s 1 plain (omega arith) long) (shift_filled engine t s 2 plain (omega arith) long))

base64_filled : (s : List ℕ) → 4 ≤ length s → All IsFilled (base64_patterns s)
base64_filled s long =
    both (alphabet_patterns standard_no_pad s) (alphabet_patterns url_safe_no_pad s)
    (alphabet_filled standard_no_pad (standard.encode_table) s (λ m. append-nil (encode_symbols standard.encode_table m)) long)
    (alphabet_filled url_safe_no_pad (url_safe.encode_table) s (λ m. append-nil (encode_symbols url_safe.encode_table m)) long)

digits_filled : (t s : List ℕ) → 4 ≤ length s → IsFilled (encode_with t s)
digits_filled t s long = record { some = rw (length-encode_with t s) (omega (arith, long)) }

-- of each form
pub All-filled : (s : List ℕ) (form : Form) → 4 ≤ length s → All IsFilled (form_patterns s form)
All-filled s Base64 long = base64_filled s long
All-filled s Hex long = both (encode_with lower_digits s ∷ []) (encode_with upper_digits s ∷ []) (one _ (digits_filled lower_digits s long)) (one _ (digits_filled upper_digits s long))
All-filled s UrlForm long = url_all s (record { some = omega (arith, long) })
All-filled s JsonForm long = json_all s (record { some = omega (arith, long) })
All-filled s XmlForm long = spelled_filled xml_spellings s (record { some = omega (arith, long) })
All-filled s ShellForm long = shell_all s (record { some = omega (arith, long) })
All-filled s Lines long = some_or_none (list_any ends_line s) (flat_map long_line (slice_split ends_line s)) (parts_filled (slice_split ends_line s))
