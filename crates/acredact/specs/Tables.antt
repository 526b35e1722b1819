-- What the lines of a file of patterns and of a table hold.
use Rattle.acredact.specs.Common.{All, Bor, ends_with_byte, flat_map, slice_split, strip_last}
use Rattle.std.specs.Prelude.{◌≡◌, ℕ, ◌+◌, ◌-◌, ◌^◌, ◌≤◌, min, Bool, true, false, List, [], ◌∷◌, ◌++◌, Option, Some, None, Vec, codes, length, map, nat_eq, option_map, unwrap_or, if◌then◌else◌}
use Rattle.acredact.specs.Reads.{EachGives}
use Rattle.acredact.specs.declared.patterns.Form.{Form}
use Rattle.acredact.specs.declared.patterns.Place.{Place}
use Rattle.acredact.specs.declared.rule.Rule.{Rule}

-- how a byte stands in a table: a TAB, a line end and a backslash as two bytes, and any other as itself
abbrev pub escape_of : ℕ → List ℕ
escape_of byte =
    if nat_eq byte 9 then codes "\\t"
    else if nat_eq byte 10 then codes "\\n"
    else if nat_eq byte 92 then codes "\\\\"
    else byte ∷ []

-- and how bytes do
abbrev pub in_table : List ℕ → List ℕ
in_table bytes = flat_map escape_of bytes

-- a pattern, and its own replacement where it has one; the number of the option that gives it, and its line in a file, or 0; and the
-- number of the secret of which it is a form, where it is one
pub record Secret : Type 0 where
  pub pattern : List ℕ
  pub replacement : Option (List ℕ)
  pub list : ℕ
  pub line : ℕ
  pub form_of : Option ℕ

abbrev pub secret_of : Rule → Secret
secret_of rule = record {
  pattern = rule.pattern.items;
  replacement = option_map (λ bytes. bytes.items) rule.replacement;
  list = rule.list;
  line = rule.line;
  form_of = rule.form_of;
}

abbrev pub secrets_of : List Rule → List Secret
secrets_of rules = map secret_of rules

-- a line of a file of patterns is a pattern
abbrev pub IsPlain : List ℕ → Secret → Type 0
IsPlain line secret = (secret.pattern ≡ line) × (secret.replacement ≡ None)

-- a line of a table is a pattern as it stands in a table, a TAB, and its replacement as it stands there
abbrev pub IsTableLine : List ℕ → Secret → Type 0
IsTableLine line secret = (piece : List ℕ) × (secret.replacement ≡ Some piece) × (line ≡ in_table secret.pattern ++ (9 ∷ in_table piece))

-- a line, of a table or of a file of patterns, holds a pattern that is not empty
pub record Holds (table : Bool) (line : List ℕ) (secret : Secret) : Type 0 where
  pub some : 1 ≤ length secret.pattern
  pub plain : table ≡ false → IsPlain line secret
  pub row : table ≡ true → IsTableLine line secret

-- the lines of a text, without their line ends: the last may have none
abbrev pub lines_in : List ℕ → List (List ℕ)
lines_in [] = []
lines_in (byte ∷ bytes) = slice_split (λ b. nat_eq b 10) (strip_last 10 (byte ∷ bytes))

-- without a carriage return at its end, where those are left out
abbrev pub stripped_by : Form → List ℕ → List ℕ
stripped_by form line = if form.crlf then strip_last 13 line else line

-- a byte does not stand in a text
abbrev pub IsWithout : ℕ → List ℕ → Type 0
IsWithout byte text = All (λ b. nat_eq b byte ≡ false) text

-- the parts that are left of a text where this byte stands between them: none where nothing is left
abbrev pub parts_left : ℕ → Option (Bor (List ℕ)) → List (List ℕ)
parts_left byte None = []
parts_left byte (Some text) = slice_split (λ b. nat_eq b byte) text.now

-- a line of a file holds a secret: there is no zero byte in it, and a pattern of a file of patterns ends in no carriage return
pub record HoldsBy (form : Form) (line : List ℕ) (secret : Secret) : Type 0 where
  pub holds : Holds form.table (stripped_by form line) secret
  pub no_return : form.table ≡ false → ends_with_byte 13 (stripped_by form line) ≡ false
  pub no_zero : IsWithout 0 (stripped_by form line)

-- a secret stands here
pub record StandsHere (place : Place) (secret : Secret) : Type 0 where
  pub list_is : secret.list ≡ place.list
  pub line_is : secret.line ≡ place.line

-- a line of a file gives the secret that it holds, numbered behind the lines before it; a number stops at the greatest
pub record GivesLine (form : Form) (line : List ℕ) (secrets : List Secret) (before behind : ℕ) : Type 0 where
  pub secret : Secret
  pub are : secrets ≡ secret ∷ []
  pub held : HoldsBy form line secret
  pub numbered : secret.line ≡ min behind (2 ^ 64 - 1)
  pub counted : behind ≡ before + 1

-- and some lines give one each, in order
abbrev pub AreOfLines : Form → List (List ℕ) → List Secret → Type 0
AreOfLines form lines secrets = EachGives (GivesLine form) lines secrets 0 (length lines)

-- what is written for a pattern: its own replacement, or a text where it has none
abbrev pub piece_by : List ℕ → Secret → List ℕ
piece_by text secret = unwrap_or secret.replacement text

-- what a line holds is added
pub record IsAdded (Is : Secret → Type 0) (place : Place) (old new : List Secret) : Type 0 where
  pub secret : Secret
  pub grown : new ≡ old ++ (secret ∷ [])
  pub held : Is secret
  pub stands : StandsHere place secret

-- the same, of the rules before and after
abbrev pub AddsAt : {Z : Type 0} → (Secret → Type 0) → Place → (rules rules' : Vec Rule Z) → Type 0
AddsAt Is place rules rules' = IsAdded Is place (secrets_of rules.items) (secrets_of rules'.items)

-- the bytes of the patterns
abbrev pub patterns_in : List Secret → List (List ℕ)
patterns_in secrets = map (λ secret. secret.pattern) secrets
