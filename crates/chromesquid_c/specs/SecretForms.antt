-- The patterns of a secret by the forms of some bits, and what a call puts of them into two rooms.
use Rattle.std.specs.Prelude.{◌≡◌, ◌+◌, ◌<◌, ◌⊎◌, ℕ, List, [], ◌∷◌, length, nat_lt, bit_and}
use Rattle.std.specs.List.{concat, filter}
use Rattle.secret_forms.specs.Forms.{forms_patterns}
use Rattle.secret_forms.specs.Patterns.{added_all}
use Rattle.secret_forms.specs.declared.form.Form.{Form}
use Rattle.secret_forms.specs.declared.form.Form.TheVariants.{Base64, Hex, Url, Json, Xml, Shell, Lines}
use Rattle.chromesquid_c.specs.Replacing.{FitsInto}
use Rattle.chromesquid_c.specs.declared.forms.Laid.{Laid}
use Rattle.chromesquid_c.specs.declared.forms.TheConstants.{FORM_BASE64, FORM_HEX, FORM_URL, FORM_JSON, FORM_XML, FORM_SHELL, FORM_LINES}

-- ---- the forms of some bits

-- the bit of a form
abbrev pub form_bit : Form → ℕ
form_bit Base64 = FORM_BASE64
form_bit Hex = FORM_HEX
form_bit Url = FORM_URL
form_bit Json = FORM_JSON
form_bit Xml = FORM_XML
form_bit Shell = FORM_SHELL
form_bit Lines = FORM_LINES

-- each form, in the order of their bits
abbrev pub each_form : List Form
each_form = Base64 ∷ Hex ∷ Url ∷ Json ∷ Xml ∷ Shell ∷ Lines ∷ []

-- the forms whose bits are set
abbrev pub forms_in : ℕ → List Form
forms_in bits = filter (λ form. nat_lt 0 (bit_and bits (form_bit form))) each_form

-- the patterns of a secret by these forms, each once
abbrev pub patterns_by_bits : ℕ → List ℕ → List (List ℕ)
patterns_by_bits bits secret = added_all [] (forms_patterns (forms_in bits) secret)

-- ---- one behind the other

-- where each pattern ends, the first of which begins at a place
abbrev pub ends_from : ℕ → List (List ℕ) → List ℕ
ends_from at [] = []
ends_from at (pattern ∷ patterns) = (at + length pattern) ∷ ends_from (at + length pattern) patterns

-- where each pattern ends
abbrev pub ends_of : List (List ℕ) → List ℕ
ends_of patterns = ends_from 0 patterns

-- these are the patterns one behind the other, and where each ends
pub record HoldsLaid (patterns : List (List ℕ)) (laid : Laid) : Type 0 where
  pub bytes : laid.bytes.items ≡ concat patterns
  pub ends : laid.ends.items ≡ ends_of patterns

-- so many bytes the patterns have, and so many they are
abbrev pub IsMeasured : List (List ℕ) → ℕ → ℕ → Type 0
IsMeasured patterns len count = (len ≡ length (concat patterns)) × (count ≡ length patterns)

-- one room holds the patterns one behind the other, the other where each ends
abbrev pub PutsForms : List (List ℕ) → (before after ends_before ends_after : List ℕ) → Type 0
PutsForms patterns before after ends_before ends_after =
    FitsInto (concat patterns) before after × FitsInto (ends_of patterns) ends_before ends_after

-- the patterns have more bytes than one room, or are more than the other has places
abbrev pub WantsMore : List (List ℕ) → (room ends : List ℕ) → Type 0
WantsMore patterns room ends = (length room < length (concat patterns)) ⊎ (length ends < length patterns)
