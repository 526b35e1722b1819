-- Forms of patterns: which are asked for, and which patterns they are.
use Rattle.acredact.specs.Common.{All, bytes_eq, slice_split}
use Rattle.std.specs.Prelude.{◌≡◌, ℕ, ◌≤◌, ◌||◌, Bool, List, [], ◌∷◌, ◌++◌, Option, Some, None, Vec, codes, flat_map, is_some, length, map, nat_eq, nat_lt, option_and_then, option_map, if◌then◌else◌}
use Rattle.std.specs.List.{enumerate_from, filter, filter_map, list_all, list_any}
use Rattle.secret_forms.specs.Forms.{HidesForm, HidesNested, form_name, form_patterns, forms_patterns, inner_patterns, nested_patterns}
use Rattle.secret_forms.specs.Patterns.{added_all}
use Rattle.secret_forms.specs.declared.form.Form.{Form as SecretForm}
use Rattle.secret_forms.specs.declared.form.Form.TheVariants.{Base64, Hex, Url, Json, Xml, Shell, Lines}
use Rattle.acredact.specs.Tables.{Secret, secrets_of}
use Rattle.acredact.specs.declared.forms.Asked.{Asked}
use Rattle.acredact.specs.declared.forms.Nested.{Nested}
use Rattle.acredact.specs.declared.rule.Rule.{Rule}

-- a form is called so
abbrev pub is_called : List ℕ → SecretForm → Bool
is_called name form = bytes_eq name (form_name form)

abbrev pub all_forms : List SecretForm
all_forms = Base64 ∷ Hex ∷ Url ∷ Json ∷ Xml ∷ Shell ∷ Lines ∷ []

-- the form that is called so
abbrev pub form_called : List ℕ → Option SecretForm
form_called name =
    if is_called name Base64 then Some Base64 else if is_called name Hex then Some Hex else if is_called name Url then Some Url
    else if is_called name Json then Some Json else if is_called name Xml then Some Xml
    else if is_called name Shell then Some Shell else if is_called name Lines then Some Lines else None

-- what stands before the first place of a byte, and behind it
abbrev pub split_first : ℕ → List ℕ → Option (List ℕ × List ℕ)
split_first byte [] = None
split_first byte (x ∷ text) = if nat_eq x byte then Some ([], text) else option_map (λ (parts : List ℕ × List ℕ). (x ∷ parts.0, parts.1)) (split_first byte text)

-- two forms, where both are there: the outer one of what the inner one makes
abbrev pub nested_by : Option SecretForm → Option SecretForm → Option Nested
nested_by None outer = None
nested_by (Some inner) outer = option_map (λ (form : SecretForm). record { inner = inner; outer = form }) outer

-- the form of a form that is called so: the inner one's name, `+`, and the outer one's
abbrev pub nested_called : List ℕ → Option Nested
nested_called name =
    option_and_then (λ (parts : List ℕ × List ℕ). nested_by (form_called parts.0) (form_called parts.1)) (split_first 43 name)

-- names stand in a value with commas between them
abbrev pub names_in : List ℕ → List (List ℕ)
names_in value = slice_split (λ b. nat_eq b 44) value

abbrev pub is_all : List ℕ → Bool
is_all name = bytes_eq name (codes "all")

-- this names a form, all of them, or a form of a form
abbrev pub is_asked : List ℕ → Bool
is_asked name = is_all name || is_some (form_called name) || is_some (nested_called name)

abbrev pub are_forms : List ℕ → Bool
are_forms value = list_all is_asked (names_in value)

-- this names the form, by itself or with all
abbrev pub names_form : List ℕ → SecretForm → Bool
names_form name form = is_all name || is_called name form

abbrev pub asks_for : List ℕ → SecretForm → Bool
asks_for value form = list_any (λ name. names_form name form) (names_in value)

-- the forms that a value names, each once
abbrev pub forms_named : List ℕ → List SecretForm
forms_named value = filter (asks_for value) all_forms

-- and the forms of forms
abbrev pub nested_named : List ℕ → List Nested
nested_named value = filter_map nested_called (names_in value)

-- which forms are asked for: of secrets, and of what other forms make of them
pub record AskedForms : Type 0 where
  pub forms : List SecretForm
  pub nested : List Nested

abbrev pub asked_forms : Asked → AskedForms
asked_forms asked = record { forms = asked.forms.items; nested = asked.nested.items }

abbrev pub forms_asked : Option (List ℕ) → AskedForms
forms_asked None = record { forms = []; nested = [] }
forms_asked (Some value) = record { forms = forms_named value; nested = nested_named value }

-- the patterns of some forms of a secret
abbrev pub once_patterns : List SecretForm → List ℕ → List (List ℕ)
once_patterns forms pattern = added_all [] (forms_patterns forms pattern)

-- those of a form of what another makes of it
abbrev pub twice_patterns : List ℕ → Nested → List (List ℕ)
twice_patterns pattern nested = added_all [] (nested_patterns (inner_patterns pattern nested.inner) nested.outer)

-- and those of several of them
abbrev pub each_twice : List ℕ → List Nested → List (List ℕ)
each_twice pattern nested = flat_map (twice_patterns pattern) nested

-- the patterns that are not empty
abbrev pub filled : List (List ℕ) → List (List ℕ)
filled patterns = filter (λ pattern. nat_lt 0 (length pattern)) patterns

abbrev pub asked_form_patterns : AskedForms → List ℕ → List (List ℕ)
asked_form_patterns asked pattern = once_patterns asked.forms pattern ++ each_twice pattern asked.nested

-- such a pattern is replaced as that of its secret is, and counts for it
abbrev pub form_secret : ℕ → Secret → List ℕ → Secret
form_secret number secret pattern =
    record { pattern = pattern; replacement = secret.replacement; list = secret.list; line = 0; form_of = Some number }

-- these secrets are added
abbrev pub AddsSecrets : {Z : Type 0} → List Secret → (rules rules' : Vec Rule Z) → Type 0
AddsSecrets more rules rules' = secrets_of rules'.items ≡ secrets_of rules.items ++ more

-- the forms of a secret that has this number; one of fewer than four bytes has none
abbrev pub forms_of : AskedForms → ℕ → Secret → List Secret
forms_of asked number secret =
    if nat_lt (length secret.pattern) 4 then [] else map (form_secret number secret) (filled (asked_form_patterns asked secret.pattern))

-- those of all secrets, in order, which are numbered from this number on
abbrev pub forms_from : AskedForms → ℕ → List Secret → List Secret
forms_from asked number secrets = flat_map (λ (one : ℕ × Secret). forms_of asked one.0 one.1) (enumerate_from number secrets)

-- secrets, and behind them their forms
abbrev pub with_forms : AskedForms → List Secret → List Secret
with_forms asked secrets = secrets ++ forms_from asked 0 secrets

-- none of the forms shows a character that holds a bit of the secret outside the patterns
abbrev pub HidesOnce : List SecretForm → List ℕ → Type 0
HidesOnce forms pattern = All (HidesForm (once_patterns forms pattern) pattern) forms

-- nor shows a form of a form one that holds a bit of what the inner one makes of it
abbrev pub HidesNestedForm : List ℕ → Nested → Type 0
HidesNestedForm pattern one = All (HidesNested (twice_patterns pattern one) one.outer) (form_patterns pattern one.inner)

abbrev pub HidesTwice : List Nested → List ℕ → Type 0
HidesTwice nested pattern = All (HidesNestedForm pattern) nested

abbrev pub HidesSecret : AskedForms → Secret → Type 0
HidesSecret asked secret = 4 ≤ length secret.pattern → HidesOnce asked.forms secret.pattern × HidesTwice asked.nested secret.pattern

abbrev pub HideSecrets : AskedForms → List Secret → Type 0
HideSecrets asked secrets = All (HidesSecret asked) secrets

-- the forms that a value names stand behind these rules
abbrev pub AddsForms : {Z : Type 0} → Option (List ℕ) → (rules rules' : Vec Rule Z) → Type 0
AddsForms value rules rules' = secrets_of rules'.items ≡ with_forms (forms_asked value) (secrets_of rules.items)
