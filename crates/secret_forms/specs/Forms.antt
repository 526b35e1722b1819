-- Forms by their names, and several at once.
use Rattle.std.specs.Prelude.{ℕ, All, IsUtf8, List, [], None, Option, Some, bytes_eq, codes, flat_map, if◌then◌else◌}
use Rattle.base64.specs.Engines.{standard, standard_no_pad, url_safe, url_safe_no_pad}
use Rattle.base64.specs.GeneralPurpose.{encode_of}
use Rattle.hex.specs.Hex.{encode_lower, encode_upper}
use Rattle.secret_forms.specs.Base64.{base64_patterns}
use Rattle.secret_forms.specs.Escape.{HidesUrl, url_patterns}
use Rattle.secret_forms.specs.Hex.{hex_patterns}
use Rattle.secret_forms.specs.Joined.{HidesShell, shell_patterns}
use Rattle.secret_forms.specs.Json.{HidesCharacters, json_patterns, json_spellings, json_ways}
use Rattle.secret_forms.specs.Law.{HidesBits}
use Rattle.secret_forms.specs.Lines.{HidesLine, line_patterns}
use Rattle.secret_forms.specs.Patterns.{added_all}
use Rattle.secret_forms.specs.Spelling.{HidesSpelled, spelled_by, xml_spellings}
use Rattle.secret_forms.specs.declared.form.Form.{Form}
use Rattle.secret_forms.specs.declared.form.Form.TheVariants.{Base64, Hex, Url, Json, Xml, Shell, Lines}

-- the name of a form
abbrev pub form_name : Form → List ℕ
form_name Base64 = codes "base64"
form_name Hex = codes "hex"
form_name Url = codes "url"
form_name Json = codes "json"
form_name Xml = codes "xml"
form_name Shell = codes "shell"
form_name Lines = codes "lines"

-- the form of a name
abbrev pub form_of_name : List ℕ → Option Form
form_of_name name =
    if bytes_eq name (codes "base64") then Some Base64 else if bytes_eq name (codes "hex") then Some Hex
    else if bytes_eq name (codes "url") then Some Url else if bytes_eq name (codes "json") then Some Json
    else if bytes_eq name (codes "xml") then Some Xml else if bytes_eq name (codes "shell") then Some Shell
    else if bytes_eq name (codes "lines") then Some Lines else None

-- the patterns of a secret by a form
abbrev pub form_patterns : List ℕ → Form → List (List ℕ)
form_patterns secret Base64 = base64_patterns secret
form_patterns secret Hex = hex_patterns secret
form_patterns secret Url = url_patterns secret
form_patterns secret Json = json_patterns secret
form_patterns secret Xml = spelled_by xml_spellings secret
form_patterns secret Shell = shell_patterns secret
form_patterns secret Lines = line_patterns secret

-- the patterns of a secret by each of some forms
abbrev pub forms_patterns : List Form → List ℕ → List (List ℕ)
forms_patterns forms secret = flat_map (form_patterns secret) forms

-- the patterns that an inner form makes of a secret, each once
abbrev pub inner_patterns : List ℕ → Form → List (List ℕ)
inner_patterns secret inner = added_all [] (form_patterns secret inner)

-- the patterns of some patterns, each of them as a secret
abbrev pub nested_patterns : List (List ℕ) → Form → List (List ℕ)
nested_patterns inner outer = flat_map (λ one. form_patterns one outer) inner

-- base64 with padding or without, of either alphabet
abbrev pub HidesBase64 : List (List ℕ) → List ℕ → Type 0
HidesBase64 patterns secret =
    HidesBits 6 (encode_of standard) patterns secret × HidesBits 6 (encode_of standard_no_pad) patterns secret
    × HidesBits 6 (encode_of url_safe) patterns secret × HidesBits 6 (encode_of url_safe_no_pad) patterns secret

-- JSON strings of a text's own encoding, and those of ASCII alone where the secret is of whole characters
abbrev pub HidesJson : List (List ℕ) → List ℕ → Type 0
HidesJson patterns secret =
    All (HidesSpelled patterns secret) json_spellings × (IsUtf8 secret → All (HidesCharacters patterns secret) json_ways)

-- a form shows no character that holds a bit of the secret outside the patterns
abbrev pub HidesForm : List (List ℕ) → List ℕ → Form → Type 0
HidesForm patterns secret Base64 = HidesBase64 patterns secret
HidesForm patterns secret Hex = HidesBits 4 encode_lower patterns secret × HidesBits 4 encode_upper patterns secret
HidesForm patterns secret Url = HidesUrl patterns secret
HidesForm patterns secret Json = HidesJson patterns secret
HidesForm patterns secret Xml = All (HidesSpelled patterns secret) xml_spellings
HidesForm patterns secret Shell = HidesShell patterns secret
HidesForm patterns secret Lines = All (HidesLine patterns) (line_patterns secret)

-- what an inner form makes of a secret is hidden as a secret of the outer form is
abbrev pub HidesNested : List (List ℕ) → Form → List ℕ → Type 0
HidesNested patterns outer inner = HidesForm patterns inner outer
