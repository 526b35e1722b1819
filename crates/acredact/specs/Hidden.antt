-- What shows a secret in a form, and that none of it stays.
use Rattle.acredact.specs.Common.{IsMember, Occurrence}
use Rattle.std.specs.Prelude.{◌≡◌, ◌⊎◌, ℕ, ◌+◌, ◌<◌, ◌≤◌, Contains, IsUtf8, List, [], ◌∷◌, ◌++◌, Option, chars, flat_map, length}
use Rattle.base64.specs.Engines.{standard, standard_no_pad, url_safe, url_safe_no_pad}
use Rattle.base64.specs.GeneralPurpose.{encode_of}
use Rattle.hex.specs.Hex.{encode_lower, encode_upper}
use Rattle.aho_core.specs.Cover.{IsCovered}
use Rattle.secret_forms.specs.Escape.{escape_char}
use Rattle.secret_forms.specs.Forms.{form_patterns}
use Rattle.secret_forms.specs.Joined.{joined_word, joined_from, joinings}
use Rattle.secret_forms.specs.Json.{json_char, json_spellings, json_ways}
use Rattle.secret_forms.specs.Law.{HoldsBit, IsOfBytes}
use Rattle.secret_forms.specs.Lines.{line_patterns}
use Rattle.secret_forms.specs.Spelling.{shell_spellings, spelled_byte, url_spellings, xml_spellings}
use Rattle.secret_forms.specs.declared.bytewise.Json.{Json as JsonWay}
use Rattle.secret_forms.specs.declared.bytewise.Spelling.{Spelling}
use Rattle.secret_forms.specs.declared.form.Form.{Form}
use Rattle.secret_forms.specs.declared.joined_form.Joining.{Joining}
use Rattle.secret_forms.specs.declared.form.Form.TheVariants.{Base64, Hex, Url, Json, Xml, Shell, Lines}
use Rattle.acredact.specs.Files.{Work, WritesNamed}
use Rattle.acredact.specs.Forms.{AskedForms}
use Rattle.acredact.specs.Reads.{EachName}
use Rattle.acredact.specs.Secrets.{IsRedaction, Redactor}
use Rattle.acredact.specs.Tables.{Secret}
use Rattle.acredact.specs.declared.forms.Nested.{Nested}

-- in a text stands what was encoded by characters of `width` bits each, the secret within, and the character at a place holds a bit of that
pub record ShowsBits (width : ℕ) (encode : List ℕ → List ℕ) (secret text : List ℕ) (place : ℕ) : Type 0 where
  pub before : List ℕ
  pub after : List ℕ
  pub ahead : List ℕ
  pub behind : List ℕ
  pub at : ℕ
  pub of_bytes : IsOfBytes after
  pub bit : HoldsBit width (length before) (length secret) at
  pub stands : text ≡ ahead ++ (encode (before ++ (secret ++ after)) ++ behind)
  pub there : place ≡ length ahead + at

-- or what was written byte by byte, or character by character, and the one at a place belongs to the secret
pub record SpellsEach (write : ℕ → List ℕ) (secret text : List ℕ) (place : ℕ) : Type 0 where
  pub before : List ℕ
  pub after : List ℕ
  pub ahead : List ℕ
  pub behind : List ℕ
  pub at : ℕ
  pub after_start : length (flat_map write before) ≤ at
  pub before_end : at < length (flat_map write before) + length (flat_map write secret)
  pub stands : text ≡ ahead ++ (flat_map write (before ++ (secret ++ after)) ++ behind)
  pub there : place ≡ length ahead + at

-- by one of some encoders
abbrev pub SpellsForm : List Spelling → (secret text : List ℕ) (place : ℕ) → Type 0
SpellsForm spellings secret text place =
    (spelling : Spelling) × Contains spellings spelling × SpellsEach (spelled_byte spelling) secret text place

-- or by one that looks at the byte before each
pub record JoinsShell (secret text : List ℕ) (place : ℕ) : Type 0 where
  pub joining : Joining
  pub listed : Contains joinings joining
  pub first : Option ℕ
  pub before : List ℕ
  pub after : List ℕ
  pub ahead : List ℕ
  pub behind : List ℕ
  pub at : ℕ
  pub after_start : length (joined_from joining first (before ++ secret)) ≤ at + length (joined_word joining secret)
  pub before_end : at < length (joined_from joining first (before ++ secret))
  pub stands : text ≡ ahead ++ (joined_from joining first (before ++ (secret ++ after)) ++ behind)
  pub there : place ≡ length ahead + at

-- base64 with padding or without, of either alphabet
abbrev pub ShowsBase64 : (secret text : List ℕ) (place : ℕ) → Type 0
ShowsBase64 secret text place =
    ShowsBits 6 (encode_of standard) secret text place ⊎ (ShowsBits 6 (encode_of standard_no_pad) secret text place
    ⊎ (ShowsBits 6 (encode_of url_safe) secret text place ⊎ ShowsBits 6 (encode_of url_safe_no_pad) secret text place))

-- a form of a secret shows at this place
abbrev pub ShowsForm : Form → (secret text : List ℕ) (place : ℕ) → Type 0
ShowsForm Base64 secret text place = ShowsBase64 secret text place
ShowsForm Hex secret text place = ShowsBits 4 encode_lower secret text place ⊎ ShowsBits 4 encode_upper secret text place
ShowsForm Url secret text place =
    SpellsForm url_spellings secret text place ⊎ (IsUtf8 secret × SpellsEach escape_char (chars secret) text place)
ShowsForm Json secret text place =
    SpellsForm json_spellings secret text place
    ⊎ (IsUtf8 secret × (way : JsonWay) × Contains json_ways way × SpellsEach (json_char way) (chars secret) text place)
ShowsForm Xml secret text place = SpellsForm xml_spellings secret text place
ShowsForm Shell secret text place = SpellsForm shell_spellings secret text place ⊎ JoinsShell secret text place
ShowsForm Lines secret text place =
    (line : List ℕ) × Contains (line_patterns secret) line × SpellsEach (λ byte. byte ∷ []) line text place

-- where a form of some secret of four bytes or more shows, it lies in a range that is replaced
abbrev pub NoneShowsOnce : List Form → List Secret → List ℕ → List Occurrence → Type 0
NoneShowsOnce forms secrets text ranges = (form : Form) (secret : Secret) (place : ℕ)
    → Contains forms form → Contains secrets secret → 4 ≤ length secret.pattern
    → ShowsForm form secret.pattern text place → IsCovered (IsMember ranges) place

-- and so does a form of what another form makes of one
abbrev pub NoneShowsTwice : List Nested → List Secret → List ℕ → List Occurrence → Type 0
NoneShowsTwice nested secrets text ranges = (one : Nested) (secret : Secret) (made : List ℕ) (place : ℕ)
    → Contains nested one → Contains secrets secret → 4 ≤ length secret.pattern
    → Contains (form_patterns secret.pattern one.inner) made → ShowsForm one.outer made text place → IsCovered (IsMember ranges) place

-- neither shows elsewhere
pub record NoneShows (asked : AskedForms) (secrets : List Secret) (text : List ℕ) (ranges : List Occurrence) : Type 0 where
  pub once : NoneShowsOnce asked.forms secrets text ranges
  pub twice : NoneShowsTwice asked.nested secrets text ranges

-- the redaction of a text in which none stays
pub record HidesForms (asked : AskedForms) (secrets : List Secret) (r : Redactor) (text redaction : List ℕ) : Type 0 where
  pub redacts : IsRedaction r text redaction
  pub none : NoneShows asked secrets text redacts.ranges

-- that of each file, one after another
abbrev pub AreHidden : AskedForms → List Secret → Work → List (List ℕ) → (left left' held held' : Option (List ℕ)) → Type 0
AreHidden asked secrets work names left left' held held' =
    EachName (WritesNamed work.holds (HidesForms asked secrets work.redactor)) names left left' held held'
