-- Patterns that hold those of a form hide what the form shows.
use Rattle.std.proofs.Common.{◌≡◌, ℕ, ◌≤◌, Bool, true, false, List, [], ◌∷◌, length, map, refl, sym, subst, arith}
use Rattle.std.specs.Prelude.{All, Contains, chars, cond, flat_map}
use Rattle.std.specs.Str.{is_utf8}
use Rattle.std.proofs.lemmas.List.{append-nil, map-id}
use Rattle.std.proofs.lemmas.List.Concat.{flat_map_single}
use Rattle.std.proofs.lemmas.List.Elements.{Contains-append_left, Contains-append_right}
use Rattle.std.proofs.lemmas.Str.{is_utf8-from_IsUtf8}
use Rattle.base64.specs.Engines.{standard, standard_no_pad, url_safe, url_safe_no_pad}
use Rattle.base64.specs.Rfc4648.{encode, encode_symbols}
use Rattle.hex.specs.Hex.{lower_digits, upper_digits}
use Rattle.secret_forms.specs.Base64.{alphabet_patterns, base64_patterns}
use Rattle.secret_forms.specs.Escape.{HidesUrl, escape_char, escape_patterns, escaped, url_patterns}
use Rattle.secret_forms.specs.Forms.{HidesForm, HidesBase64, HidesJson, form_patterns}
use Rattle.secret_forms.specs.Joined.{HidesJoined, HidesShell, joined_word, joined_words, joinings, shell_patterns}
use Rattle.secret_forms.specs.Json.{HidesCharacters, json_char, json_patterns, json_spellings, json_ways, numbered, numbered_by}
use Rattle.secret_forms.specs.Law.{HidesBits}
use Rattle.secret_forms.specs.Lines.{HidesLine, line_patterns}
use Rattle.secret_forms.specs.Patterns.{added_all}
use Rattle.secret_forms.specs.Spelling.{HidesSpelled, shell_spellings, spelled, spelled_by, spelled_byte, url_spellings, xml_spellings}
use Rattle.secret_forms.specs.declared.bytewise.Json.{Json}
use Rattle.secret_forms.specs.declared.bytewise.Spelling.{Spelling}
use Rattle.secret_forms.specs.declared.joined_form.Joining.{Joining}
use Rattle.secret_forms.specs.declared.form.Form.{Form}
use Rattle.secret_forms.specs.declared.form.Form.TheVariants.{Base64, Hex, Url, Json as JsonForm, Xml, Shell, Lines}
use Rattle.secret_forms.proofs.Alphabets.{HasShifts-alphabet}
use Rattle.secret_forms.proofs.Base64Law.{HidesBits-base64, HasShifts}
use Rattle.secret_forms.proofs.EachLaw.{All-held, Contains-flat_map, Contains-map, HidesEach-listed}
use Rattle.secret_forms.proofs.HexLaw.{HidesBits-hex}
use Rattle.secret_forms.proofs.JoinedLaw.{HidesJoined-listed}
use Rattle.secret_forms.proofs.Members.{Contains-added_all_new}

-- each of some patterns is among others
abbrev pub Has : (patterns some : List (List ℕ)) → Type 0
Has patterns some = (x : List ℕ) → Contains some x → Contains patterns x

has_standard : (patterns : List (List ℕ)) (s : List ℕ) → Has patterns (base64_patterns s) → HasShifts patterns standard_no_pad s
has_standard patterns s has = HasShifts-alphabet patterns standard_no_pad s
    (λ x held. has x (Contains-append_left (alphabet_patterns standard_no_pad s) (alphabet_patterns url_safe_no_pad s) x held))

has_url : (patterns : List (List ℕ)) (s : List ℕ) → Has patterns (base64_patterns s) → HasShifts patterns url_safe_no_pad s
has_url patterns s has = HasShifts-alphabet patterns url_safe_no_pad s
    (λ x held. has x (Contains-append_right (alphabet_patterns standard_no_pad s) (alphabet_patterns url_safe_no_pad s) x held))

hides_standard : (patterns : List (List ℕ)) (s : List ℕ) (padding : Bool) → 1 ≤ length s → Has patterns (base64_patterns s)
    → HidesBits 6 (encode standard.encode_table 61 padding) patterns s
hides_standard patterns s padding some has =
    HidesBits-base64 patterns standard_no_pad (standard.encode_table) s 61 padding (λ m. append-nil (encode_symbols standard.encode_table m)) (has_standard patterns s has) some

hides_url : (patterns : List (List ℕ)) (s : List ℕ) (padding : Bool) → 1 ≤ length s → Has patterns (base64_patterns s)
    → HidesBits 6 (encode url_safe.encode_table 61 padding) patterns s
hides_url patterns s padding some has =
    HidesBits-base64 patterns url_safe_no_pad (url_safe.encode_table) s 61 padding (λ m. append-nil (encode_symbols url_safe.encode_table m)) (has_url patterns s has) some

HidesBase64-held : (patterns : List (List ℕ)) (s : List ℕ) → 1 ≤ length s → Has patterns (base64_patterns s) → HidesBase64 patterns s
HidesBase64-held patterns s some has =
    (hides_standard patterns s true some has, hides_standard patterns s false some has, hides_url patterns s true some has, hides_url patterns s false some has)

-- of encoders that work byte by byte
pub HidesSpelled-held : (patterns : List (List ℕ)) (s : List ℕ) (spellings : List Spelling) → Has patterns (spelled_by spellings s)
    → All (HidesSpelled patterns s) spellings
HidesSpelled-held patterns s spellings has = All-held (HidesSpelled patterns s) spellings
    (λ one there. HidesEach-listed (spelled_byte one) patterns s (has (spelled one s) (Contains-map (λ (u : Spelling). spelled u s) spellings one there)))

-- of encoders that work character by character
HidesCharacters-held : (patterns : List (List ℕ)) (s : List ℕ) (ways : List Json) → Has patterns (numbered_by ways (chars s))
    → All (HidesCharacters patterns s) ways
HidesCharacters-held patterns s ways has = All-held (HidesCharacters patterns s) ways
    (λ one there. HidesEach-listed (json_char one) patterns (chars s) (has (numbered one (chars s)) (Contains-map (λ (u : Json). numbered u (chars s)) ways one there)))

whole_characters : (s x : List ℕ) → is_utf8 s ≡ true → Contains (numbered_by json_ways (chars s)) x → Contains (json_patterns s) x
whole_characters s x valid held =
    Contains-append_right (spelled_by json_spellings s) (cond (is_utf8 s) (numbered_by json_ways (chars s)) []) x (rw valid held)

pub HidesJson-held : (patterns : List (List ℕ)) (s : List ℕ) → Has patterns (json_patterns s) → HidesJson patterns s
HidesJson-held patterns s has = (
  HidesSpelled-held patterns s json_spellings
      (λ x held. has x (Contains-append_left (spelled_by json_spellings s) (cond (is_utf8 s) (numbered_by json_ways (chars s)) []) x held)),
  λ text. HidesCharacters-held patterns s json_ways (λ x held. has x (whole_characters s x (is_utf8-from_IsUtf8 s text) held)),
)

has_escape : (s : List ℕ) → is_utf8 s ≡ true → Contains (url_patterns s) (escaped (chars s))
has_escape s valid =
    Contains-append_right (spelled_by url_spellings s) (escape_patterns s) (escaped (chars s)) (rw valid (0, omega arith, refl))

pub HidesUrl-held : (patterns : List (List ℕ)) (s : List ℕ) → Has patterns (url_patterns s) → HidesUrl patterns s
HidesUrl-held patterns s has = (
  HidesSpelled-held patterns s url_spellings (λ x held. has x (Contains-append_left (spelled_by url_spellings s) (escape_patterns s) x held)),
  λ text. HidesEach-listed escape_char patterns (chars s) (has (escaped (chars s)) (has_escape s (is_utf8-from_IsUtf8 s text))),
)

-- of encoders that look at the byte before each
HidesJoined-held : (patterns : List (List ℕ)) (s : List ℕ) (all : List Joining) → 1 ≤ length s → Has patterns (joined_words all s)
    → All (HidesJoined patterns s) all
HidesJoined-held patterns s all some has = All-held (HidesJoined patterns s) all
    (λ one there. HidesJoined-listed one patterns s some (has (joined_word one s) (Contains-map (λ (u : Joining). joined_word u s) all one there)))

HidesShell-held : (patterns : List (List ℕ)) (s : List ℕ) → 1 ≤ length s → Has patterns (shell_patterns s) → HidesShell patterns s
HidesShell-held patterns s some has = (
  HidesSpelled-held patterns s shell_spellings (λ x held. has x (Contains-append_left (spelled_by shell_spellings s) (joined_words joinings s) x held)),
  HidesJoined-held patterns s joinings some (λ x held. has x (Contains-append_right (spelled_by shell_spellings s) (joined_words joinings s) x held)),
)

-- of lines
pub HidesLine-held : (patterns lines : List (List ℕ)) → Has patterns lines → All (HidesLine patterns) lines
HidesLine-held patterns lines has = All-held (HidesLine patterns) lines
    (λ line there. HidesEach-listed (λ byte. byte ∷ []) patterns line (rw (flat_map_single (λ (b : ℕ). b) line) (has_line line there)))
  where
    has_line : (line : List ℕ) → Contains lines line → Contains patterns (map (λ b. b) line)
    has_line line there = rw (map-id line) (has line there)

-- of each form
pub HidesForm-held : (patterns : List (List ℕ)) (s : List ℕ) (form : Form) → 1 ≤ length s → Has patterns (form_patterns s form) → HidesForm patterns s form
HidesForm-held patterns s Base64 some has = HidesBase64-held patterns s some has
HidesForm-held patterns s Hex some has =
    (HidesBits-hex lower_digits patterns s (has _ (0, omega arith, refl)), HidesBits-hex upper_digits patterns s (has _ (1, omega arith, refl)))
HidesForm-held patterns s Url some has = HidesUrl-held patterns s has
HidesForm-held patterns s JsonForm some has = HidesJson-held patterns s has
HidesForm-held patterns s Xml some has = HidesSpelled-held patterns s xml_spellings has
HidesForm-held patterns s Shell some has = HidesShell-held patterns s some has
HidesForm-held patterns s Lines some has = HidesLine-held patterns (line_patterns s) has

pub HidesForm-all : (patterns : List (List ℕ)) (s : List ℕ) (forms : List Form) → 1 ≤ length s
    → Has patterns (flat_map (form_patterns s) forms) → All (HidesForm patterns s) forms
HidesForm-all patterns s forms some has = All-held (HidesForm patterns s) forms
    (λ form there. HidesForm-held patterns s form some (λ x held. has x (Contains-flat_map (form_patterns s) forms form x there held)))

-- the same of what a call made
pub HidesForm-made : (made start : List (List ℕ)) (s : List ℕ) (form : Form) → 1 ≤ length s → made ≡ added_all start (form_patterns s form)
    → HidesForm made s form
HidesForm-made made start s form some is =
    let Hides : List (List ℕ) → Type 0 = λ patterns. HidesForm patterns s form in
    subst Hides (sym is) (HidesForm-held (added_all start (form_patterns s form)) s form some (Contains-added_all_new (form_patterns s form) start))
