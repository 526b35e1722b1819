-- What is so of the redaction of each file: no pattern occurs where the pieces are clean, and what shows a secret in a form lies in a replaced range.
use Rattle.acredact.proofs.Common.{AreCleanBy, Call, EachName, Forms, FromWrite, Given, IsMember, IsRedaction, List, Loaded, MatchBool, NoByteIsKept, None, NoneIsWhole, Occurrence, OfName, Option, Patterns, Redactor, Secret, Some, Work, Writers, WritesText, [], all_named, ap, arith, asked_form_patterns, covers_asked, false, filled, folded_word, form_secret, forms_from, get_or, has, if◌then◌else◌, inl, inr, is_input, is_some, length, length-append, map-map, named_secret, names_asked, nat_lt, pattern_at, patterns_in, plain_search, pseudonym_rule, refl, subst, suc, sym, take, take_at, true, twice_patterns, words_asked, work_by, zero, ℕ, ◌++◌, ◌+◌, ◌-◌, ◌∙◌, ◌∷◌, ◌≡◌, ◌≤◌}
use Rattle.std.proofs.Common.{Bool, cond, slice_range}
use Rattle.std.specs.List.{enumerate_from}
use Rattle.std.specs.Prelude.{All, Contains, chars}
use Rattle.std.proofs.lemmas.Bool.{le-ltb, lt-ltb}
use Rattle.std.proofs.lemmas.List.Elements.{All-contains, Contains-append_left, Contains-append_right}
use Rattle.std.proofs.lemmas.List.{drop_at, get_or_default}
use Rattle.std.proofs.lemmas.List.FromFn.{get_or-enumerate_from, length-enumerate_from}
use Rattle.base64.specs.Engines.{standard, standard_no_pad, url_safe, url_safe_no_pad}
use Rattle.base64.specs.GeneralPurpose.{encode_of}
use Rattle.hex.specs.Hex.{encode_lower, encode_upper}
use Rattle.aho_core.specs.Cover.{IsCovered}
use Rattle.aho_core.specs.Occurs.{OccursIn}
use Rattle.secret_forms.proofs.EachLaw.{Contains-flat_map, Contains-map}
use Rattle.secret_forms.specs.Forms.{HidesForm, HidesNested, form_patterns, forms_patterns, inner_patterns}
use Rattle.secret_forms.proofs.FormLaw.{HidesForm-all}
use Rattle.secret_forms.proofs.Members.{Contains-added_all_new}
use Rattle.secret_forms.proofs.NestedLaw.{HidesNested-made}
use Rattle.secret_forms.specs.Joined.{HidesJoined, joinings}
use Rattle.secret_forms.specs.Json.{HidesCharacters, json_spellings, json_ways}
use Rattle.secret_forms.specs.Law.{HidesBits, HidesEach, IsHidden}
use Rattle.secret_forms.specs.Lines.{HidesLine, line_patterns}
use Rattle.secret_forms.specs.Spelling.{HidesSpelled, shell_spellings, url_spellings, xml_spellings}
use Rattle.secret_forms.specs.declared.bytewise.Spelling.{Spelling}
use Rattle.secret_forms.specs.declared.form.Form.{Form}
use Rattle.secret_forms.specs.declared.form.Form.TheVariants.{Base64, Hex, Url, Json, Xml, Shell, Lines}
use Rattle.acredact.specs.Files.{AreFree, AreRedacted, WritesNamed}
use Rattle.acredact.specs.Forms.{AskedForms, HideSecrets, HidesNestedForm, HidesSecret, each_twice, forms_of, once_patterns, with_forms}
use Rattle.acredact.specs.Hidden.{HidesForms, NoneShowsOnce, NoneShowsTwice, ShowsBits, SpellsEach, ShowsForm, SpellsForm}
use Rattle.acredact.specs.Calls.{HidesCall, RedactsCall}
use Rattle.acredact.specs.Loading.{secrets_by}
use Rattle.acredact.specs.declared.options.Word.TheVariants.{IgnoreCase}

-- what is so of a text is so of that of a name
pub named_as : (holds : List ℕ → Option (List ℕ)) (name : List ℕ) (One Other : Option (List ℕ) → Option (List ℕ) → Type 0) → ((l l' : Option (List ℕ)) → One l l' → Other l l')
    → (left left' : Option (List ℕ)) → OfName holds name One left left' → OfName holds name Other left left'
named_as holds name One Other to left left' is = by (is_input name) is
  where
    by : (b : Bool) → MatchBool b (One left left') ((left' ≡ left) × (rest : Option (List ℕ)) × One (holds name) rest) → MatchBool b (Other left left') ((left' ≡ left) × (rest : Option (List ℕ)) × Other (holds name) rest)
    by true here = to left left' here
    by false (same, rest, there) = (same, rest, to (holds name) rest there)

-- what is written of each file is this too, where the redaction of a text is
pub each_written_as : (work : Work) {Other : List ℕ → List ℕ → Type 0} → ((text redaction : List ℕ) → IsRedaction work.redactor text redaction → Other text redaction)
    → (names : List (List ℕ)) (left left' held held' : Option (List ℕ)) → AreRedacted work names left left' held held' → EachName (WritesNamed work.holds Other) names left left' held held'
each_written_as work to [] left left' held held' are = are
each_written_as work {Other} to (name ∷ names) left left' held held' (between, meanwhile, (apart, is), others) = (
  between,
  meanwhile,
  named_as work.holds name (λ l l'. WritesText (IsRedaction work.redactor) l l' held meanwhile) (λ l l'. WritesText Other l l' held meanwhile)
      (λ l l' of. record { text = of.text; reads = of.reads; is = (of.is.0, to of.text of.is.0 of.is.1, of.is.2) }) left between is,
  each_written_as work to names between left' meanwhile held' others,
)

-- where the pieces of a cover are clean no pattern occurs in what was written
pub free_of : (work : Work) → work.redactor.covers ≡ true → work.redactor.words ≡ false → AreCleanBy (is_some work.redactor.key) work.redactor.patterns work.redactor.pieces → (names : List (List ℕ)) (left left' held held' : Option (List ℕ)) → AreRedacted work names left left' held held' → AreFree work names left left' held held'
free_of work covers all clean = each_written_as work (λ text redaction is. (is, is.clean covers all clean))

-- the patterns of all forms that are asked for hide what they are of
pub hide_secrets : (asked : AskedForms) (secrets : List Secret) → HideSecrets asked secrets
hide_secrets asked secrets = λ number d within long.
    let pattern = (get_or secrets number d).pattern in (
      HidesForm-all (once_patterns asked.forms pattern) pattern asked.forms (omega (arith, long)) (Contains-added_all_new (forms_patterns asked.forms pattern) []),
      λ k other below.
          let one = get_or asked.nested k other in
          HidesNested-made (twice_patterns pattern one) (inner_patterns pattern one.inner) [] [] pattern one.inner one.outer long refl refl,
    )

-- what a form hides is hidden where it shows
module _ (patterns : List (List ℕ)) (secret text : List ℕ) (place : ℕ) where
  bits_hidden : (width : ℕ) (encode : List ℕ → List ℕ) → HidesBits width encode patterns secret → ShowsBits width encode secret text place → IsHidden patterns text place
  bits_hidden width encode law shows = rw (shows.stands, shows.there) (law shows.before shows.after shows.ahead shows.behind shows.at shows.of_bytes shows.bit)

  each_hidden : (write : ℕ → List ℕ) (part : List ℕ) → HidesEach write patterns part → SpellsEach write part text place → IsHidden patterns text place
  each_hidden write part law shows = rw (shows.stands, shows.there) (law shows.before shows.after shows.ahead shows.behind shows.at shows.after_start shows.before_end)

  spelled_hidden : (spellings : List Spelling) → All (HidesSpelled patterns secret) spellings → SpellsForm spellings secret text place → IsHidden patterns text place
  spelled_hidden spellings law (spelling, listed, shows) = each_hidden _ secret (All-contains (HidesSpelled patterns secret) spellings spelling law listed) shows

  form_hidden : (form : Form) → HidesForm patterns secret form → ShowsForm form secret text place → IsHidden patterns text place
  form_hidden Base64 (a, b, c, d) (inl shows) = bits_hidden 6 (encode_of standard) a shows
  form_hidden Base64 (a, b, c, d) (inr (inl shows)) = bits_hidden 6 (encode_of standard_no_pad) b shows
  form_hidden Base64 (a, b, c, d) (inr (inr (inl shows))) = bits_hidden 6 (encode_of url_safe) c shows
  form_hidden Base64 (a, b, c, d) (inr (inr (inr shows))) = bits_hidden 6 (encode_of url_safe_no_pad) d shows
  form_hidden Hex (a, b) (inl shows) = bits_hidden 4 encode_lower a shows
  form_hidden Hex (a, b) (inr shows) = bits_hidden 4 encode_upper b shows
  form_hidden Url (law, others) (inl shows) = spelled_hidden url_spellings law shows
  form_hidden Url (law, others) (inr (utf8, shows)) = each_hidden _ (chars secret) (others utf8) shows
  form_hidden Json (law, others) (inl shows) = spelled_hidden json_spellings law shows
  form_hidden Json (law, others) (inr (utf8, way, listed, shows)) = each_hidden _ (chars secret) (All-contains (HidesCharacters patterns secret) json_ways way (others utf8) listed) shows
  form_hidden Xml law shows = spelled_hidden xml_spellings law shows
  form_hidden Shell (law, others) (inl shows) = spelled_hidden shell_spellings law shows
  form_hidden Shell (law, others) (inr shows) =
      let joined = All-contains (HidesJoined patterns secret) joinings shows.joining others shows.listed in
      rw (shows.stands, shows.there) (joined shows.first shows.before shows.after shows.ahead shows.behind shows.at shows.after_start shows.before_end)
  form_hidden Lines law (line, listed, shows) = each_hidden _ line (All-contains (HidesLine patterns) (line_patterns secret) line law listed) shows

-- a pattern that stands in a text occurs there, so what is hidden by some of the patterns that are searched for is covered
hidden_covered : (p : Patterns) (patterns : List (List ℕ)) (text : List ℕ) (place : ℕ) → ((pattern : List ℕ) → 1 ≤ length pattern → Contains patterns pattern → Contains p.words pattern)
    → IsHidden patterns text place → IsCovered (OccursIn p (plain_search text)) place
hidden_covered p patterns text place within hidden =
    let (number, below, is) = within hidden.pattern (omega (arith, hidden.after_start, hidden.before_end)) hidden.listed in
    let at : pattern_at p number ≡ hidden.pattern = get_or_default p.words number [] hidden.pattern below ∙ is in
    let from = length hidden.ahead in
    let upto = from + length hidden.pattern in
    let there : slice_range text from upto ≡ hidden.pattern =
    ap (λ (l : List ℕ). slice_range l from upto) hidden.occurs ∙ ap (take (upto - from)) (drop_at hidden.ahead (hidden.pattern ++ hidden.behind) from refl) ∙ take_at hidden.pattern hidden.behind (upto - from) (omega arith) in
    record {
      found = record { pattern = number; start = from; end = upto };
      member = record {
        numbered = below;
        after_start = omega arith;
        before_end = omega (arith, ap length hidden.occurs, length-append hidden.ahead (hidden.pattern ++ hidden.behind), length-append hidden.pattern hidden.behind);
        sized = omega (arith, ap length at);
        same = ap (folded_word p) (at ∙ sym there);
        admitted = λ yes. absurd (cc);
      };
      after_start = hidden.after_start;
      before_end = hidden.before_end;
    }

-- one that is not empty stays among those that are not
contains_filled : (patterns : List (List ℕ)) (pattern : List ℕ) → 1 ≤ length pattern → Contains patterns pattern → Contains (filled patterns) pattern
contains_filled [] pattern some (k, below, is) = absurd (omega (arith, below))
contains_filled (p ∷ patterns) pattern some (zero, below, is) = rw (lt-ltb 0 (length p) (omega (arith, some, ap length is))) (0, omega arith, is)
contains_filled (p ∷ patterns) pattern some (suc k, below, is) = by (nat_lt 0 (length p)) (contains_filled patterns pattern some (k, omega (arith, below), is))
  where
    by : (b : Bool) → Contains (filled patterns) pattern → Contains (cond b (p ∷ filled patterns) (filled patterns)) pattern
    by true listed = Contains-append_right (p ∷ []) (filled patterns) pattern listed
    by false listed = listed

-- the patterns of a secret's forms are among all
form_among : (asked : AskedForms) (secrets : List Secret) (secret : Secret) (pattern : List ℕ) → Contains secrets secret → 4 ≤ length secret.pattern → 1 ≤ length pattern
    → Contains (asked_form_patterns asked secret.pattern) pattern → Contains (patterns_in (with_forms asked secrets)) pattern
form_among asked secrets secret pattern (at, below, is) long some listed =
    let numbered : Contains (enumerate_from 0 secrets) (at, secret) =
    (at, omega (arith, below, length-enumerate_from 0 secrets), get_or-enumerate_from 0 secrets at (at, secret) below ∙ ap (λ (i : ℕ). (i, get_or secrets at secret)) (omega arith) ∙ ap (λ (s : Secret). (at, s)) is) in
    let made : Contains (forms_of asked at secret) (form_secret at secret pattern) =
    rw (le-ltb (length secret.pattern) 4 long) (Contains-map (form_secret at secret) (filled (asked_form_patterns asked secret.pattern)) pattern (contains_filled (asked_form_patterns asked secret.pattern) pattern some listed)) in
    Contains-map (λ (s : Secret). s.pattern) (with_forms asked secrets) (form_secret at secret pattern)
    (Contains-append_right secrets (forms_from asked 0 secrets) _ (Contains-flat_map (λ (one : ℕ × Secret). forms_of asked one.0 one.1) (enumerate_from 0 secrets) (at, secret) _ numbered made))

-- no form shows what stays of a text
module _ (asked : AskedForms) (secrets : List Secret) (r : Redactor) (covers : r.covers ≡ true) (all : r.words ≡ false) (words : r.patterns.words ≡ patterns_in (with_forms asked secrets)) (laws : HideSecrets asked secrets) where
  module _ (text : List ℕ) (ranges : List Occurrence) (kept : NoByteIsKept r text ranges) where
    -- what some of the patterns of a secret's forms hide lies in a replaced range
    none_kept : (secret : Secret) (place : ℕ) (patterns : List (List ℕ)) → Contains secrets secret → 4 ≤ length secret.pattern → ((pattern : List ℕ) → Contains patterns pattern → Contains (asked_form_patterns asked secret.pattern) pattern)
        → IsHidden patterns text place → IsCovered (IsMember ranges) place
    none_kept secret place patterns listed long within hidden =
        kept.hidden place (rw all (hidden_covered r.patterns patterns text place (λ pattern some one. rw words (form_among asked secrets secret pattern listed long some (within pattern one))) hidden))

    none_once : NoneShowsOnce asked.forms secrets text ranges
    none_once form secret place among listed long shows =
        let patterns = once_patterns asked.forms secret.pattern in
        let law : HidesForm patterns secret.pattern form = All-contains (HidesForm patterns secret.pattern) asked.forms form (All-contains (HidesSecret asked) secrets secret laws listed long).0 among in
        none_kept secret place patterns listed long (Contains-append_left patterns (each_twice secret.pattern asked.nested)) (form_hidden patterns secret.pattern text place form law shows)

    none_twice : NoneShowsTwice asked.nested secrets text ranges
    none_twice one secret made place among listed long of shows =
        let patterns = twice_patterns secret.pattern one in
        let law : HidesNestedForm secret.pattern one = All-contains (HidesNestedForm secret.pattern) asked.nested one (All-contains (HidesSecret asked) secrets secret laws listed long).1 among in
        none_kept secret place patterns listed long
        (λ pattern there. Contains-append_right (once_patterns asked.forms secret.pattern) (each_twice secret.pattern asked.nested) pattern (Contains-flat_map (twice_patterns secret.pattern) asked.nested one pattern among there))
        (form_hidden patterns made text place one.outer (All-contains (HidesNested patterns one.outer) (form_patterns secret.pattern one.inner) made law of) shows)

  text_hidden : (text redaction : List ℕ) → IsRedaction r text redaction → HidesForms asked secrets r text redaction
  text_hidden text redaction is =
      let kept : NoByteIsKept r text is.ranges = subst (λ (b : Bool). MatchBool b (NoByteIsKept r text is.ranges) (NoneIsWhole r.patterns text is.ranges)) covers is.safe in
      record { redacts = is; none = record { once = none_once text is.ranges kept; twice = none_twice text is.ranges kept } }

-- a name changes no pattern
same_patterns : (given : List Given) (secrets : List Secret) (key : Option (List ℕ)) → patterns_in (secrets_by given key secrets) ≡ patterns_in secrets
same_patterns given secrets None = refl
same_patterns given secrets (Some key) = by (has Forms given)
  where
    by : (forms : Bool) → patterns_in (if forms then all_named (pseudonym_rule (has IgnoreCase given) key) secrets else secrets) ≡ patterns_in secrets
    by true = map-map (λ (secret : Secret). secret.pattern) (named_secret (pseudonym_rule (has IgnoreCase given) key) secrets) secrets
    by false = refl

-- so no form shows a secret that a call redacts by a cover
pub call_hides : {W : Type 0} (Writes : Writers W) (call : Call) (left left' : Option (List ℕ)) (output output' : FromWrite W) → (covers_asked call.given ≡ true) × (words_asked call.given ≡ false)
    → RedactsCall Writes call left left' output output' → HidesCall Writes call left left' output output'
call_hides Writes call left left' output output' (covers, every) of =
    let all = of.loaded.given_all in
    let secrets = of.loaded.secrets in
    let words = ap (λ (l : Loaded). patterns_in l.secrets) of.loaded.is ∙ same_patterns call.given secrets of.loaded.key ∙ ap patterns_in all.are in
    record {
      load = of.load;
      between = of.between;
      loaded = of.loaded;
      hidden = each_written_as (work_by call of.load) (text_hidden _ all.plain _ covers every words all.hidden) (names_asked call.given) _ _ _ _ of.is;
    }
