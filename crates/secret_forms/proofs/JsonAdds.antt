-- The patterns of a secret's bytes, and of its characters where it has them.
use Rattle.std.proofs.Common.{◌≡◌, ℕ, Bool, true, false, cond, List, [], ◌++◌, refl, ap, ◌∙◌, sym}
use Rattle.std.specs.Prelude.{IsUtf8, chars}
use Rattle.std.specs.Str.{is_utf8}
use Rattle.std.proofs.lemmas.List.{append-nil}
use Rattle.std.proofs.lemmas.Str.{IsUtf8-from_is_utf8, is_utf8-from_IsUtf8}
use Rattle.secret_forms.specs.Json.{json_patterns, json_spellings, json_ways, numbered_by}
use Rattle.secret_forms.specs.Patterns.{added_all}
use Rattle.secret_forms.specs.Spelling.{spelled_by}
use Rattle.secret_forms.proofs.Members.{added_all_both}

pub added-characters : (ps one two : List (List ℕ)) (s text : List ℕ) → IsUtf8 s → text ≡ s → one ≡ added_all ps (spelled_by json_spellings s)
    → two ≡ added_all one (numbered_by json_ways (chars text)) → two ≡ added_all ps (json_patterns s)
added-characters ps one two s text valid same first second =
    let words = spelled_by json_spellings s in
    let more = numbered_by json_ways (chars s) in
    let here : two ≡ added_all one more = second ∙ ap (λ (t : List ℕ). added_all one (numbered_by json_ways (chars t))) same in
    added_all_both ps one two words more first here
    ∙ ap (λ (b : Bool). added_all ps (words ++ cond b more [])) (sym (is_utf8-from_IsUtf8 s valid))

pub none_of : (s : List ℕ) (b : Bool) → is_utf8 s ≡ b → (IsUtf8 s → ⊥) → is_utf8 s ≡ false
none_of s true is not = absurd (not (IsUtf8-from_is_utf8 s is))
none_of s false is not = is

pub added-bytes : (ps one : List (List ℕ)) (s : List ℕ) → (IsUtf8 s → ⊥) → one ≡ added_all ps (spelled_by json_spellings s)
    → one ≡ added_all ps (json_patterns s)
added-bytes ps one s not first =
    let words = spelled_by json_spellings s in
    let more = numbered_by json_ways (chars s) in
    first ∙ ap (added_all ps) (sym (append-nil words))
    ∙ ap (λ (b : Bool). added_all ps (words ++ cond b more [])) (sym (none_of s (is_utf8 s) refl not))
