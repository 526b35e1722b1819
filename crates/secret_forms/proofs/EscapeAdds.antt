-- The pattern of a secret's characters, where it has them.
use Rattle.std.proofs.Common.{◌≡◌, ℕ, Bool, cond, List, [], ◌∷◌, refl, ap, ◌∙◌, sym}
use Rattle.std.specs.Prelude.{IsUtf8, chars}
use Rattle.std.specs.Str.{is_utf8}
use Rattle.std.proofs.lemmas.Str.{is_utf8-from_IsUtf8}
use Rattle.secret_forms.specs.Escape.{escape_patterns, escaped}
use Rattle.secret_forms.specs.Patterns.{added_all}
use Rattle.secret_forms.proofs.JsonAdds.{none_of}

pub escape-characters : (ps two : List (List ℕ)) (s text made : List ℕ) → IsUtf8 s → text ≡ s → made ≡ escaped (chars text)
    → two ≡ added_all ps (made ∷ []) → two ≡ added_all ps (escape_patterns s)
escape-characters ps two s text made valid same is added =
    added ∙ ap (λ (m : List ℕ). added_all ps (m ∷ [])) (is ∙ ap (λ (t : List ℕ). escaped (chars t)) same)
    ∙ ap (λ (b : Bool). added_all ps (cond b (escaped (chars s) ∷ []) [])) (sym (is_utf8-from_IsUtf8 s valid))

pub escape-bytes : (ps : List (List ℕ)) (s : List ℕ) → (IsUtf8 s → ⊥) → ps ≡ added_all ps (escape_patterns s)
escape-bytes ps s not = ap (λ (b : Bool). added_all ps (cond b (escaped (chars s) ∷ []) [])) (sym (none_of s (is_utf8 s) refl not))
