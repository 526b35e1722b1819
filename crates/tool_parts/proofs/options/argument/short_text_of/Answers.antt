-- What does not begin with a hyphen is no option.
use Rattle.std.proofs.Common.{◌≡◌, ◌==◌, inl, inr, ℕ, List, [], ◌∷◌, lit<, refl, ap}
use Rattle.std.specs.Prelude.{◌≢◌, None}
use Rattle.std.proofs.lemmas.Bool.{cases_Bool, eqb-true}
use Rattle.std.proofs.lemmas.Str.Pattern.{strip_prefix_char}
use Rattle.tool_parts.specs.ArgumentForms.{no_option, short_form}
use Rattle.tool_parts.proofs.options.argument.short_text_of.Goals as goal

no_hyphen : (text : List ℕ) → ((rest : List ℕ) → text ≢ 45 ∷ rest) → no_option ≡ short_form text
no_hyphen [] lacks = refl
no_hyphen (first ∷ rest) lacks =
    elim (cases_Bool (first == 45)) [
      | inl is ↦ absurd (lacks rest (ap (λ (n : ℕ). n ∷ rest) (eqb-true first 45 is)))
      | inr not ↦ rw not refl
    ]

pub returns-in-None : goal.returns-in-None
returns-in-None c = let text = c.args.argument.now in record { form = no_hyphen text (strip_prefix_char 45 text None c.in-None.ensures.cases (lit< tt)) }
