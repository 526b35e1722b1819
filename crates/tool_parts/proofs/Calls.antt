-- Calls of `write_str` on a text of fixed room append what they wrote together.
use Rattle.std.proofs.Common.{◌∙◌, sym, ap, subst, ℕ, List, [], ◌∷◌, ◌++◌, append_assoc, append-nil}
use Rattle.std.specs.List.{FoldsTo, concat}
use Rattle.std.specs.Fmt.{WritesInCalls}
use Rattle.std.specs.Fmt.InlineText.{inline_text, IsIntact, AppendsIfIntact}
use Rattle.std.specs.declared.fmt.InlineText.{InlineText}

-- one call after another
after_calls : {n : ℕ} (old : InlineText n) (parts : List (List ℕ)) (new : InlineText n) → FoldsTo AppendsIfIntact old parts new → AppendsIfIntact old (concat parts) new
after_calls old [] new same intact = (subst IsIntact same intact, ap inline_text (sym same) ∙ sym (append-nil (inline_text old)))
after_calls old (x ∷ parts) new calls intact =
    let first = calls.1 intact in
    let rest = after_calls calls.0 parts new calls.2 first.0 in
    (rest.0, rest.1 ∙ ap (λ l. l ++ concat parts) first.1 ∙ append_assoc (inline_text old) x (concat parts))

-- what the calls wrote is the text
pub text_after_calls : {n : ℕ} (old : InlineText n) (text : List ℕ) (new : InlineText n) → WritesInCalls AppendsIfIntact old text new → AppendsIfIntact old text new
text_after_calls old text new wrote = subst (λ l. AppendsIfIntact old l new) wrote.whole (after_calls old wrote.parts new wrote.calls)
