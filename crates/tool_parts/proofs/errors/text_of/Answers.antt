-- What was written whole is the text.
use Rattle.std.proofs.Common.{◌≡◌, ◌∙◌, ap, ◌++◌, List, ℕ}
use Rattle.std.proofs.lemmas.Option.{IfSome_then}
use Rattle.std.specs.Fmt.{WritesInCalls}
use Rattle.std.specs.Fmt.InlineText.{inline_text, AppendsIfIntact}
use Rattle.tool_parts.proofs.Calls.{text_after_calls}
use Rattle.tool_parts.proofs.errors.text_of.Goals as goal

pub returns : goal.returns
returns g c =
    let whole : (said : List ℕ) → WritesInCalls AppendsIfIntact c.new-text.result said c.write.new.self → inline_text c.write.new.self ≡ said = λ said wrote.
    (text_after_calls _ _ _ wrote c.new-text.ensures.intact).1 ∙ ap (λ l. l ++ said) c.new-text.ensures.text in
    record { text = IfSome_then (g.T.Display.output c.args.value.now) c.in_ok-write.ensures.writes whole }
