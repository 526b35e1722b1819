use Rattle.std.proofs.Common.{◌≡◌, ◌∙◌, ap, sym, subst, List, map, Some, None, String, Global, string_bytes}
use Rattle.toml.specs.Data.{as_str}
use Rattle.toml.specs.View.{view}
use Rattle.toml.specs.declared.value.Value.{Value}
use Rattle.secret_rules.specs.Tables.{text_items}
use Rattle.secret_rules.proofs.Texts.{no_texts, texts-more}
use Rattle.secret_rules.proofs.parsing.texts_of.Goals as goal

pub returns-in-None : goal.returns-in-None
returns-in-None c =
    no_texts c.args.items.now c.loop-item.item-index c.item-item.result c.loop-item-test.true
    (subst (λ (v : Value). None ≡ as_str (view v)) c.item-item.is (rw c.in-None.is at c.in_ok-text.ensures))

pub loop-item-preserved : goal.loop-item-preserved
loop-item-preserved c =
    let has = rw c.in-Some.is at c.in_ok-text.ensures in
    texts-more c.args.items.now c.loop-item.texts.items c.loop-item.item-index c.item-item.result c.in-Some.text c.loop-item-test.true c.loop-item.invariant
    (subst (λ (v : Value). Some (string_bytes c.in-Some.text) ≡ as_str (view v)) c.item-item.is has)
    ∙ ap (λ (texts : List (String Global)). text_items (map string_bytes texts)) (sym c.in_ok-push-in-Some.ensures.items)
