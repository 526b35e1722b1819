use Rattle.std.proofs.Common.{◌≡◌, map, string_bytes, take}
use Rattle.toml.specs.View.{items_view}
use Rattle.secret_rules.specs.Tables.{text_items}
use Rattle.secret_rules.proofs.parsing.texts_of.Given as goal

abbrev pub invariant-loop-item : goal.invariant-loop-item
invariant-loop-item l = items_view (take l.item-index l.items) ≡ text_items (map string_bytes l.texts.items)
