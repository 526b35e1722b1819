-- At the end all characters are written.
use Rattle.std.proofs.Common.{◌∙◌, sym, ap}
use Rattle.std.specs.Prelude.{flat_map}
use Rattle.std.proofs.lemmas.Iterator.{YieldsList-from_chars}
use Rattle.std.proofs.lemmas.Iterator.Consumers.{YieldsList-end}
use Rattle.std.proofs.lemmas.List.{map-id}
use Rattle.secret_forms.specs.Escape.{escape_char}
use Rattle.secret_forms.proofs.escape_form.escaped.Goals as goal

pub returns : goal.returns
returns c =
    let ended = YieldsList-end (YieldsList-from_chars c.args.text.now c.utf8.text cc) c.loop-character.yielded _ c.loop-character.yielded_by _ _ c.in-None.is c.next.ensures.steps in
    record { whole = c.loop-character.invariant ∙ ap (flat_map escape_char) (sym (map-id c.loop-character.yielded) ∙ ended.0) }
