-- At the end those of all encoders are there.
use Rattle.std.proofs.Common.{◌∙◌, List, ap, arith}
use Rattle.std.specs.Prelude.{chars}
use Rattle.std.proofs.lemmas.List.{take_all}
use Rattle.secret_forms.specs.Json.{json_ways, numbered_by}
use Rattle.secret_forms.specs.Patterns.{added_all, pattern_bytes}
use Rattle.secret_forms.specs.declared.bytewise.Json.{Json}
use Rattle.secret_forms.proofs.json_form.add_numbered.Goals as goal

pub returns : goal.returns
returns c =
    let row = λ (ways : List Json). added_all (pattern_bytes c.args.patterns.now.items) (numbered_by ways (chars c.args.text.now)) in
    record { all = c.loop-json.invariant ∙ ap row (take_all c.loop-json.json-index json_ways (omega (arith, c.loop-json-test.false))) }
