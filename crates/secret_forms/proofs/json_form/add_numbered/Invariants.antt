-- The patterns of the encoders so far are there.
use Rattle.std.proofs.Common.{◌≡◌, map, take}
use Rattle.std.specs.Prelude.{chars}
use Rattle.secret_forms.specs.Json.{json_ways, numbered}
use Rattle.secret_forms.specs.Patterns.{added_all, pattern_bytes}
use Rattle.secret_forms.proofs.json_form.add_numbered.Given as goal

abbrev pub invariant-loop-json : goal.invariant-loop-json
invariant-loop-json l =
    pattern_bytes l.patterns.items
    ≡ added_all (pattern_bytes l.initial.patterns.items) (map (λ one. numbered one (chars l.text)) (take l.json-index json_ways))
