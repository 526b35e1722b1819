-- The patterns of the inner ones so far are there.
use Rattle.std.proofs.Common.{◌≡◌, take}
use Rattle.std.specs.Prelude.{flat_map}
use Rattle.secret_forms.specs.Forms.{form_patterns}
use Rattle.secret_forms.specs.Patterns.{added_all, pattern_bytes}
use Rattle.secret_forms.proofs.form.add_each.Given as goal

abbrev pub invariant-loop-pattern : goal.invariant-loop-pattern
invariant-loop-pattern l =
    pattern_bytes l.patterns.items
    ≡ added_all (pattern_bytes l.initial.patterns.items) (flat_map (λ one. form_patterns one.items l.outer) (take l.pattern-index l.inner))
