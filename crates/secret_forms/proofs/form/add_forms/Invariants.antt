-- The patterns of the forms so far are there.
use Rattle.std.proofs.Common.{◌≡◌, take}
use Rattle.secret_forms.specs.Forms.{forms_patterns}
use Rattle.secret_forms.specs.Patterns.{added_all, pattern_bytes}
use Rattle.secret_forms.proofs.form.add_forms.Given as goal

abbrev pub invariant-loop-form : goal.invariant-loop-form
invariant-loop-form l =
    pattern_bytes l.patterns.items ≡ added_all (pattern_bytes l.initial.patterns.items) (forms_patterns (take l.form-index l.forms) l.secret)
