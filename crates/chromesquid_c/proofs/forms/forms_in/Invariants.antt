-- The forms so far whose bits are set are there.
use Rattle.std.proofs.Common.{◌≡◌, take, nat_lt, bit_and}
use Rattle.std.specs.List.{filter}
use Rattle.chromesquid_c.specs.SecretForms.{form_bit}
use Rattle.chromesquid_c.proofs.forms.forms_in.Given as goal

abbrev pub invariant-loop-form : goal.invariant-loop-form
invariant-loop-form l = l.listed.items ≡ filter (λ form. nat_lt 0 (bit_and l.bits (form_bit form))) (take l.form-index l.form-items)
