-- Both rows of digits are among the patterns.
use Rattle.std.proofs.Common.{arith}
use Rattle.secret_forms.specs.Patterns.{pattern_bytes}
use Rattle.secret_forms.specs.declared.form.Form.TheVariants.{Hex}
use Rattle.secret_forms.proofs.FormLaw.{HidesForm-made}
use Rattle.secret_forms.proofs.hex_form.hex_forms.Goals as goal

pub returns-clause-lower : goal.returns-clause-lower
returns-clause-lower c =
    (HidesForm-made _ (pattern_bytes c.new-patterns.result.items) c.args.secret.now Hex (omega (arith, c.if-secret-lt-SHORTEST.false)) c.in_ok-add_hex.ensures.digits).0

pub returns-clause-upper : goal.returns-clause-upper
returns-clause-upper c =
    (HidesForm-made _ (pattern_bytes c.new-patterns.result.items) c.args.secret.now Hex (omega (arith, c.if-secret-lt-SHORTEST.false)) c.in_ok-add_hex.ensures.digits).1
