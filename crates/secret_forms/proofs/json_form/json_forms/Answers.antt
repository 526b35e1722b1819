-- What each encoder writes of the secret is among the patterns.
use Rattle.std.proofs.Common.{arith}
use Rattle.secret_forms.specs.Patterns.{pattern_bytes}
use Rattle.secret_forms.specs.declared.form.Form.TheVariants.{Json}
use Rattle.secret_forms.proofs.FormLaw.{HidesForm-made}
use Rattle.secret_forms.proofs.json_form.json_forms.Goals as goal

pub returns-clause-bytes : goal.returns-clause-bytes
returns-clause-bytes c =
    (HidesForm-made _ (pattern_bytes c.new-patterns.result.items) c.args.secret.now Json (omega (arith, c.if-secret-lt-SHORTEST.false)) c.in_ok-add_json.ensures.all).0

pub returns-clause-characters : goal.returns-clause-characters
returns-clause-characters c =
    (HidesForm-made _ (pattern_bytes c.new-patterns.result.items) c.args.secret.now Json (omega (arith, c.if-secret-lt-SHORTEST.false)) c.in_ok-add_json.ensures.all).1
