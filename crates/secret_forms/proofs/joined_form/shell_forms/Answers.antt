-- What each encoder writes of the secret is among the patterns.
use Rattle.std.proofs.Common.{arith}
use Rattle.secret_forms.specs.Patterns.{pattern_bytes}
use Rattle.secret_forms.specs.declared.form.Form.TheVariants.{Shell}
use Rattle.secret_forms.proofs.FormLaw.{HidesForm-made}
use Rattle.secret_forms.proofs.joined_form.shell_forms.Goals as goal

pub returns-clause-law : goal.returns-clause-law
returns-clause-law c =
    (HidesForm-made _ (pattern_bytes c.new-patterns.result.items) c.args.secret.now Shell (omega (arith, c.if-secret-lt-SHORTEST.false)) c.in_ok-add_shell.ensures.all).0

pub returns-clause-joined : goal.returns-clause-joined
returns-clause-joined c =
    (HidesForm-made _ (pattern_bytes c.new-patterns.result.items) c.args.secret.now Shell (omega (arith, c.if-secret-lt-SHORTEST.false)) c.in_ok-add_shell.ensures.all).1
