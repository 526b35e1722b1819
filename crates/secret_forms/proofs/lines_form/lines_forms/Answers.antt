-- Each line is among the patterns.
use Rattle.std.proofs.Common.{arith}
use Rattle.secret_forms.specs.Patterns.{pattern_bytes}
use Rattle.secret_forms.specs.declared.form.Form.TheVariants.{Lines}
use Rattle.secret_forms.proofs.FormLaw.{HidesForm-made}
use Rattle.secret_forms.proofs.lines_form.lines_forms.Goals as goal

pub returns-clause-law : goal.returns-clause-law
returns-clause-law c =
    HidesForm-made _ (pattern_bytes c.new-patterns.result.items) c.args.secret.now Lines (omega (arith, c.if-secret-lt-SHORTEST.false)) c.in_ok-add_lines.ensures.all
