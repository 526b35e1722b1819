-- What each encoder writes of the secret is among the patterns.
use Rattle.std.proofs.Common.{arith}
use Rattle.secret_forms.specs.Patterns.{pattern_bytes}
use Rattle.secret_forms.specs.declared.form.Form.TheVariants.{Url}
use Rattle.secret_forms.proofs.FormLaw.{HidesForm-made}
use Rattle.secret_forms.proofs.escape_form.url_forms.Goals as goal

pub returns-clause-law : goal.returns-clause-law
returns-clause-law c =
    (HidesForm-made _ (pattern_bytes c.new-patterns.result.items) c.args.secret.now Url (omega (arith, c.if-secret-lt-SHORTEST.false)) c.in_ok-add_url.ensures.all).0

pub returns-clause-characters : goal.returns-clause-characters
returns-clause-characters c =
    (HidesForm-made _ (pattern_bytes c.new-patterns.result.items) c.args.secret.now Url (omega (arith, c.if-secret-lt-SHORTEST.false)) c.in_ok-add_url.ensures.all).1
