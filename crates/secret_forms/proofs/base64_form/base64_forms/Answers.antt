-- The patterns of both alphabets are there, each with its law.
use Rattle.std.proofs.Common.{arith}
use Rattle.secret_forms.specs.Patterns.{pattern_bytes}
use Rattle.secret_forms.specs.declared.form.Form.TheVariants.{Base64}
use Rattle.secret_forms.proofs.FormLaw.{HidesForm-made}
use Rattle.secret_forms.proofs.base64_form.base64_forms.Goals as goal

pub returns-clause-standard : goal.returns-clause-standard
returns-clause-standard c =
    (HidesForm-made _ (pattern_bytes c.new-patterns.result.items) c.args.secret.now Base64 (omega (arith, c.if-secret-lt-SHORTEST.false)) c.in_ok-add_base64.ensures.all).0

pub returns-clause-standard_no_pad : goal.returns-clause-standard_no_pad
returns-clause-standard_no_pad c =
    (HidesForm-made _ (pattern_bytes c.new-patterns.result.items) c.args.secret.now Base64 (omega (arith, c.if-secret-lt-SHORTEST.false)) c.in_ok-add_base64.ensures.all).1

pub returns-clause-url_safe : goal.returns-clause-url_safe
returns-clause-url_safe c =
    (HidesForm-made _ (pattern_bytes c.new-patterns.result.items) c.args.secret.now Base64 (omega (arith, c.if-secret-lt-SHORTEST.false)) c.in_ok-add_base64.ensures.all).2

pub returns-clause-url_safe_no_pad : goal.returns-clause-url_safe_no_pad
returns-clause-url_safe_no_pad c =
    (HidesForm-made _ (pattern_bytes c.new-patterns.result.items) c.args.secret.now Base64 (omega (arith, c.if-secret-lt-SHORTEST.false)) c.in_ok-add_base64.ensures.all).3
