-- Whether the secret is of whole characters decides.
use Rattle.std.proofs.Common.{refl}
use Rattle.secret_forms.proofs.EscapeAdds.{escape-bytes, escape-characters}
use Rattle.secret_forms.proofs.Members.{OnOk-then}
use Rattle.secret_forms.specs.Patterns.{pattern_bytes}
use Rattle.secret_forms.proofs.escape_form.add_escaped.Goals as goal

pub returns-in-Ok : goal.returns-in-Ok
returns-in-Ok c = record {
  escape = OnOk-then c.add_text.result _ _
      (escape-characters (pattern_bytes c.args.patterns.now.items) _ c.args.secret.now c.in-Ok.text.now _ c.in-Ok.ensures.cases.1 c.in-Ok.ensures.cases.0 refl)
      c.add_text.ensures.text;
}

pub returns-in-Err : goal.returns-in-Err
returns-in-Err c = record { escape = escape-bytes (pattern_bytes c.args.patterns.now.items) c.args.secret.now c.in-Err.ensures.cases.0 }
