use Rattle.std.proofs.Common.{◌≡◌, ◌∙◌, ap, length, vec_len, arith, option_map, string_bytes}
use Rattle.std.proofs.lemmas.Result.{IfOk-weaker}
use Rattle.std.proofs.lemmas.List.{length-map}
use Rattle.regex.specs.Bytes.{regex_names}
use Rattle.secret_rules.specs.Expressions.{group_total}
use Rattle.secret_rules.proofs.Compiled.{regex_names-of_source}
use Rattle.secret_rules.proofs.expression.Expression.locations.Goals as goal

pub returns : goal.returns
returns c =
    let h = regex_names-of_source c.self.inside.regex c.self.invariant.1 c.self.invariant.0 in
    let names = c.self.inside.regex.pattern.names in
    let len : vec_len names ≡ length (regex_names c.self.inside.regex) = omega (arith, names.ok, length-map names.items (option_map string_bytes)) in
    record { groups = IfOk-weaker c.capture_locations.result _ _ (λ l e. e ∙ len ∙ h ∙ ap group_total c.self.view_is) c.capture_locations.ensures.value }
