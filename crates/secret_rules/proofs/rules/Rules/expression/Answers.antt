use Rattle.std.proofs.Common.{◌≡◌, ◌∙◌, ap, sym, subst, Some, List}
use Rattle.std.specs.List.{slice_get}
use Rattle.std.proofs.lemmas.Slice.Eq.{bytes_eq-Decides}
use Rattle.secret_rules.specs.Rules.{regex_of}
use Rattle.secret_rules.specs.declared.rule.Rule.{Rule}
use Rattle.secret_rules.proofs.Placed.{read-is}
use Rattle.secret_rules.proofs.rules.Rules.expression.Goals as goal

pub returns-then-eq-clause-source : goal.returns-then-eq-clause-source
returns-then-eq-clause-source c = λ rule at.
    let held = subst (λ (rs : List Rule). slice_get rs c.args.number ≡ Some rule) (sym c.self.view_is) at in
    let named : c.index.result.now ≡ rule = read-is c.self.inside.rules.items c.args.number rule c.index.result.now c.index.ensures held in
    sym c.as_str.ensures.source ∙ (bytes_eq-Decides c.as_str.result.now c.as_str-source.result.now).0 (sym c.if-eq.ensures) ∙ c.as_str-source.ensures.value ∙ ap regex_of named
