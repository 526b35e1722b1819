use Rattle.std.proofs.Common.{◌≡◌, ◌∙◌, List, Some, subst, sym}
use Rattle.std.proofs.lemmas.Bool.{false≢true}
use Rattle.std.specs.List.{slice_get}
use Rattle.secret_rules.specs.Keywords.{all_keywords}
use Rattle.secret_rules.specs.declared.rule.Rule.{Rule}
use Rattle.secret_rules.proofs.Applying.{does_not_apply, nothing-occurs}
use Rattle.secret_rules.proofs.rules.Rules.may_apply.Goals as goal

pub returns : goal.returns
returns c =
    let rules = c.self.inside.rules.items in
    record {
      none = λ not number rule held.
          does_not_apply rules c.args.line.now number rule (subst (λ (rs : List Rule). slice_get rs number ≡ Some rule) (sym c.self.view_is) held)
          (λ some. false≢true (sym c.if-self.false ∙ c.self.invariant.some_always.1 some))
          (nothing-occurs (all_keywords rules) c.args.line.now c.is_match.result (c.is_match.ensures.found (all_keywords rules) c.self.invariant.of) not);
    }
