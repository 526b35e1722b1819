use Rattle.std.proofs.Common.{subst, sym, ℕ, List}
use Rattle.std.proofs.lemmas.Result.{IfOk-weaker}
use Rattle.regex.specs.Bytes.{regex_pattern}
use Rattle.regex.specs.Patterns.{Re, SameCaptures}
use Rattle.secret_rules.specs.Expressions.{expression_of}
use Rattle.secret_rules.proofs.Compiled.{regex_pattern-of_source}
use Rattle.secret_rules.proofs.expression.Expression.matcher.Goals as goal

pub returns : goal.returns
returns c =
    let h = regex_pattern-of_source c.self.inside.regex c.self.invariant.1 c.self.invariant.0 in
    let seen = subst (λ (s : List ℕ). SameCaptures (regex_pattern c.self.inside.regex) (expression_of s)) c.self.view_is h in
    record { matches = IfOk-weaker c.matcher.result _ _ (λ m e. subst (λ (re : Re). SameCaptures re (expression_of c.args.self.now)) (sym e) seen) c.matcher.ensures.pattern }
