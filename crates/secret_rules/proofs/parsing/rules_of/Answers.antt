use Rattle.std.proofs.Common.{◌+◌, List, sym, subst, take}
use Rattle.aho_build.proofs.StoppedBuilds.{IfErr-given}
use Rattle.toml.specs.View.{items_view, view}
use Rattle.toml.specs.declared.value.Value.{Value}
use Rattle.secret_rules.specs.Tables.{AreRulesIn, IsFaultIn, IsRuleOf, IsTableFault}
use Rattle.secret_rules.specs.declared.rule.Rule.{Rule}
use Rattle.secret_rules.proofs.Texts.{fault_in, rules-more}
use Rattle.secret_rules.proofs.parsing.rules_of.Goals as goal

pub returns-in_err-rule-clause-refused : goal.returns-in_err-rule-clause-refused
returns-in_err-rule-clause-refused c =
    let error = c.in_err-rule.field-0.0 in
    IfErr-given (IsFaultIn (items_view c.args.tables.now)) c.from_residual.result error c.from_residual.ensures.1
    (fault_in c.args.tables.now c.loop-number.number c.index-tables-number.result error c.loop-number-test.true
    (subst (λ (v : Value). IsTableFault c.loop-number.number (view v) error) c.index-tables-number.is c.in_err-rule.ensures.refused))

pub loop-number-preserved : goal.loop-number-preserved
loop-number-preserved c =
    subst (λ (rules : List Rule). AreRulesIn (items_view (take (c.loop-number.number + 1) c.args.tables.now)) rules) (sym c.in_ok-push_rule.ensures)
    (rules-more c.args.tables.now c.loop-number.rules.items c.loop-number.number c.index-tables-number.result c.in_ok-rule.rule c.loop-number-test.true c.loop-number.invariant
    (subst (λ (v : Value). IsRuleOf (view v) c.in_ok-rule.rule) c.index-tables-number.is c.in_ok-rule.ensures.rule))
