-- The rule of a line more is added.
use Rattle.acgrep.proofs.Common.{common_steps}
use Rattle.std.proofs.Common.{◌++◌, ◌<◌, ◌∙◌, [], ap, append_assoc, arith, length, sym}
use Rattle.acgrep.specs.Rules.{rule_before, rules_in, rules_of_lines, rules_said}
use Rattle.acgrep.proofs.FirstLines.{lines_then}
use Rattle.acgrep.proofs.RuleTexts.{rule_front}
use Rattle.acgrep.proofs.excluded.add_rules.Goals as goal

pub loop-rest-preserved : goal.loop-rest-preserved
loop-rest-preserved c =
    let rest = c.loop-rest.rest.now in
    let end = c.line_end-end.result in
    let full : 0 < length rest = grind (arith, common_steps, c.is_empty.ensures, c.loop-rest-test.true) in
    let cut = lines_then 10 rest c.behind-rest.result.now end full c.line_end-end.ensures.within c.line_end-end.ensures.none c.line_end-end.ensures.ends c.behind-rest.ensures.rest in
    let before = rules_said c.loop-rest.all.items in
    let glob = c.trimmed.result.now in
    let behind = rules_in c.behind-rest.result.now in
    ap (λ l. l ++ behind) c.in_ok-add_glob.ensures.added
    ∙ append_assoc before (rule_before glob []) behind
    ∙ ap (λ l. before ++ l) (sym (rule_front glob behind))
    ∙ ap (λ l. before ++ rule_before l behind) c.trimmed.ensures.cut
    ∙ ap (λ l. before ++ rules_of_lines l) (sym cut)
    ∙ c.loop-rest.invariant
