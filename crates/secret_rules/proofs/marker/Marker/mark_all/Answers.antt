use Rattle.std.proofs.Common.{◌∙◌, ◌<◌, ◌≤◌, List, arith, length, subst, sym}
use Rattle.secret_rules.specs.Marking.{marker_rules}
use Rattle.secret_rules.specs.Marks.{IsRuleAt}
use Rattle.secret_rules.specs.declared.rule.Rule.{Rule}
use Rattle.secret_rules.proofs.Placed.{element_at}
use Rattle.secret_rules.proofs.Turns.{turns-behind, turns-marked, turns-next}
use Rattle.secret_rules.proofs.marker.Marker.mark_all.Goals as goal

pub loop-number-preserved : goal.loop-number-preserved
loop-number-preserved c =
    let rules = marker_rules c.args.self.now in
    let number = c.loop-number.number in
    let so_far = c.loop-number.invariant in
    let told = c.in_ok-mark_by.ensures in
    let within : number < length rules =
    omega (arith, c.loop-number-test.true, c.len-number-end.ensures, c.args.self.now.counted, c.args.self.now.goes_on.ok) in
    let some = element_at rules number within in
    let rule = some.0 in
    let held = subst (λ (rs : List Rule). IsRuleAt rs number rule) (sym so_far.rules) some.1 in
    record {
      rules = told.rules ∙ so_far.rules;
      count = told.count ∙ so_far.count;
      applying = told.applying ∙ so_far.applying;
      some = told.some;
      done = turns-next rules c.args.line.now c.args.self.now.goes_on.items c.loop-number.self.goes_on.items c.mark_by.new.self.goes_on.items number
          c.loop-number.marks.items c.mark_by.new.marks.items rule some.1 so_far.done (told.marks rule held) (λ until. told.goes_on rule held until) told.others;
    }

pub returns-clause-marks : goal.returns-clause-marks
returns-clause-marks c =
    let rules = marker_rules c.args.self.now in
    let all : length rules ≤ c.loop-number.number =
    omega (arith, c.loop-number-test.false, c.len-number-end.ensures, c.args.self.now.counted, c.args.self.now.goes_on.ok) in
    turns-marked rules c.args.line.now c.args.self.now.goes_on.items c.loop-number.self.goes_on.items c.loop-number.number c.loop-number.marks.items all
    c.loop-number.invariant.done

pub returns-clause-goes_on : goal.returns-clause-goes_on
returns-clause-goes_on c =
    let rules = marker_rules c.args.self.now in
    let all : length rules ≤ c.loop-number.number =
    omega (arith, c.loop-number-test.false, c.len-number-end.ensures, c.args.self.now.counted, c.args.self.now.goes_on.ok) in
    turns-behind rules c.args.line.now c.args.self.now.goes_on.items c.loop-number.self.goes_on.items c.loop-number.number c.loop-number.marks.items all
    c.loop-number.invariant.done
