use Rattle.std.proofs.Common.{List, [], subst, sym}
use Rattle.secret_rules.specs.Marking.{marker_rules}
use Rattle.secret_rules.specs.Marks.{AreAllMarks, IsRuleAt}
use Rattle.secret_rules.specs.declared.marks.Mark.{Mark}
use Rattle.secret_rules.specs.declared.rule.Rule.{Rule}
use Rattle.secret_rules.proofs.Turns.{all-marks, none-behind, none-marked, right-behind}
use Rattle.secret_rules.proofs.marker.Marker.mark.Goals as goal

pub returns-then-passes_over-clause-marks : goal.returns-then-passes_over-clause-marks
returns-then-passes_over-clause-marks c = λ lines has.
    let rules = marker_rules c.args.self.now in
    let flags = c.args.self.now.goes_on.items in
    let is = c.if-passes_over.true in
    subst (λ (marks : List Mark). AreAllMarks rules lines c.args.line.now marks) (sym c.clear.ensures.items)
    (all-marks rules c.args.line.now flags lines has [] (none-marked rules c.args.line.now flags (c.passes_over.ensures.shut is) (c.passes_over.ensures.none is)))

pub returns-then-passes_over-clause-marked : goal.returns-then-passes_over-clause-marked
returns-then-passes_over-clause-marked c = λ lines has.
    let rules = marker_rules c.args.self.now in
    let flags = c.args.self.now.goes_on.items in
    let is = c.if-passes_over.true in
    right-behind rules c.args.line.now flags lines has flags
    (none-behind rules c.args.line.now flags (c.passes_over.ensures.shut is) (c.passes_over.ensures.none is))

pub returns-clause-marks : goal.returns-clause-marks
returns-clause-marks c = λ lines has mark.
    let are = all-marks (marker_rules c.args.self.now) c.args.line.now c.args.self.now.goes_on.items lines has c.mark_all.new.marks.items c.in_ok-mark_all.ensures.marks in
    let same = c.put_in_order.ensures.same mark in
    ((λ is. (are mark).0 (same.0 is)), (λ of. same.1 ((are mark).1 of)))

pub returns-clause-marked : goal.returns-clause-marked
returns-clause-marked c = λ lines has number rule at some.
    right-behind (marker_rules c.args.self.now) c.args.line.now c.args.self.now.goes_on.items lines has c.mark_all.new.self.goes_on.items c.in_ok-mark_all.ensures.goes_on
    number rule (subst (λ (rs : List Rule). IsRuleAt rs number rule) c.in_ok-mark_all.ensures.rules at) some
