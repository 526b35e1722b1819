use Rattle.std.proofs.Common.{◌≡◌, ◌∙◌, ◌↔◌, Bool, List, None, Option, Some, Global, IsSome, IsTrue, String, subst, sym}
use Rattle.std.proofs.lemmas.Bool.{false≢true}
use Rattle.std.specs.List.{slice_get}
use Rattle.secret_rules.specs.Markers.{AddsMarks, flag_at}
use Rattle.secret_rules.specs.Marks.{MarksRange, StaysOpen}
use Rattle.secret_rules.specs.declared.rule.Rule.{Rule}
use Rattle.secret_rules.proofs.Placed.{read-is}
use Rattle.secret_rules.proofs.Turns.{flag-read, flag-set}
use Rattle.secret_rules.proofs.marker.Marker.mark_by.Goals as goal

pub returns-in_ok-self-in-Some-clause-marks : goal.returns-in_ok-self-in-Some-clause-marks
returns-in_ok-self-in-Some-clause-marks c = λ rule at.
    let flag = flag-read c.args.self.now.goes_on.items c.args.number c.index-goes_on.result.now c.requires.within c.index-goes_on.ensures in
    subst (λ (b : Bool). AddsMarks c.args.marks.now.items c.mark_onward.new.marks.items c.args.number (MarksRange rule (IsTrue b) c.args.line.now)) flag
    (c.in_ok-self-in-Some.ensures.marks rule at)

pub returns-in_ok-self-in-Some-clause-goes_on : goal.returns-in_ok-self-in-Some-clause-goes_on
returns-in_ok-self-in-Some-clause-goes_on c = λ rule at some.
    let flags = c.args.self.now.goes_on.items in
    let behind = c.in_ok-self-in-Some.field-0 in
    let flag = flag-read flags c.args.number c.index-goes_on.result.now c.requires.within c.index-goes_on.ensures in
    subst (λ (b : Bool). IsTrue b ↔ StaysOpen rule (IsTrue (flag_at flags c.args.number)) c.args.line.now) (sym (flag-set flags c.args.number behind c.requires.within))
    (subst (λ (b : Bool). IsTrue behind ↔ StaysOpen rule (IsTrue b) c.args.line.now) flag (c.in_ok-self-in-Some.ensures.goes_on rule at))

pub returns-in-None-clause-goes_on : goal.returns-in-None-clause-goes_on
returns-in-None-clause-goes_on c = λ rule at some.
    let held = subst (λ (rs : List Rule). slice_get rs c.args.number ≡ Some rule) (sym (c.as_slice.ensures.same ∙ c.rules.ensures)) at in
    let is : c.index-as_slice-number.result ≡ rule = read-is c.as_slice.result.now c.args.number rule c.index-as_slice-number.result c.index-as_slice-number.is held in
    let none : rule.until ≡ None = subst (λ (r : Rule). r.until ≡ None) (sym c.index-as_slice-number.is ∙ is) c.in-None.is in
    absurd (false≢true (subst (λ (o : Option (String Global)). IsSome o) none some))
