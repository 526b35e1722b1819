use Rattle.std.proofs.Common.{◌≡◌, ◌<◌, sym, subst, Some, arith, List, length}
use Rattle.std.proofs.lemmas.Option.{slice_get_within}
use Rattle.std.specs.List.{slice_get}
use Rattle.secret_rules.specs.Rules.{regex_of}
use Rattle.secret_rules.specs.declared.rule.Rule.{Rule}
use Rattle.secret_rules.proofs.Membership.{member-at}
use Rattle.secret_rules.proofs.Placed.{element_at, read-is}
use Rattle.secret_rules.proofs.readers.Readers.push_onward.Goals as goal

pub index_mut-requires : goal.index_mut-requires
index_mut-requires c =
    let some = element_at c.self.inside.rules.now c.args.number (subst (λ (rs : List Rule). c.args.number < length rs) (sym c.self.view_is) c.requires.within) in
    omega (arith, slice_get_within c.place_of.new.readers.items c.in_ok-place.place (regex_of some.0) (c.in_ok-place.ensures.place some.0 some.1), c.place_of.new.readers.ok)

pub push_onward-requires : goal.push_onward-requires
push_onward-requires c =
    let some = element_at c.self.inside.rules.now c.args.number (subst (λ (rs : List Rule). c.args.number < length rs) (sym c.self.view_is) c.requires.within) in
    let source : c.index_mut.result.now ≡ regex_of some.0 = read-is c.place_of.new.readers.items c.in_ok-place.place (regex_of some.0) c.index_mut.result.now c.index_mut.ensures.value (c.in_ok-place.ensures.place some.0 some.1) in
    let sound = c.in_ok-place.ensures.sound some.0 (member-at c.self.inside.rules.now c.args.number some.0 some.1) in
    record { known = rw source (omega (arith, sound.group)) }

pub returns-clause-marks : goal.returns-clause-marks
returns-clause-marks c = λ rule at.
    let held = subst (λ (rs : List Rule). slice_get rs c.args.number ≡ Some rule) (sym c.self.view_is) at in
    let source : c.index_mut.result.now ≡ regex_of rule = read-is c.place_of.new.readers.items c.in_ok-place.place (regex_of rule) c.index_mut.result.now c.index_mut.ensures.value (c.in_ok-place.ensures.place rule held) in
    rw source at c.in_ok-push_onward.ensures.marks

pub returns-clause-goes_on : goal.returns-clause-goes_on
returns-clause-goes_on c = λ rule at.
    let held = subst (λ (rs : List Rule). slice_get rs c.args.number ≡ Some rule) (sym c.self.view_is) at in
    let source : c.index_mut.result.now ≡ regex_of rule = read-is c.place_of.new.readers.items c.in_ok-place.place (regex_of rule) c.index_mut.result.now c.index_mut.ensures.value (c.in_ok-place.ensures.place rule held) in
    rw source at c.in_ok-push_onward.ensures.goes_on
