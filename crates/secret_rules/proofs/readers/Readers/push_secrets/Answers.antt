use Rattle.std.proofs.Common.{◌≡◌, ◌∙◌, ◌<◌, ap, sym, subst, Some, List, length, get_or}
use Rattle.std.proofs.lemmas.Option.{get_or_from_slice_get}
use Rattle.std.specs.List.{slice_get}
use Rattle.secret_rules.specs.Rules.{regex_of}
use Rattle.secret_rules.specs.declared.rule.Rule.{Rule}
use Rattle.secret_rules.proofs.Membership.{member-at}
use Rattle.secret_rules.proofs.Placed.{element_at, read-is}
use Rattle.secret_rules.proofs.readers.Readers.push_secrets.Goals as goal

pub push_secrets-requires : goal.push_secrets-requires
push_secrets-requires c =
    let some = element_at c.self.inside.rules.now c.args.number (subst (λ (rs : List Rule). c.args.number < length rs) (sym c.self.view_is) c.requires.within) in
    let source : c.index_mut.result.now ≡ regex_of some.0 = read-is c.place_of.new.readers.items c.in_ok-place.place (regex_of some.0) c.index_mut.result.now c.index_mut.ensures.value (c.in_ok-place.ensures.place some.0 some.1) in
    let sound = c.in_ok-place.ensures.sound some.0 (member-at c.self.inside.rules.now c.args.number some.0 some.1) in
    let rule : get_or c.as_slice.result.now c.args.number c.index-as_slice-number.result ≡ some.0 =
    get_or_from_slice_get c.as_slice.result.now c.args.number some.0 c.index-as_slice-number.result (ap (λ (rs : List Rule). slice_get rs c.args.number) c.as_slice.ensures.same ∙ some.1) in
    record { known = rw (rule, source) sound.group }

pub returns-clause-marks : goal.returns-clause-marks
returns-clause-marks c = λ rule at.
    let held = subst (λ (rs : List Rule). slice_get rs c.args.number ≡ Some rule) (sym c.self.view_is) at in
    let source : c.index_mut.result.now ≡ regex_of rule = read-is c.place_of.new.readers.items c.in_ok-place.place (regex_of rule) c.index_mut.result.now c.index_mut.ensures.value (c.in_ok-place.ensures.place rule held) in
    let named : get_or c.as_slice.result.now c.args.number c.index-as_slice-number.result ≡ rule =
    get_or_from_slice_get c.as_slice.result.now c.args.number rule c.index-as_slice-number.result (ap (λ (rs : List Rule). slice_get rs c.args.number) c.as_slice.ensures.same ∙ held) in
    rw (source, named) at c.in_ok-push_secrets.ensures.marks
