-- One byte more is, and at the end all are.
use Rattle.std.proofs.Common.{rules, ◌≡◌, ◌≤◌, [], ◌∷◌, ◌++◌, length, refl, sym, ap, ◌∙◌, false}
use Rattle.std.specs.Prelude.{slice_index}
use Rattle.std.proofs.lemmas.List.{nil_from_length}
use Rattle.rule_files.specs.Messages.{is_unshown, as_shown}
use Rattle.rule_files.proofs.ShownNames.{plain_next}
use Rattle.rule_files.proofs.shown.is_plain.Goals as goal

pub loop-rest-init : goal.loop-rest-init
loop-rest-init c = ([], refl, refl)

pub loop-rest-preserved : goal.loop-rest-preserved
loop-rest-preserved c =
    let (done, is, shows) = c.loop-rest.invariant in
    let some : 1 ≤ length c.loop-rest.rest.now = search rules in
    let none : is_unshown (slice_index c.loop-rest.rest.now 0) ≡ false = search rules in
    let next = plain_next _ _ done c.loop-rest.rest.now some (is, shows) none in
    (done ++ (slice_index c.loop-rest.rest.now 0 ∷ []), next.0, next.1)

pub returns : goal.returns
returns c =
    let (done, is, shows) = c.loop-rest.invariant in
    let none : length c.loop-rest.rest.now ≡ 0 = search rules in
    record { plain = λ plain. shows ∙ ap (λ l. done ++ as_shown l) (nil_from_length c.loop-rest.rest.now none) ∙ sym (ap (λ l. done ++ l) (nil_from_length c.loop-rest.rest.now none)) ∙ sym is }
