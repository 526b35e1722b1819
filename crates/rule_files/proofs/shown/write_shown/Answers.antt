-- One byte more is written.
use Rattle.std.proofs.Common.{rules, ◌≡◌, ◌≤◌, [], ◌++◌, length, refl, sym, ap, subst, ◌∙◌, append-nil}
use Rattle.std.specs.Prelude.{slice_index}
use Rattle.std.proofs.lemmas.List.{nil_from_length}
use Rattle.tool_parts.specs.Telling.{TellsBytes}
use Rattle.tool_parts.proofs.Tellings.{tells-later, tells-nothing}
use Rattle.rule_files.specs.Messages.{shown_byte, as_shown}
use Rattle.rule_files.proofs.ShownNames.{shown_next}
use Rattle.rule_files.proofs.shown.write_shown.Goals as goal

pub loop-rest-init : goal.loop-rest-init
loop-rest-init g c = ([], refl, tells-nothing g.E.Sink _)

pub loop-rest-preserved : goal.loop-rest-preserved
loop-rest-preserved g c =
    let (done, is, told) = c.loop-rest.invariant in
    let some : 1 ≤ length c.loop-rest.rest.now = search rules in
    (done ++ shown_byte (slice_index c.loop-rest.rest.now 0), shown_next _ done c.loop-rest.rest.now some is, tells-later g.E.Sink told c.write_byte.ensures.told)

pub returns : goal.returns
returns g c =
    let (done, is, told) = c.loop-rest.invariant in
    let none : length c.loop-rest.rest.now ≡ 0 = search rules in
    record { told = subst (TellsBytes g.E.Sink _ _) (sym (is ∙ ap (λ l. done ++ as_shown l) (nil_from_length c.loop-rest.rest.now none) ∙ append-nil done)) told }
