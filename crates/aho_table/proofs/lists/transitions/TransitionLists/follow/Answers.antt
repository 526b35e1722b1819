-- The byte's entry tells where it leads.
use Rattle.std.proofs.Common.{List, length, ap, refl, sym, subst, ◌∙◌}
use Rattle.aho_table.specs.Rings.{AreRings, AreSideBySide}
use Rattle.aho_table.specs.Lists.{IsList}
use Rattle.aho_table.specs.ListsInside.{transition_of, transition_entries, IsOn, IsGapBehind}
use Rattle.aho_table.specs.declared.lists.transitions.Transition.{Transition}
use Rattle.aho_table.proofs.Results.{is_zero, is_some}
use Rattle.aho_table.proofs.Stores.{list_at-zero}
use Rattle.aho_table.proofs.TransitionGaps.{lists_in}
use Rattle.aho_table.proofs.TransitionChanges.{list_in, list_ends, follow-on, follow-gap}
use Rattle.aho_table.proofs.Firsts.{real_entries}
use Rattle.aho_table.specs.ListsInside.{with_first}
use Rattle.aho_table.proofs.lists.transitions.TransitionLists.follow.Goals as goal
use Rattle.aho_table.proofs.lists.transitions.TransitionLists.follow.Goals.{in-Ok, in-Err}

pub returns-then-eq : goal.returns-then-eq
returns-then-eq c =
    let none = is_zero c.args.list c.eq.result c.eq.ensures c.if-eq.true in
    record {
      next = rw (← c.self.view_is, none, list_at-zero (transition_entries (with_first c.self.inside.entries.items)) (length (with_first c.self.inside.entries.items)) c.self.invariant.0.rings.some) refl;
    }

pub place-requires-clause-rings : goal.place-requires-clause-rings
place-requires-clause-rings c =
    let some = is_some c.args.list c.eq.result c.eq.ensures c.if-eq.false in
    let known : IsList (lists_in (with_first c.self.inside.entries.items)) c.args.list = rw (← c.self.view_is) at c.requires.known in
    let real = real_entries c.self.inside.entries.items c.args.list some (list_in (with_first c.self.inside.entries.items) c.self.inside.limit c.args.list c.args.byte c.self.invariant.0 known some) in
    subst (λ (es : List Transition). AreRings (transition_entries es) (length es)) (sym (c.as_slice-entries.ensures.value ∙ sym real)) c.self.invariant.0.rings

pub place-requires-clause-side_by_side : goal.place-requires-clause-side_by_side
place-requires-clause-side_by_side c =
    let some = is_some c.args.list c.eq.result c.eq.ensures c.if-eq.false in
    let known : IsList (lists_in (with_first c.self.inside.entries.items)) c.args.list = rw (← c.self.view_is) at c.requires.known in
    let real = real_entries c.self.inside.entries.items c.args.list some (list_in (with_first c.self.inside.entries.items) c.self.inside.limit c.args.list c.args.byte c.self.invariant.0 known some) in
    subst (λ (es : List Transition). AreSideBySide (transition_entries es) (length es) c.self.inside.beside) (sym (c.as_slice-entries.ensures.value ∙ sym real)) c.self.invariant.1

pub place-requires-clause-within : goal.place-requires-clause-within
place-requires-clause-within c =
    let some = is_some c.args.list c.eq.result c.eq.ensures c.if-eq.false in
    let known : IsList (lists_in (with_first c.self.inside.entries.items)) c.args.list = rw (← c.self.view_is) at c.requires.known in
    let real = real_entries c.self.inside.entries.items c.args.list some (list_in (with_first c.self.inside.entries.items) c.self.inside.limit c.args.list c.args.byte c.self.invariant.0 known some) in
    rw (c.as_slice-entries.ensures.value ∙ sym real) (list_in (with_first c.self.inside.entries.items) c.self.inside.limit c.args.list c.args.byte c.self.invariant.0 known some)

pub place-requires-clause-ends : goal.place-requires-clause-ends
place-requires-clause-ends c =
    let some = is_some c.args.list c.eq.result c.eq.ensures c.if-eq.false in
    let known : IsList (lists_in (with_first c.self.inside.entries.items)) c.args.list = rw (← c.self.view_is) at c.requires.known in
    let real = real_entries c.self.inside.entries.items c.args.list some (list_in (with_first c.self.inside.entries.items) c.self.inside.limit c.args.list c.args.byte c.self.invariant.0 known some) in
    rw (c.as_slice-entries.ensures.value ∙ sym real) (list_ends (with_first c.self.inside.entries.items) c.self.inside.limit c.args.list c.args.byte c.self.invariant.0 known some)

pub returns : goal.returns
returns c =
    let some = is_some c.args.list c.eq.result c.eq.ensures c.if-eq.false in
    let known : IsList (lists_in (with_first c.self.inside.entries.items)) c.args.list = rw (← c.self.view_is) at c.requires.known in
    let real = real_entries c.self.inside.entries.items c.args.list some (list_in (with_first c.self.inside.entries.items) c.self.inside.limit c.args.list c.args.byte c.self.invariant.0 known some) in
    record {
      next = c.result.view_is ∙ rw (← c.self.view_is) (elim c.match-place.branch [
        | in-Ok w ↦
            let found : IsOn (transition_entries (with_first c.self.inside.entries.items)) c.args.list c.args.byte w.in-Ok.place =
            subst (λ (es : List Transition). IsOn (transition_entries es) c.args.list c.args.byte w.in-Ok.place) (c.as_slice-entries.ensures.value ∙ sym real) w.in-Ok.ensures.found in
            w.result-is
            ∙ ap (λ (t : Transition). t.next) (w.entry.ensures.entry ∙ ap (λ (es : List Transition). transition_of es w.in-Ok.place) (c.as_slice-entries.ensures.value ∙ sym real))
            ∙ follow-on (with_first c.self.inside.entries.items) c.self.inside.limit c.args.list c.args.byte c.self.invariant.0 known some w.in-Ok.place found
        | in-Err w ↦
            let gap : IsGapBehind (transition_entries (with_first c.self.inside.entries.items)) c.args.list c.args.byte w.in-Err.field-0 =
            subst (λ (es : List Transition). IsGapBehind (transition_entries es) c.args.list c.args.byte w.in-Err.field-0) (c.as_slice-entries.ensures.value ∙ sym real) w.in-Err.ensures.absent in
            w.result-is ∙ follow-gap (with_first c.self.inside.entries.items) c.self.inside.limit c.args.list c.args.byte c.self.invariant.0 known some w.in-Err.field-0 gap
      ]);
    }
