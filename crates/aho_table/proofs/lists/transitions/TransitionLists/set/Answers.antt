-- The byte's entry is led elsewhere, or one more stands where its gap is.
use Rattle.std.proofs.Common.{◌≡◌, ◌<◌, ℕ, List, length, true, ap, refl, sym, subst, arith, ◌∙◌}
use Rattle.std.proofs.Math.Dec.{ltb}
use Rattle.std.proofs.lemmas.Bool.{ltb-true}
use Rattle.aho_table.specs.Rings.{AreRings, AreSideBySide, IsBesideBehind}
use Rattle.aho_table.specs.Lists.{Lists, list_at, IsList}
use Rattle.aho_table.specs.TransitionList.{with_transition, set_transition_in, number_after, lists_transition}
use Rattle.aho_table.specs.ListsInside.{transition_of, transition_entries, redirected, linked_behind, IsOn, IsGapBehind}
use Rattle.aho_table.specs.declared.lists.transitions.Transition.{Transition}
use Rattle.aho_core.specs.declared.error.BuildError.{BuildError}
use Rattle.aho_table.specs.Refusal.{refusal_at}
use Rattle.aho_table.proofs.TransitionStores.{set_transition_in-empty, number_after-empty}
use Rattle.aho_table.proofs.Results.{is_zero, is_some, IfErr-given, OnOk-more, IfOk-from}
use Rattle.aho_table.proofs.Families.{IsList-from, set_transition_in-other, set_transition_in-this, with_transition-some}
use Rattle.aho_table.proofs.Stores.{same_store, length-lists_of}
use Rattle.aho_table.proofs.TransitionGaps.{lists_in}
use Rattle.aho_table.proofs.TransitionChanges.{list_in, list_ends, IsStore-redirected, lists_in-redirected, number-on, IsStore-behind, lists_in-behind, number-above, number-below, unlisted-gap}
use Rattle.aho_table.proofs.Sides.{side-redirected, side-behind}
use Rattle.aho_table.proofs.Firsts.{length-with_first, real_entries, first-made}
use Rattle.aho_table.specs.ListsInside.{with_first}
use Rattle.aho_table.proofs.lists.transitions.TransitionLists.set.Goals as goal
use Rattle.aho_table.proofs.lists.transitions.TransitionLists.set.Goals.{then-above, else-above}

pub returns-then-eq-clause-set : goal.returns-then-eq-clause-set
returns-then-eq-clause-set c =
    let none = is_zero c.args.list c.eq.result c.eq.ensures c.if-eq.true in
    OnOk-more c.start.result
    (λ started. started ∙ same_store (sym (ap (λ (n : ℕ). set_transition_in c.args.self.now.lists n c.args.byte c.args.next) none
    ∙ set_transition_in-empty c.args.self.now.lists c.args.byte c.args.next c.start.ensures.empty)) refl)
    c.start.ensures.started

pub place-requires-clause-rings : goal.place-requires-clause-rings
place-requires-clause-rings c =
    let some = is_some c.args.list c.eq.result c.eq.ensures c.if-eq.false in
    let known : IsList (lists_in (with_first c.self.inside.entries.items)) c.args.list = rw (← c.self.view_is) at c.requires.known in
    let real = real_entries c.self.inside.entries.items c.args.list some (list_in (with_first c.self.inside.entries.items) c.self.inside.limit c.args.list c.args.byte c.self.invariant.0 known some) in
    subst (λ (es : List Transition). AreRings (transition_entries es) (length es)) (sym (c.deref.ensures.value ∙ sym real)) c.self.invariant.0.rings

pub place-requires-clause-side_by_side : goal.place-requires-clause-side_by_side
place-requires-clause-side_by_side c =
    let some = is_some c.args.list c.eq.result c.eq.ensures c.if-eq.false in
    let known : IsList (lists_in (with_first c.self.inside.entries.items)) c.args.list = rw (← c.self.view_is) at c.requires.known in
    let real = real_entries c.self.inside.entries.items c.args.list some (list_in (with_first c.self.inside.entries.items) c.self.inside.limit c.args.list c.args.byte c.self.invariant.0 known some) in
    subst (λ (es : List Transition). AreSideBySide (transition_entries es) (length es) c.self.inside.beside) (sym (c.deref.ensures.value ∙ sym real)) c.self.invariant.1

pub place-requires-clause-within : goal.place-requires-clause-within
place-requires-clause-within c =
    let some = is_some c.args.list c.eq.result c.eq.ensures c.if-eq.false in
    let known : IsList (lists_in (with_first c.self.inside.entries.items)) c.args.list = rw (← c.self.view_is) at c.requires.known in
    let real = real_entries c.self.inside.entries.items c.args.list some (list_in (with_first c.self.inside.entries.items) c.self.inside.limit c.args.list c.args.byte c.self.invariant.0 known some) in
    rw (c.deref.ensures.value ∙ sym real) (list_in (with_first c.self.inside.entries.items) c.self.inside.limit c.args.list c.args.byte c.self.invariant.0 known some)

pub place-requires-clause-ends : goal.place-requires-clause-ends
place-requires-clause-ends c =
    let some = is_some c.args.list c.eq.result c.eq.ensures c.if-eq.false in
    let known : IsList (lists_in (with_first c.self.inside.entries.items)) c.args.list = rw (← c.self.view_is) at c.requires.known in
    let real = real_entries c.self.inside.entries.items c.args.list some (list_in (with_first c.self.inside.entries.items) c.self.inside.limit c.args.list c.args.byte c.self.invariant.0 known some) in
    rw (c.deref.ensures.value ∙ sym real) (list_ends (with_first c.self.inside.entries.items) c.self.inside.limit c.args.list c.args.byte c.self.invariant.0 known some)

pub invariant_of-self : goal.invariant_of-self
invariant_of-self c =
    let some = is_some c.args.list c.eq.result c.eq.ensures c.if-eq.false in
    let known : IsList (lists_in (with_first c.self.inside.entries.items)) c.args.list = rw (← c.self.view_is) at c.requires.known in
    let real = real_entries c.self.inside.entries.items c.args.list some (list_in (with_first c.self.inside.entries.items) c.self.inside.limit c.args.list c.args.byte c.self.invariant.0 known some) in
    let found : IsOn (transition_entries (with_first c.self.inside.entries.items)) c.args.list c.args.byte c.in-Ok.place =
    subst (λ (es : List Transition). IsOn (transition_entries es) c.args.list c.args.byte c.in-Ok.place) (c.deref.ensures.value ∙ sym real) c.in-Ok.ensures.found in
    let inside : c.in-Ok.place < length (with_first c.self.inside.entries.items) = omega (arith, c.in-Ok.ensures.inside, ap (λ (es : List Transition). length es) (c.deref.ensures.value ∙ sym real)) in
    let redirected_is = (first-made (λ (es : List Transition). redirected es c.in-Ok.place c.args.next) c.self.inside.entries.items c.redirect.new.entries.items real (omega (arith, inside, c.redirect.ensures.count, ap (λ (es : List Transition). length es) real)) c.redirect.ensures.redirected) in (
      IsStore-redirected (with_first c.self.inside.entries.items) c.self.inside.limit c.args.list c.args.byte c.self.invariant.0 known some c.args.next c.in-Ok.place inside (with_first c.redirect.new.entries.items) found redirected_is,
      side-redirected (with_first c.self.inside.entries.items) (with_first c.redirect.new.entries.items) c.self.inside.beside c.self.invariant.0.rings c.self.invariant.1 c.args.next c.in-Ok.place inside redirected_is,
    )

pub entry-requires : goal.entry-requires
entry-requires c =
    let some = is_some c.args.list c.eq.result c.eq.ensures c.if-eq.false in
    let known : IsList (lists_in (with_first c.self.inside.entries.items)) c.args.list = rw (← c.self.view_is) at c.requires.known in
    let real = real_entries c.self.inside.entries.items c.args.list some (list_in (with_first c.self.inside.entries.items) c.self.inside.limit c.args.list c.args.byte c.self.invariant.0 known some) in
    record { within = rw (c.deref-in-Err.ensures.value ∙ sym real) (list_in (with_first c.self.inside.entries.items) c.self.inside.limit c.args.list c.args.byte c.self.invariant.0 known some) }

pub returns-in-Ok-clause-number : goal.returns-in-Ok-clause-number
returns-in-Ok-clause-number c =
    let some = is_some c.args.list c.eq.result c.eq.ensures c.if-eq.false in
    let known : IsList (lists_in (with_first c.self.inside.entries.items)) c.args.list = rw (← c.self.view_is) at c.requires.known in
    let real = real_entries c.self.inside.entries.items c.args.list some (list_in (with_first c.self.inside.entries.items) c.self.inside.limit c.args.list c.args.byte c.self.invariant.0 known some) in
    let found : IsOn (transition_entries (with_first c.self.inside.entries.items)) c.args.list c.args.byte c.in-Ok.place =
    subst (λ (es : List Transition). IsOn (transition_entries es) c.args.list c.args.byte c.in-Ok.place) (c.deref.ensures.value ∙ sym real) c.in-Ok.ensures.found in
    let inside : c.in-Ok.place < length (with_first c.self.inside.entries.items) = omega (arith, c.in-Ok.ensures.inside, ap (λ (es : List Transition). length es) (c.deref.ensures.value ∙ sym real)) in
    rw (← c.self.view_is) (sym (number-on (with_first c.self.inside.entries.items) c.self.inside.limit c.args.list c.args.byte c.self.invariant.0 known some c.args.next c.in-Ok.place inside (with_first c.redirect.new.entries.items) found))

pub returns-in-Ok-clause-set : goal.returns-in-Ok-clause-set
returns-in-Ok-clause-set c =
    let some = is_some c.args.list c.eq.result c.eq.ensures c.if-eq.false in
    let known : IsList (lists_in (with_first c.self.inside.entries.items)) c.args.list = rw (← c.self.view_is) at c.requires.known in
    let real = real_entries c.self.inside.entries.items c.args.list some (list_in (with_first c.self.inside.entries.items) c.self.inside.limit c.args.list c.args.byte c.self.invariant.0 known some) in
    let found : IsOn (transition_entries (with_first c.self.inside.entries.items)) c.args.list c.args.byte c.in-Ok.place =
    subst (λ (es : List Transition). IsOn (transition_entries es) c.args.list c.args.byte c.in-Ok.place) (c.deref.ensures.value ∙ sym real) c.in-Ok.ensures.found in
    let inside : c.in-Ok.place < length (with_first c.self.inside.entries.items) = omega (arith, c.in-Ok.ensures.inside, ap (λ (es : List Transition). length es) (c.deref.ensures.value ∙ sym real)) in
    rw (← c.self.view_is)
    (same_store (lists_in-redirected (with_first c.self.inside.entries.items) c.self.inside.limit c.args.list c.args.byte c.self.invariant.0 known some c.args.next c.in-Ok.place inside (with_first c.redirect.new.entries.items) found (first-made (λ (es : List Transition). redirected es c.in-Ok.place c.args.next) c.self.inside.entries.items c.redirect.new.entries.items real (omega (arith, inside, c.redirect.ensures.count, ap (λ (es : List Transition). length es) real)) c.redirect.ensures.redirected)) refl)

pub returns-in-Ok-clause-within : goal.returns-in-Ok-clause-within
returns-in-Ok-clause-within c =
    rw (← c.self.view_is, length-lists_of)
    (omega (arith, length-with_first c.redirect.new.entries.items, length-with_first c.self.inside.entries.items, c.redirect.ensures.count, c.self.invariant.0.count_within))

pub returns-in_err-made-in-Err-clause-there : goal.returns-in_err-made-in-Err-clause-there
returns-in_err-made-in-Err-clause-there c listed =
    let some = is_some c.args.list c.eq.result c.eq.ensures c.if-eq.false in
    let known : IsList (lists_in (with_first c.self.inside.entries.items)) c.args.list = rw (← c.self.view_is) at c.requires.known in
    let real = real_entries c.self.inside.entries.items c.args.list some (list_in (with_first c.self.inside.entries.items) c.self.inside.limit c.args.list c.args.byte c.self.invariant.0 known some) in
    let gap : IsGapBehind (transition_entries (with_first c.self.inside.entries.items)) c.args.list c.args.byte c.in-Err.before =
    subst (λ (es : List Transition). IsGapBehind (transition_entries es) c.args.list c.args.byte c.in-Err.before) (c.deref.ensures.value ∙ sym real) c.in-Err.ensures.absent in
    let inside : c.in-Err.before < length (with_first c.self.inside.entries.items) = omega (arith, c.in-Err.ensures.inside_gap, ap (λ (es : List Transition). length es) (c.deref.ensures.value ∙ sym real)) in
    let unlisted = unlisted-gap (with_first c.self.inside.entries.items) c.self.inside.limit c.args.list c.args.byte c.self.invariant.0 known some c.args.next c.in-Err.before inside (with_first c.insert_behind.new.entries.items) gap in
    let is_listed : lists_transition (list_at (lists_in (with_first c.self.inside.entries.items)) c.args.list) c.args.byte ≡ true =
    subst (λ (s : Lists (ℕ × ℕ)). lists_transition (list_at s.lists c.args.list) c.args.byte ≡ true) (sym c.self.view_is) listed in
    absurd (cc)

pub returns-in_err-made-in-Err-clause-refused : goal.returns-in_err-made-in-Err-clause-refused
returns-in_err-made-in-Err-clause-refused c =
    let some = is_some c.args.list c.eq.result c.eq.ensures c.if-eq.false in
    let known : IsList (lists_in (with_first c.self.inside.entries.items)) c.args.list = rw (← c.self.view_is) at c.requires.known in
    let real = real_entries c.self.inside.entries.items c.args.list some (list_in (with_first c.self.inside.entries.items) c.self.inside.limit c.args.list c.args.byte c.self.invariant.0 known some) in
    rw (← c.self.view_is, length-lists_of)
    (IfErr-given (λ (error : BuildError). error ≡ refusal_at c.self.inside.limit (length (with_first c.self.inside.entries.items))) c.from_residual.result c.in_err-made-in-Err.field-0.0 c.from_residual.ensures.1
    (c.in_err-made-in-Err.ensures.refused ∙ ap (λ (es : List Transition). refusal_at c.self.inside.limit (length es)) (sym real)))

pub invariant_of-self-in-Err : goal.invariant_of-self-in-Err
invariant_of-self-in-Err c =
    let some = is_some c.args.list c.eq.result c.eq.ensures c.if-eq.false in
    let known : IsList (lists_in (with_first c.self.inside.entries.items)) c.args.list = rw (← c.self.view_is) at c.requires.known in
    let real = real_entries c.self.inside.entries.items c.args.list some (list_in (with_first c.self.inside.entries.items) c.self.inside.limit c.args.list c.args.byte c.self.invariant.0 known some) in
    let gap : IsGapBehind (transition_entries (with_first c.self.inside.entries.items)) c.args.list c.args.byte c.in-Err.before =
    subst (λ (es : List Transition). IsGapBehind (transition_entries es) c.args.list c.args.byte c.in-Err.before) (c.deref.ensures.value ∙ sym real) c.in-Err.ensures.absent in
    let inside : c.in-Err.before < length (with_first c.self.inside.entries.items) = omega (arith, c.in-Err.ensures.inside_gap, ap (λ (es : List Transition). length es) (c.deref.ensures.value ∙ sym real)) in
    let inserted = (first-made (λ (es : List Transition). linked_behind es c.in-Err.before c.args.byte c.args.next) c.self.inside.entries.items c.insert_behind.new.entries.items real (omega (arith, c.in_ok-made-in-Err.ensures.count)) c.in_ok-made-in-Err.ensures.inserted) in (
      IsStore-behind (with_first c.self.inside.entries.items) c.self.inside.limit c.args.list c.args.byte c.self.invariant.0 known some c.args.next c.in-Err.before inside (with_first c.insert_behind.new.entries.items) gap (omega (arith, c.in_ok-made-in-Err.ensures.within, ap (λ (es : List Transition). length es) real)) inserted,
      side-behind (with_first c.self.inside.entries.items) (with_first c.insert_behind.new.entries.items) c.self.inside.beside c.self.invariant.0.rings c.self.invariant.1 c.args.list c.args.byte c.args.next c.in-Err.before
          c.beside_behind-self-inside.result (ltb c.entry.result.byte c.args.byte) inside inserted (λ yes here. omega (
            arith,
            ltb-true c.entry.result.byte c.args.byte yes,
            ap (λ (t : Transition). t.byte) (c.entry.ensures.entry ∙ ap (λ (es : List Transition). transition_of es c.args.list) (c.deref-in-Err.ensures.value ∙ sym real)),
            ap (λ (n : ℕ). (transition_of (with_first c.self.inside.entries.items) (transition_of (with_first c.self.inside.entries.items) n).link).byte) here,
            list_ends (with_first c.self.inside.entries.items) c.self.inside.limit c.args.list c.args.byte c.self.invariant.0 known some,
          ))
          (subst (λ (n : ℕ). IsBesideBehind c.self.inside.beside c.args.list c.in-Err.before n (ltb c.entry.result.byte c.args.byte) c.beside_behind-self-inside.result)
          (c.in_ok-made-in-Err.ensures.number ∙ ap (λ (es : List Transition). length es) (sym real)) c.beside_behind-self-inside.ensures.now),
    )

pub returns-after-above-clause-number : goal.returns-after-above-clause-number
returns-after-above-clause-number c =
    let some = is_some c.args.list c.eq.result c.eq.ensures c.if-eq.false in
    let known : IsList (lists_in (with_first c.self.inside.entries.items)) c.args.list = rw (← c.self.view_is) at c.requires.known in
    let real = real_entries c.self.inside.entries.items c.args.list some (list_in (with_first c.self.inside.entries.items) c.self.inside.limit c.args.list c.args.byte c.self.invariant.0 known some) in
    let gap : IsGapBehind (transition_entries (with_first c.self.inside.entries.items)) c.args.list c.args.byte c.in-Err.before =
    subst (λ (es : List Transition). IsGapBehind (transition_entries es) c.args.list c.args.byte c.in-Err.before) (c.deref.ensures.value ∙ sym real) c.in-Err.ensures.absent in
    let inside : c.in-Err.before < length (with_first c.self.inside.entries.items) = omega (arith, c.in-Err.ensures.inside_gap, ap (λ (es : List Transition). length es) (c.deref.ensures.value ∙ sym real)) in
    let read = ap (λ (t : Transition). t.byte) (c.entry.ensures.entry ∙ ap (λ (es : List Transition). transition_of es c.args.list) (c.deref-in-Err.ensures.value ∙ sym real)) in
    rw (← c.self.view_is) (elim c.if-above.branch [
      | then-above w ↦ w.result-is ∙ c.in_ok-made-in-Err.ensures.number ∙ ap (λ (es : List Transition). length es) (sym real)
          ∙ sym (number-above (with_first c.self.inside.entries.items) c.self.inside.limit c.args.list c.args.byte c.self.invariant.0 known some c.args.next c.in-Err.before inside (with_first c.insert_behind.new.entries.items) (omega arith))
      | else-above w ↦ w.result-is
          ∙ sym (number-below (with_first c.self.inside.entries.items) c.self.inside.limit c.args.list c.args.byte c.self.invariant.0 known some c.args.next c.in-Err.before inside (with_first c.insert_behind.new.entries.items) (omega arith))
    ])

pub returns-after-above-clause-set : goal.returns-after-above-clause-set
returns-after-above-clause-set c =
    let some = is_some c.args.list c.eq.result c.eq.ensures c.if-eq.false in
    let known : IsList (lists_in (with_first c.self.inside.entries.items)) c.args.list = rw (← c.self.view_is) at c.requires.known in
    let real = real_entries c.self.inside.entries.items c.args.list some (list_in (with_first c.self.inside.entries.items) c.self.inside.limit c.args.list c.args.byte c.self.invariant.0 known some) in
    let gap : IsGapBehind (transition_entries (with_first c.self.inside.entries.items)) c.args.list c.args.byte c.in-Err.before =
    subst (λ (es : List Transition). IsGapBehind (transition_entries es) c.args.list c.args.byte c.in-Err.before) (c.deref.ensures.value ∙ sym real) c.in-Err.ensures.absent in
    let inside : c.in-Err.before < length (with_first c.self.inside.entries.items) = omega (arith, c.in-Err.ensures.inside_gap, ap (λ (es : List Transition). length es) (c.deref.ensures.value ∙ sym real)) in
    rw (← c.self.view_is)
    (same_store (lists_in-behind (with_first c.self.inside.entries.items) c.self.inside.limit c.args.list c.args.byte c.self.invariant.0 known some c.args.next c.in-Err.before inside (with_first c.insert_behind.new.entries.items) gap (first-made (λ (es : List Transition). linked_behind es c.in-Err.before c.args.byte c.args.next) c.self.inside.entries.items c.insert_behind.new.entries.items real (omega (arith, c.in_ok-made-in-Err.ensures.count)) c.in_ok-made-in-Err.ensures.inserted)) refl)

pub returns-after-above-clause-within : goal.returns-after-above-clause-within
returns-after-above-clause-within c = rw (← c.self.view_is, length-lists_of) (omega (arith, length-with_first c.insert_behind.new.entries.items, c.in_ok-made-in-Err.ensures.count, c.in_ok-made-in-Err.ensures.within))

pub returns-then-eq-clause-number : goal.returns-then-eq-clause-number
returns-then-eq-clause-number c =
    let none = is_zero c.args.list c.eq.result c.eq.ensures c.if-eq.true in
    IfOk-from c.start.result c.start.ensures.number c.start.ensures.started (λ made is started.
    is ∙ sym (ap (λ (n : ℕ). number_after c.args.self.now.lists n c.args.byte) none ∙ number_after-empty c.args.self.now.lists c.args.byte c.start.ensures.empty))

-- ---- the list that was changed, and the others

pub returns-then-eq-clause-changed : goal.returns-then-eq-clause-changed
returns-then-eq-clause-changed c =
    IfOk-from c.start.result (returns-then-eq-clause-number c) (returns-then-eq-clause-set c) (λ made is changed.
    ap (λ (n : ℕ). list_at c.start.new.self.lists n) is ∙ ap (λ (s : Lists (ℕ × ℕ)). list_at s.lists (number_after c.args.self.now.lists c.args.list c.args.byte)) changed
    ∙ set_transition_in-this c.args.self.now.lists c.args.list c.args.byte c.args.next)

pub returns-then-eq-clause-known : goal.returns-then-eq-clause-known
returns-then-eq-clause-known c =
    IfOk-from c.start.result (returns-then-eq-clause-changed c) c.start.ensures.started (λ made changed started.
    IsList-from c.start.new.self.lists made (with_transition (list_at c.args.self.now.lists c.args.list) c.args.byte c.args.next) changed
    (with_transition-some (list_at c.args.self.now.lists c.args.list) c.args.byte c.args.next))

pub returns-then-eq-clause-others : goal.returns-then-eq-clause-others
returns-then-eq-clause-others c =
    OnOk-more c.start.result (λ changed other below ne. ap (λ (s : Lists (ℕ × ℕ)). list_at s.lists other) changed ∙ set_transition_in-other c.args.self.now.lists c.args.list c.args.byte c.args.next other below ne) (returns-then-eq-clause-set c)

pub returns-in-Ok-clause-changed : goal.returns-in-Ok-clause-changed
returns-in-Ok-clause-changed c =
    ap (λ (n : ℕ). list_at (lists_in (with_first c.redirect.new.entries.items)) n) (returns-in-Ok-clause-number c)
    ∙ ap (λ (s : Lists (ℕ × ℕ)). list_at s.lists (number_after c.args.self.now.lists c.args.list c.args.byte)) (returns-in-Ok-clause-set c) ∙ set_transition_in-this c.args.self.now.lists c.args.list c.args.byte c.args.next

pub returns-in-Ok-clause-known : goal.returns-in-Ok-clause-known
returns-in-Ok-clause-known c =
    IsList-from (lists_in (with_first c.redirect.new.entries.items)) c.args.list (with_transition (list_at c.args.self.now.lists c.args.list) c.args.byte c.args.next) (returns-in-Ok-clause-changed c)
    (with_transition-some (list_at c.args.self.now.lists c.args.list) c.args.byte c.args.next)

pub returns-in-Ok-clause-others : goal.returns-in-Ok-clause-others
returns-in-Ok-clause-others c other below ne = ap (λ (s : Lists (ℕ × ℕ)). list_at s.lists other) (returns-in-Ok-clause-set c) ∙ set_transition_in-other c.args.self.now.lists c.args.list c.args.byte c.args.next other below ne

pub returns-after-above-clause-changed : goal.returns-after-above-clause-changed
returns-after-above-clause-changed c =
    ap (λ (n : ℕ). list_at (lists_in (with_first c.insert_behind.new.entries.items)) n) (returns-after-above-clause-number c)
    ∙ ap (λ (s : Lists (ℕ × ℕ)). list_at s.lists (number_after c.args.self.now.lists c.args.list c.args.byte)) (returns-after-above-clause-set c) ∙ set_transition_in-this c.args.self.now.lists c.args.list c.args.byte c.args.next

pub returns-after-above-clause-known : goal.returns-after-above-clause-known
returns-after-above-clause-known c =
    IsList-from (lists_in (with_first c.insert_behind.new.entries.items)) c.if-above.result (with_transition (list_at c.args.self.now.lists c.args.list) c.args.byte c.args.next) (returns-after-above-clause-changed c)
    (with_transition-some (list_at c.args.self.now.lists c.args.list) c.args.byte c.args.next)

pub returns-after-above-clause-others : goal.returns-after-above-clause-others
returns-after-above-clause-others c other below ne = ap (λ (s : Lists (ℕ × ℕ)). list_at s.lists other) (returns-after-above-clause-set c) ∙ set_transition_in-other c.args.self.now.lists c.args.list c.args.byte c.args.next other below ne
