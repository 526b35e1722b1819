-- A walk begins with the first entry of the list.
use Rattle.std.proofs.Common.{◌≡◌, ◌<◌, ℕ, List, length, sym, subst, ◌∙◌}
use Rattle.aho_table.specs.Rings.{IsRun}
use Rattle.aho_table.specs.Lists.{list_at, IsList}
use Rattle.aho_table.specs.TransitionList.{IsRising}
use Rattle.aho_table.specs.ListsInside.{transition_of, transition_entries}
use Rattle.aho_table.specs.declared.lists.transitions.Transition.{Transition}
use Rattle.aho_table.proofs.Results.{is_zero, is_some}
use Rattle.aho_table.proofs.Stores.{list_at-zero}
use Rattle.aho_table.proofs.Walks.{rest_from-some, rest_from-none}
use Rattle.aho_table.proofs.TransitionGaps.{lists_in}
use Rattle.aho_table.proofs.TransitionChanges.{list_in, list_run, list_at-rising}
use Rattle.aho_table.proofs.Firsts.{real_entries}
use Rattle.aho_table.specs.ListsInside.{with_first}
use Rattle.aho_table.proofs.lists.transitions.TransitionLists.iter.Goals as goal

pub returns-then-eq-clause-listed : goal.returns-then-eq-clause-listed
returns-then-eq-clause-listed c =
    let none = is_zero c.args.list c.eq.result c.eq.ensures c.if-eq.true in
    rest_from-none (transition_entries c.as_slice-entries.result.now) c.args.list
    ∙ sym (rw (← c.self.view_is, none) (list_at-zero (transition_entries (with_first c.self.inside.entries.items)) (length (with_first c.self.inside.entries.items)) c.self.invariant.0.rings.some))

pub returns-then-eq-clause-rising : goal.returns-then-eq-clause-rising
returns-then-eq-clause-rising c = subst (λ (l : List (ℕ × ℕ)). IsRising l) (sym (rest_from-none (transition_entries c.as_slice-entries.result.now) c.args.list)) tt

pub entry-requires : goal.entry-requires
entry-requires c =
    let some = is_some c.args.list c.eq.result c.eq.ensures c.if-eq.false in
    let known : IsList (lists_in (with_first c.self.inside.entries.items)) c.args.list = rw (← c.self.view_is) at c.requires.known in
    let real = real_entries c.self.inside.entries.items c.args.list some (list_in (with_first c.self.inside.entries.items) c.self.inside.limit c.args.list 0 c.self.invariant.0 known some) in
    record { within = rw (c.as_slice-entries.ensures.value ∙ sym real) (list_in (with_first c.self.inside.entries.items) c.self.inside.limit c.args.list 0 c.self.invariant.0 known some) }

-- the run from the first entry, in the entries as the walk sees them
first_run : (entries seen : List Transition) (list : ℕ) (read : Transition) (xs : List (ℕ × ℕ)) → seen ≡ entries → read ≡ transition_of seen list
    → IsRun (transition_entries entries) list (transition_of entries list).link xs → IsRun (transition_entries seen) list read.link xs
first_run entries seen list read xs same is run =
    subst (λ (t : Transition). IsRun (transition_entries seen) list t.link xs) (sym is)
    (subst (λ (es : List Transition). IsRun (transition_entries es) list (transition_of es list).link xs) (sym same) run)

pub invariant_of-result-2 : goal.invariant_of-result-2
invariant_of-result-2 c =
    let some = is_some c.args.list c.eq.result c.eq.ensures c.if-eq.false in
    let known : IsList (lists_in (with_first c.self.inside.entries.items)) c.args.list = rw (← c.self.view_is) at c.requires.known in
    let real = real_entries c.self.inside.entries.items c.args.list some (list_in (with_first c.self.inside.entries.items) c.self.inside.limit c.args.list 0 c.self.invariant.0 known some) in
    let run = list_run (with_first c.self.inside.entries.items) c.self.inside.limit c.args.list 0 c.self.invariant.0 known some in
    let below = list_in (with_first c.self.inside.entries.items) c.self.inside.limit c.args.list 0 c.self.invariant.0 known some in
    let within : (i : ℕ) → i < length c.as_slice-entries.result.now → (transition_of c.as_slice-entries.result.now i).link < length c.as_slice-entries.result.now =
    rw (c.as_slice-entries.ensures.value ∙ sym real) c.self.invariant.0.rings.within in
    record {
      within = within;
      on_list = (
        rw c.entry.ensures.entry (within c.args.list (rw (c.as_slice-entries.ensures.value ∙ sym real) below)),
        list_at (lists_in (with_first c.self.inside.entries.items)) c.args.list,
        first_run (with_first c.self.inside.entries.items) c.as_slice-entries.result.now c.args.list c.entry.result (list_at (lists_in (with_first c.self.inside.entries.items)) c.args.list) (c.as_slice-entries.ensures.value ∙ sym real) c.entry.ensures.entry run,
      );
    }

pub returns-clause-listed : goal.returns-clause-listed
returns-clause-listed c =
    let some = is_some c.args.list c.eq.result c.eq.ensures c.if-eq.false in
    let known : IsList (lists_in (with_first c.self.inside.entries.items)) c.args.list = rw (← c.self.view_is) at c.requires.known in
    let real = real_entries c.self.inside.entries.items c.args.list some (list_in (with_first c.self.inside.entries.items) c.self.inside.limit c.args.list 0 c.self.invariant.0 known some) in
    let run = list_run (with_first c.self.inside.entries.items) c.self.inside.limit c.args.list 0 c.self.invariant.0 known some in
    rw (← c.self.view_is)
    (rest_from-some (first_run (with_first c.self.inside.entries.items) c.as_slice-entries.result.now c.args.list c.entry.result (list_at (lists_in (with_first c.self.inside.entries.items)) c.args.list) (c.as_slice-entries.ensures.value ∙ sym real) c.entry.ensures.entry run))

pub returns-clause-rising : goal.returns-clause-rising
returns-clause-rising c =
    let some = is_some c.args.list c.eq.result c.eq.ensures c.if-eq.false in
    let known : IsList (lists_in (with_first c.self.inside.entries.items)) c.args.list = rw (← c.self.view_is) at c.requires.known in
    let real = real_entries c.self.inside.entries.items c.args.list some (list_in (with_first c.self.inside.entries.items) c.self.inside.limit c.args.list 0 c.self.invariant.0 known some) in
    let run = list_run (with_first c.self.inside.entries.items) c.self.inside.limit c.args.list 0 c.self.invariant.0 known some in
    subst (λ (l : List (ℕ × ℕ)). IsRising l)
    (sym (rest_from-some (first_run (with_first c.self.inside.entries.items) c.as_slice-entries.result.now c.args.list c.entry.result (list_at (lists_in (with_first c.self.inside.entries.items)) c.args.list) (c.as_slice-entries.ensures.value ∙ sym real) c.entry.ensures.entry run)))
    (list_at-rising (with_first c.self.inside.entries.items) c.self.invariant.0.rings c.args.list)
