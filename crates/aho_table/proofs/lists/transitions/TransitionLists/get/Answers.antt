-- The list's entries lie side by side, or are walked along.
use Rattle.std.proofs.Common.{◌≡◌, ◌+◌, ◌<◌, ◌≤◌, ℕ, List, Some, length, sym, ap, ◌∙◌, arith}
use Rattle.std.specs.Option.{option_map}
use Rattle.std.proofs.lemmas.Option.{slice_get-get_or}
use Rattle.std.proofs.lemmas.Iterator.Consumers.{nth_from_yields_List, YieldsList-from_first}
use Rattle.aho_table.specs.Rings.{IsRun}
use Rattle.aho_table.specs.Lists.{list_at, IsList}
use Rattle.aho_table.specs.ListsInside.{transition_of, transition_entries, with_first}
use Rattle.aho_table.specs.declared.lists.transitions.Transition.{Transition}
use Rattle.aho_table.proofs.Stores.{list_at-zero, some_list}
use Rattle.aho_table.proofs.SideBySide.{run-item, run-count}
use Rattle.aho_table.proofs.TransitionGaps.{lists_in}
use Rattle.aho_table.proofs.TransitionChanges.{list_in, list_run}
use Rattle.aho_table.proofs.Firsts.{real_entries}
use Rattle.aho_table.proofs.lists.transitions.TransitionLists.get.Goals as goal

pub entry-first-requires : goal.entry-first-requires
entry-first-requires c =
    let some : 0 < c.args.list =
    some_list c.args.self.now.lists c.args.list c.args.index (rw (← c.self.view_is) (list_at-zero (transition_entries (with_first c.self.inside.entries.items)) (length (with_first c.self.inside.entries.items)) c.self.invariant.0.rings.some)) c.requires.within in
    let known : IsList (lists_in (with_first c.self.inside.entries.items)) c.args.list = rw (← c.self.view_is) at c.requires.known in
    let inside : c.args.list < length (with_first c.self.inside.entries.items) = list_in (with_first c.self.inside.entries.items) c.self.inside.limit c.args.list 0 c.self.invariant.0 known some in
    let real : (with_first c.self.inside.entries.items) ≡ c.self.inside.entries.items = real_entries c.self.inside.entries.items c.args.list some inside in
    record { within = rw (c.deref.ensures.value ∙ sym real) inside }

pub new_unchecked-place-requires : goal.new_unchecked-place-requires
new_unchecked-place-requires c =
    let some : 0 < c.args.list =
    some_list c.args.self.now.lists c.args.list c.args.index (rw (← c.self.view_is) (list_at-zero (transition_entries (with_first c.self.inside.entries.items)) (length (with_first c.self.inside.entries.items)) c.self.invariant.0.rings.some)) c.requires.within in
    let known : IsList (lists_in (with_first c.self.inside.entries.items)) c.args.list = rw (← c.self.view_is) at c.requires.known in
    let inside : c.args.list < length (with_first c.self.inside.entries.items) = list_in (with_first c.self.inside.entries.items) c.self.inside.limit c.args.list 0 c.self.invariant.0 known some in
    let real : (with_first c.self.inside.entries.items) ≡ c.self.inside.entries.items = real_entries c.self.inside.entries.items c.args.list some inside in
    let run : IsRun (transition_entries (with_first c.self.inside.entries.items)) c.args.list (transition_of (with_first c.self.inside.entries.items) c.args.list).link (list_at (lists_in (with_first c.self.inside.entries.items)) c.args.list) = list_run (with_first c.self.inside.entries.items) c.self.inside.limit c.args.list 0 c.self.invariant.0 known some in
    let first : c.entry-first.result.link ≡ (transition_of (with_first c.self.inside.entries.items) c.args.list).link =
    ap (λ (e : Transition). e.link) (c.entry-first.ensures.entry ∙ ap (λ (es : List Transition). transition_of es c.args.list) (c.deref.ensures.value ∙ sym real)) in
    let beside = c.are_beside.ensures.beside.0 c.if-are_beside.true in
    let below : c.args.list < c.self.inside.beside = beside.0 in
    let rising : c.entry-first.result.link ≤ c.args.list = beside.1 in
    let within : c.args.index < length (list_at (lists_in (with_first c.self.inside.entries.items)) c.args.list) = rw (← c.self.view_is) at c.requires.within in
    let count = run-count c.self.invariant.1 below run (omega (arith, first)) in
    let small = c.self.invariant.0.small in
    let most = c.self.invariant.0.count_within in
    record { within = omega (arith, first, count, inside, c.as_usize.ensures.value) }

pub overflow_add-as_usize : goal.overflow_add-as_usize
overflow_add-as_usize c =
    let bound = (new_unchecked-place-requires c).within in
    omega arith

pub entry-listed-requires : goal.entry-listed-requires
entry-listed-requires c =
    let some : 0 < c.args.list =
    some_list c.args.self.now.lists c.args.list c.args.index (rw (← c.self.view_is) (list_at-zero (transition_entries (with_first c.self.inside.entries.items)) (length (with_first c.self.inside.entries.items)) c.self.invariant.0.rings.some)) c.requires.within in
    let known : IsList (lists_in (with_first c.self.inside.entries.items)) c.args.list = rw (← c.self.view_is) at c.requires.known in
    let inside : c.args.list < length (with_first c.self.inside.entries.items) = list_in (with_first c.self.inside.entries.items) c.self.inside.limit c.args.list 0 c.self.invariant.0 known some in
    let real : (with_first c.self.inside.entries.items) ≡ c.self.inside.entries.items = real_entries c.self.inside.entries.items c.args.list some inside in
    let run : IsRun (transition_entries (with_first c.self.inside.entries.items)) c.args.list (transition_of (with_first c.self.inside.entries.items) c.args.list).link (list_at (lists_in (with_first c.self.inside.entries.items)) c.args.list) = list_run (with_first c.self.inside.entries.items) c.self.inside.limit c.args.list 0 c.self.invariant.0 known some in
    let first : c.entry-first.result.link ≡ (transition_of (with_first c.self.inside.entries.items) c.args.list).link =
    ap (λ (e : Transition). e.link) (c.entry-first.ensures.entry ∙ ap (λ (es : List Transition). transition_of es c.args.list) (c.deref.ensures.value ∙ sym real)) in
    let beside = c.are_beside.ensures.beside.0 c.if-are_beside.true in
    let below : c.args.list < c.self.inside.beside = beside.0 in
    let rising : c.entry-first.result.link ≤ c.args.list = beside.1 in
    let within : c.args.index < length (list_at (lists_in (with_first c.self.inside.entries.items)) c.args.list) = rw (← c.self.view_is) at c.requires.within in
    let count = run-count c.self.invariant.1 below run (omega (arith, first)) in
    record { within = rw (c.deref-then-are_beside.ensures.value ∙ sym real) (omega (arith, first, count, inside, c.as_usize.ensures.value, c.new_unchecked-place.ensures.value)) }

pub returns-then-are_beside : goal.returns-then-are_beside
returns-then-are_beside c =
    let some : 0 < c.args.list =
    some_list c.args.self.now.lists c.args.list c.args.index (rw (← c.self.view_is) (list_at-zero (transition_entries (with_first c.self.inside.entries.items)) (length (with_first c.self.inside.entries.items)) c.self.invariant.0.rings.some)) c.requires.within in
    let known : IsList (lists_in (with_first c.self.inside.entries.items)) c.args.list = rw (← c.self.view_is) at c.requires.known in
    let inside : c.args.list < length (with_first c.self.inside.entries.items) = list_in (with_first c.self.inside.entries.items) c.self.inside.limit c.args.list 0 c.self.invariant.0 known some in
    let real : (with_first c.self.inside.entries.items) ≡ c.self.inside.entries.items = real_entries c.self.inside.entries.items c.args.list some inside in
    let run : IsRun (transition_entries (with_first c.self.inside.entries.items)) c.args.list (transition_of (with_first c.self.inside.entries.items) c.args.list).link (list_at (lists_in (with_first c.self.inside.entries.items)) c.args.list) = list_run (with_first c.self.inside.entries.items) c.self.inside.limit c.args.list 0 c.self.invariant.0 known some in
    let first : c.entry-first.result.link ≡ (transition_of (with_first c.self.inside.entries.items) c.args.list).link =
    ap (λ (e : Transition). e.link) (c.entry-first.ensures.entry ∙ ap (λ (es : List Transition). transition_of es c.args.list) (c.deref.ensures.value ∙ sym real)) in
    let beside = c.are_beside.ensures.beside.0 c.if-are_beside.true in
    let below : c.args.list < c.self.inside.beside = beside.0 in
    let rising : c.entry-first.result.link ≤ c.args.list = beside.1 in
    let within : c.args.index < length (list_at (lists_in (with_first c.self.inside.entries.items)) c.args.list) = rw (← c.self.view_is) at c.requires.within in
    let place : (transition_of (with_first c.self.inside.entries.items) c.args.list).link + c.args.index ≡ c.new_unchecked-place.result = omega (arith, first, c.as_usize.ensures.value, c.new_unchecked-place.ensures.value) in
    let read : c.entry-listed.result ≡ transition_of (with_first c.self.inside.entries.items) c.new_unchecked-place.result =
    c.entry-listed.ensures.entry ∙ ap (λ (es : List Transition). transition_of es c.new_unchecked-place.result) (c.deref-then-are_beside.ensures.value ∙ sym real) in
    record {
      listed = rw (← c.self.view_is) (slice_get-get_or (list_at (lists_in (with_first c.self.inside.entries.items)) c.args.list) c.args.index (0, 1) within
          ∙ ap Some (run-item c.self.invariant.1 below run (omega (arith, first)) (0, 1) c.args.index within ∙ ap (transition_entries (with_first c.self.inside.entries.items)).item place
          ∙ sym (ap (λ (e : Transition). (e.byte, e.next)) read)));
    }

pub returns : goal.returns
returns c = record {
  listed = sym (nth_from_yields_List c.nth.result c.nth.new.self c.args.index c.nth.ensures.ran
      (YieldsList-from_first (λ (x : (ℕ × ℕ)). x) (λ rest. rest) (list_at c.args.self.now.lists c.args.list) c.iter.ensures.listed))
      ∙ ap (option_map (λ (x : (ℕ × ℕ)). x)) c.unwrap.ensures;
}
