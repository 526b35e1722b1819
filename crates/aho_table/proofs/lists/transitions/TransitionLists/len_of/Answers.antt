-- The list's entries lie side by side, or are counted.
use Rattle.std.proofs.Common.{◌≡◌, ◌<◌, ◌≤◌, ℕ, List, length, sym, ap, ◌∙◌, inl, arith}
use Rattle.aho_table.specs.Rings.{IsRun}
use Rattle.aho_table.specs.Lists.{Lists, list_at, IsList}
use Rattle.aho_table.specs.ListsInside.{transition_of, transition_entries, with_first}
use Rattle.aho_table.specs.declared.lists.transitions.Transition.{Transition}
use Rattle.aho_table.proofs.Results.{is_zero, is_some}
use Rattle.aho_table.proofs.Stores.{list_at-zero}
use Rattle.aho_table.proofs.SideBySide.{run-length, run-count}
use Rattle.aho_table.proofs.TransitionGaps.{lists_in}
use Rattle.aho_table.proofs.TransitionChanges.{list_in, list_run}
use Rattle.aho_table.proofs.Firsts.{real_entries}
use Rattle.aho_table.proofs.lists.transitions.TransitionLists.len_of.Goals as goal

pub returns-then-eq : goal.returns-then-eq
returns-then-eq c =
    let none = is_zero c.args.list c.eq.result c.eq.ensures c.if-eq.true in
    record { len = rw (← c.self.view_is, none) (sym (ap (λ (xs : List (ℕ × ℕ)). length xs) (list_at-zero (transition_entries (with_first c.self.inside.entries.items)) (length (with_first c.self.inside.entries.items)) c.self.invariant.0.rings.some))) }

pub entry-end-requires : goal.entry-end-requires
entry-end-requires c =
    let some : 0 < c.args.list = is_some c.args.list c.eq.result c.eq.ensures c.if-eq.false in
    let known : IsList (lists_in (with_first c.self.inside.entries.items)) c.args.list = rw (← c.self.view_is) at c.requires.known in
    let inside : c.args.list < length (with_first c.self.inside.entries.items) = list_in (with_first c.self.inside.entries.items) c.self.inside.limit c.args.list 0 c.self.invariant.0 known some in
    let real : (with_first c.self.inside.entries.items) ≡ c.self.inside.entries.items = real_entries c.self.inside.entries.items c.args.list some inside in
    record { within = rw (c.as_slice-entries.ensures.value ∙ sym real) inside }

pub returns-then-are_beside : goal.returns-then-are_beside
returns-then-are_beside c =
    let some : 0 < c.args.list = is_some c.args.list c.eq.result c.eq.ensures c.if-eq.false in
    let known : IsList (lists_in (with_first c.self.inside.entries.items)) c.args.list = rw (← c.self.view_is) at c.requires.known in
    let inside : c.args.list < length (with_first c.self.inside.entries.items) = list_in (with_first c.self.inside.entries.items) c.self.inside.limit c.args.list 0 c.self.invariant.0 known some in
    let real : (with_first c.self.inside.entries.items) ≡ c.self.inside.entries.items = real_entries c.self.inside.entries.items c.args.list some inside in
    let run : IsRun (transition_entries (with_first c.self.inside.entries.items)) c.args.list (transition_of (with_first c.self.inside.entries.items) c.args.list).link (list_at (lists_in (with_first c.self.inside.entries.items)) c.args.list) = list_run (with_first c.self.inside.entries.items) c.self.inside.limit c.args.list 0 c.self.invariant.0 known some in
    let first : c.entry-end.result.link ≡ (transition_of (with_first c.self.inside.entries.items) c.args.list).link =
    ap (λ (e : Transition). e.link) (c.entry-end.ensures.entry ∙ ap (λ (es : List Transition). transition_of es c.args.list) (c.as_slice-entries.ensures.value ∙ sym real)) in
    let beside = c.are_beside.ensures.beside.0 c.if-are_beside.true in
    let below : c.args.list < c.self.inside.beside = beside.0 in
    let rising : c.entry-end.result.link ≤ c.args.list = beside.1 in
    let count = run-count c.self.invariant.1 below run (omega (arith, first)) in
    record { len = rw (← c.self.view_is) (omega (arith, first, count, c.as_usize.ensures.value, c.as_usize-then-are_beside.ensures.value)) }

pub count-requires-clause-fits : goal.count-requires-clause-fits
count-requires-clause-fits c =
    let some : 0 < c.args.list = is_some c.args.list c.eq.result c.eq.ensures c.if-eq.false in
    let known : IsList (lists_in (with_first c.self.inside.entries.items)) c.args.list = rw (← c.self.view_is) at c.requires.known in
    let inside : c.args.list < length (with_first c.self.inside.entries.items) = list_in (with_first c.self.inside.entries.items) c.self.inside.limit c.args.list 0 c.self.invariant.0 known some in
    let real : (with_first c.self.inside.entries.items) ≡ c.self.inside.entries.items = real_entries c.self.inside.entries.items c.args.list some inside in
    let run : IsRun (transition_entries (with_first c.self.inside.entries.items)) c.args.list (transition_of (with_first c.self.inside.entries.items) c.args.list).link (list_at (lists_in (with_first c.self.inside.entries.items)) c.args.list) = list_run (with_first c.self.inside.entries.items) c.self.inside.limit c.args.list 0 c.self.invariant.0 known some in
    let listed = ap (λ (xs : List (ℕ × ℕ)). length xs) c.iter.ensures.listed in
    let seen = ap (λ (s : Lists (ℕ × ℕ)). length (list_at s.lists c.args.list)) c.self.view_is in
    let small = c.self.invariant.0.small in
    let count = c.self.invariant.0.count_within in
    inl (omega (arith, listed, seen, run-length run, ap (λ (t : Transition). t.byte) (c.entry-end.ensures.entry ∙ ap (λ (es : List Transition). transition_of es c.args.list) (c.as_slice-entries.ensures.value ∙ sym real))))
