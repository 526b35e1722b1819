-- The state's list is changed, and no other.
use Rattle.std.proofs.Common.{◌≡◌, ℕ, List, length, Bool, true, cond, refl, sym, ap, subst, ◌∙◌, arith}
use Rattle.std.proofs.Math.ListN.{set}
use Rattle.aho_table.specs.Lists.{Lists, list_at}
use Rattle.aho_table.specs.TransitionList.{with_transition, lists_transition}
use Rattle.aho_table.proofs.Families.{set_transition_in-count, number_after-fresh}
use Rattle.aho_table.specs.Table.{State, state_at, transitions_count}
use Rattle.aho_table.specs.Inside.{LimitedStates, recorded_states, IsNone, IsConsistent}
use Rattle.aho_table.specs.declared.links.states.Record.{Record}
use Rattle.aho_table.proofs.TransitionLists.{length-with_transition}
use Rattle.aho_table.proofs.Records.{read_in, read_is, read_here, transitions_known, same_table}
use Rattle.aho_table.proofs.Changes.{IsListChange, IsListChange-alone, states-led, IsConsistent-led}
use Rattle.aho_table.proofs.links.states.States.set.Goals as goal

pub record_of-state-requires : goal.record_of-state-requires
record_of-state-requires c = record { added = read_in c.self.inside.records.items c.self.inside.transitions c.self.inside.matches c.self.inside.limit c.args.sid c.args.self.now c.self.view_is c.requires.added c.deref.result.now c.deref.ensures.value }

pub set-requires : goal.set-requires
set-requires c = record {
  known = transitions_known c.self.inside.records.items c.self.inside.transitions c.self.inside.matches c.self.inside.limit c.args.sid c.args.self.now c.self.view_is c.requires.added
      c.deref.result.now c.deref.ensures.value c.record_of-state.result c.record_of-state.ensures.found c.self.invariant.transition_lists;
}

pub returns-in_err-list-clause-there : goal.returns-in_err-list-clause-there
returns-in_err-list-clause-there c listed =
    absurd (let ok = c.in_err-list.ensures.there (sym (ap (λ (s : State). lists_transition s.transitions c.args.byte)
    (read_is c.self.inside.records.items c.self.inside.transitions c.self.inside.matches c.self.inside.limit c.args.sid c.args.self.now c.self.view_is c.requires.added c.deref.result.now c.deref.ensures.value c.record_of-state.result c.record_of-state.ensures.found)) ∙ listed) in cc)

pub replace-requires : goal.replace-requires
replace-requires c = record { added = read_in c.self.inside.records.items c.self.inside.transitions c.self.inside.matches c.self.inside.limit c.args.sid c.args.self.now c.self.view_is c.requires.added c.self.inside.records.items refl }

the_change : (c : goal.After-replace) → IsListChange IsNone IsNone c.self.inside.transitions.lists c.set.new.self.lists c.record_of-state.result.transitions c.in_ok-list.list
    (with_transition (list_at c.self.inside.transitions.lists c.record_of-state.result.transitions) c.args.byte c.args.next)
the_change c =
    IsListChange-alone c.self.inside.transitions.lists c.set.new.self.lists c.record_of-state.result.transitions c.in_ok-list.list
    (with_transition (list_at c.self.inside.transitions.lists c.record_of-state.result.transitions) c.args.byte c.args.next)
    c.facts.ensures.some c.facts.ensures.empty c.facts-2.ensures.empty c.in_ok-list.ensures.others c.in_ok-list.ensures.changed c.in_ok-list.ensures.known
    (number_after-fresh c.self.inside.transitions.lists c.record_of-state.result.transitions c.args.byte c.in_ok-list.list c.in_ok-list.ensures.number)

pub invariant_of-self-2 : goal.invariant_of-self-2
invariant_of-self-2 c =
    subst (λ (rs : List Record). IsConsistent rs c.set.new.self c.self.inside.matches c.self.inside.limit) (sym c.replace.ensures.replaced)
    (IsConsistent-led c.self.inside.records.items c.args.sid c.record_of-state.result
    (read_in c.self.inside.records.items c.self.inside.transitions c.self.inside.matches c.self.inside.limit c.args.sid c.args.self.now c.self.view_is c.requires.added c.self.inside.records.items refl)
    (read_here c.self.inside.records.items c.self.inside.transitions c.self.inside.matches c.self.inside.limit c.args.sid c.args.self.now c.self.view_is c.requires.added c.deref.result.now c.deref.ensures.value c.record_of-state.result c.record_of-state.ensures.found)
    c.self.inside.transitions c.set.new.self c.self.inside.matches c.self.inside.limit c.in_ok-list.list
    (with_transition (list_at c.self.inside.transitions.lists c.record_of-state.result.transitions) c.args.byte c.args.next)
    c.self.invariant (the_change c) (ap (λ (s : Lists (ℕ × ℕ)). s.limit) c.in_ok-list.ensures.set)
    (omega (
      arith,
      ap (λ (s : Lists (ℕ × ℕ)). length s.lists) c.in_ok-list.ensures.set,
      set_transition_in-count c.self.inside.transitions.lists c.record_of-state.result.transitions c.args.byte c.args.next,
      length-with_transition (list_at c.self.inside.transitions.lists c.record_of-state.result.transitions) c.args.byte c.args.next (c.facts.ensures.rising c.record_of-state.result.transitions),
    )))

pub returns-clause-set : goal.returns-clause-set
returns-clause-set c =
    let row = read_is c.self.inside.records.items c.self.inside.transitions c.self.inside.matches c.self.inside.limit c.args.sid c.args.self.now c.self.view_is c.requires.added c.deref.result.now c.deref.ensures.value c.record_of-state.result c.record_of-state.ensures.found in
    same_table
    (ap (recorded_states c.set.new.self.lists c.self.inside.matches.lists) c.replace.ensures.replaced
    ∙ states-led c.self.inside.records.items c.args.sid c.record_of-state.result
    (read_in c.self.inside.records.items c.self.inside.transitions c.self.inside.matches c.self.inside.limit c.args.sid c.args.self.now c.self.view_is c.requires.added c.self.inside.records.items refl)
    (read_here c.self.inside.records.items c.self.inside.transitions c.self.inside.matches c.self.inside.limit c.args.sid c.args.self.now c.self.view_is c.requires.added c.deref.result.now c.deref.ensures.value c.record_of-state.result c.record_of-state.ensures.found)
    c.self.inside.transitions.lists c.set.new.self.lists c.in_ok-list.list
    (with_transition (list_at c.self.inside.transitions.lists c.record_of-state.result.transitions) c.args.byte c.args.next)
    c.self.invariant.transition_lists (the_change c) c.self.inside.matches.lists
    ∙ ap (λ (t : LimitedStates). set t.states c.args.sid (record (state_at t.states c.args.sid) { transitions = with_transition (list_at c.self.inside.transitions.lists c.record_of-state.result.transitions) c.args.byte c.args.next })) c.self.view_is
    ∙ ap (λ (s : State). set c.args.self.now.states c.args.sid (record (state_at c.args.self.now.states c.args.sid) { transitions = with_transition s.transitions c.args.byte c.args.next })) (sym row))
    (ap (λ (t : LimitedStates). t.limit) c.self.view_is)

pub returns-clause-kept : goal.returns-clause-kept
returns-clause-kept c listed =
    let row = read_is c.self.inside.records.items c.self.inside.transitions c.self.inside.matches c.self.inside.limit c.args.sid c.args.self.now c.self.view_is c.requires.added c.deref.result.now c.deref.ensures.value c.record_of-state.result c.record_of-state.ensures.found in
    let was_listed : lists_transition (list_at c.self.inside.transitions.lists c.record_of-state.result.transitions) c.args.byte ≡ true =
    sym (ap (λ (s : State). lists_transition s.transitions c.args.byte) row) ∙ listed in
    omega (
      arith,
      (invariant_of-self-2 c).transitions_are,
      c.self.invariant.transitions_are,
      ap (λ (t : LimitedStates). transitions_count t.states) c.self.view_is,
      ap (λ (s : Lists (ℕ × ℕ)). length s.lists) c.in_ok-list.ensures.set,
      set_transition_in-count c.self.inside.transitions.lists c.record_of-state.result.transitions c.args.byte c.args.next,
      ap (λ (b : Bool). let n : ℕ = cond b 0 1 in n) was_listed,
    )

pub returns-clause-within : goal.returns-clause-within
returns-clause-within c =
    omega (
      arith,
      (invariant_of-self-2 c).transitions_are,
      c.in_ok-list.ensures.within,
      c.self.invariant.transitions_limit,
      ap (λ (t : LimitedStates). t.limit) c.self.view_is,
    )
