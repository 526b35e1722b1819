-- The state's list is changed, and no other.
use Rattle.std.proofs.Common.{List, [], ◌∷◌, ◌++◌, refl, inl, sym, ap, subst, ◌∙◌, arith}
use Rattle.std.proofs.Math.ListN.{set}
use Rattle.aho_table.specs.Lists.{list_at}
use Rattle.aho_table.specs.Table.{State, state_at}
use Rattle.std.proofs.lemmas.List.{length_push}
use Rattle.aho_table.specs.Inside.{LimitedStates, recorded_states, IsShared, IsConsistent}
use Rattle.aho_table.specs.declared.links.states.Record.{Record}
use Rattle.aho_table.proofs.Records.{read_in, read_is, read_here, matches_known, same_table}
use Rattle.aho_table.proofs.Changes.{IsListChange, IsListChange-listed, states-listed, IsConsistent-listed}
use Rattle.aho_table.proofs.links.states.States.add_match.Goals as goal

pub record_of-state-requires : goal.record_of-state-requires
record_of-state-requires c = record { added = read_in c.self.inside.records.items c.self.inside.transitions c.self.inside.matches c.self.inside.limit c.args.sid c.args.self.now c.self.view_is c.requires.added c.deref.result.now c.deref.ensures.value }

pub push-requires : goal.push-requires
push-requires c = record {
  known = matches_known c.self.inside.records.items c.self.inside.transitions c.self.inside.matches c.self.inside.limit c.args.sid c.args.self.now c.self.view_is c.requires.added
      c.deref.result.now c.deref.ensures.value c.record_of-state.result c.record_of-state.ensures.found c.self.invariant.match_lists;
}

pub replace-requires : goal.replace-requires
replace-requires c = record { added = read_in c.self.inside.records.items c.self.inside.transitions c.self.inside.matches c.self.inside.limit c.args.sid c.args.self.now c.self.view_is c.requires.added c.self.inside.records.items refl }

the_change : (c : goal.After-replace) → IsListChange (IsShared c.self.inside.matches.closed) (IsShared c.push.new.self.closed) c.self.inside.matches.lists c.push.new.self.lists c.record_of-state.result.matches c.in_ok-list.list
    (list_at c.self.inside.matches.lists c.record_of-state.result.matches ++ c.args.pattern ∷ [])
the_change c =
    IsListChange-listed c.self.inside.matches c.push.new.self c.record_of-state.result.matches c.in_ok-list.list
    (list_at c.self.inside.matches.lists c.record_of-state.result.matches ++ c.args.pattern ∷ [])
    c.facts.ensures.some c.facts.ensures.empty c.facts-2.ensures.empty c.in_ok-list.ensures.listed (inl c.in_ok-list.ensures.number)

pub invariant_of-self-2 : goal.invariant_of-self-2
invariant_of-self-2 c =
    subst (λ (rs : List Record). IsConsistent rs c.self.inside.transitions c.push.new.self c.self.inside.limit) (sym c.replace.ensures.replaced)
    (IsConsistent-listed c.self.inside.records.items c.args.sid c.record_of-state.result
    (read_in c.self.inside.records.items c.self.inside.transitions c.self.inside.matches c.self.inside.limit c.args.sid c.args.self.now c.self.view_is c.requires.added c.self.inside.records.items refl)
    (read_here c.self.inside.records.items c.self.inside.transitions c.self.inside.matches c.self.inside.limit c.args.sid c.args.self.now c.self.view_is c.requires.added c.deref.result.now c.deref.ensures.value c.record_of-state.result c.record_of-state.ensures.found)
    c.self.inside.transitions c.self.inside.matches c.push.new.self c.self.inside.limit c.in_ok-list.list
    (list_at c.self.inside.matches.lists c.record_of-state.result.matches ++ c.args.pattern ∷ [])
    c.self.invariant (the_change c) c.in_ok-list.ensures.limit
    (omega (
      arith,
      c.in_ok-list.ensures.counted,
      length_push (list_at c.self.inside.matches.lists c.record_of-state.result.matches) c.args.pattern,
    )))

pub returns-clause-listed : goal.returns-clause-listed
returns-clause-listed c =
    let row = read_is c.self.inside.records.items c.self.inside.transitions c.self.inside.matches c.self.inside.limit c.args.sid c.args.self.now c.self.view_is c.requires.added c.deref.result.now c.deref.ensures.value c.record_of-state.result c.record_of-state.ensures.found in
    same_table
    (ap (recorded_states c.self.inside.transitions.lists c.push.new.self.lists) c.replace.ensures.replaced
    ∙ states-listed c.self.inside.records.items c.args.sid c.record_of-state.result
    (read_in c.self.inside.records.items c.self.inside.transitions c.self.inside.matches c.self.inside.limit c.args.sid c.args.self.now c.self.view_is c.requires.added c.self.inside.records.items refl)
    (read_here c.self.inside.records.items c.self.inside.transitions c.self.inside.matches c.self.inside.limit c.args.sid c.args.self.now c.self.view_is c.requires.added c.deref.result.now c.deref.ensures.value c.record_of-state.result c.record_of-state.ensures.found)
    c.self.inside.matches.closed c.push.new.self.closed c.self.inside.matches.lists c.push.new.self.lists c.in_ok-list.list
    (list_at c.self.inside.matches.lists c.record_of-state.result.matches ++ c.args.pattern ∷ [])
    c.self.invariant.match_lists (the_change c) c.self.inside.transitions.lists
    ∙ ap (λ (t : LimitedStates). set t.states c.args.sid (record (state_at t.states c.args.sid) { matches = list_at c.self.inside.matches.lists c.record_of-state.result.matches ++ c.args.pattern ∷ [] })) c.self.view_is
    ∙ ap (λ (s : State). set c.args.self.now.states c.args.sid (record (state_at c.args.self.now.states c.args.sid) { matches = s.matches ++ c.args.pattern ∷ [] })) (sym row))
    (ap (λ (t : LimitedStates). t.limit) c.self.view_is)
