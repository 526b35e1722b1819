-- The first records are those that there were.
use Rattle.std.proofs.Common.{◌-◌, List, length, sym, ap, subst, ◌∙◌, arith}
use Rattle.std.proofs.lemmas.List.{length_push}
use Rattle.aho_table.specs.Table.{State, new_state}
use Rattle.aho_table.specs.Inside.{LimitedStates, recorded_states, IsConsistent}
use Rattle.aho_table.specs.declared.links.states.Record.{Record}
use Rattle.aho_table.proofs.Records.{count_is, same_table}
use Rattle.aho_table.proofs.Changes.{recorded_states-first, IsConsistent-first}
use Rattle.aho_table.proofs.links.states.States.remove_last.Goals as goal

pub overflow_sub-count : goal.overflow_sub-count
overflow_sub-count c =
    omega (
      arith,
      count_is c.self.inside.records.items c.self.inside.transitions c.self.inside.matches c.self.inside.limit c.args.self.now c.self.view_is,
      c.self.inside.records.ok,
      ap (λ (ss : List State). length ss) c.requires.last.2,
      length_push c.requires.last.0 (new_state c.requires.last.1),
    )

pub invariant_of-self : goal.invariant_of-self
invariant_of-self c =
    subst (λ (rs : List Record). IsConsistent rs c.self.inside.transitions c.self.inside.matches c.self.inside.limit) (sym c.truncate.ensures.items)
    (IsConsistent-first c.self.inside.records.items c.self.inside.transitions c.self.inside.matches c.self.inside.limit c.requires.last.0 c.requires.last.1 (c.len-count.result - 1) c.self.invariant
    (ap (λ (t : LimitedStates). t.states) c.self.view_is ∙ c.requires.last.2)
    (omega (
      arith,
      count_is c.self.inside.records.items c.self.inside.transitions c.self.inside.matches c.self.inside.limit c.args.self.now c.self.view_is,
      c.self.inside.records.ok,
      ap (λ (ss : List State). length ss) c.requires.last.2,
      length_push c.requires.last.0 (new_state c.requires.last.1),
    )))

pub returns : goal.returns
returns c = record {
  removed = λ states depth are.
      same_table
      (ap (recorded_states c.self.inside.transitions.lists c.self.inside.matches.lists) c.truncate.ensures.items
      ∙ recorded_states-first c.self.inside.records.items c.self.inside.transitions.lists c.self.inside.matches.lists states depth (c.len-count.result - 1)
      (ap (λ (t : LimitedStates). t.states) c.self.view_is ∙ are)
      (omega (
        arith,
        count_is c.self.inside.records.items c.self.inside.transitions c.self.inside.matches c.self.inside.limit c.args.self.now c.self.view_is,
        c.self.inside.records.ok,
        ap (λ (ss : List State). length ss) are,
        length_push states (new_state depth),
      )))
      (ap (λ (t : LimitedStates). t.limit) c.self.view_is);
}
