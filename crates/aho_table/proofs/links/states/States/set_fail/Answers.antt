-- The record has another link.
use Rattle.std.proofs.Common.{List, refl, sym, ap, subst, ◌∙◌}
use Rattle.std.proofs.Math.ListN.{set}
use Rattle.aho_table.specs.Table.{state_at}
use Rattle.aho_table.specs.Inside.{LimitedStates, recorded_states, IsConsistent}
use Rattle.aho_table.specs.declared.links.states.Record.{Record}
use Rattle.aho_table.proofs.Records.{read_in, read_here, same_table}
use Rattle.aho_table.proofs.Changes.{states-linked, IsConsistent-linked}
use Rattle.aho_table.proofs.links.states.States.set_fail.Goals as goal

pub record_of-state-requires : goal.record_of-state-requires
record_of-state-requires c = record { added = read_in c.self.inside.records.items c.self.inside.transitions c.self.inside.matches c.self.inside.limit c.args.sid c.args.self.now c.self.view_is c.requires.added c.deref.result.now c.deref.ensures.value }

pub replace-requires : goal.replace-requires
replace-requires c = record { added = read_in c.self.inside.records.items c.self.inside.transitions c.self.inside.matches c.self.inside.limit c.args.sid c.args.self.now c.self.view_is c.requires.added c.self.inside.records.items refl }

pub invariant_of-self : goal.invariant_of-self
invariant_of-self c =
    subst (λ (rs : List Record). IsConsistent rs c.self.inside.transitions c.self.inside.matches c.self.inside.limit) (sym c.replace.ensures.replaced)
    (IsConsistent-linked c.self.inside.records.items c.args.sid c.record_of-state.result
    (read_in c.self.inside.records.items c.self.inside.transitions c.self.inside.matches c.self.inside.limit c.args.sid c.args.self.now c.self.view_is c.requires.added c.self.inside.records.items refl)
    (read_here c.self.inside.records.items c.self.inside.transitions c.self.inside.matches c.self.inside.limit c.args.sid c.args.self.now c.self.view_is c.requires.added c.deref.result.now c.deref.ensures.value c.record_of-state.result c.record_of-state.ensures.found)
    c.self.inside.transitions c.self.inside.matches c.self.inside.limit c.args.fail c.self.invariant)

pub returns : goal.returns
returns c = record {
  set = same_table
      (ap (recorded_states c.self.inside.transitions.lists c.self.inside.matches.lists) c.replace.ensures.replaced
      ∙ states-linked c.self.inside.records.items c.args.sid c.record_of-state.result
      (read_in c.self.inside.records.items c.self.inside.transitions c.self.inside.matches c.self.inside.limit c.args.sid c.args.self.now c.self.view_is c.requires.added c.self.inside.records.items refl)
      (read_here c.self.inside.records.items c.self.inside.transitions c.self.inside.matches c.self.inside.limit c.args.sid c.args.self.now c.self.view_is c.requires.added c.deref.result.now c.deref.ensures.value c.record_of-state.result c.record_of-state.ensures.found)
      c.self.inside.transitions.lists c.self.inside.matches.lists c.args.fail
      ∙ ap (λ (t : LimitedStates). set t.states c.args.sid (record (state_at t.states c.args.sid) { fail = c.args.fail })) c.self.view_is)
      (ap (λ (t : LimitedStates). t.limit) c.self.view_is);
}
