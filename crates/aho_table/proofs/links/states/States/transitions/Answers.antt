-- A walk along the state's list.
use Rattle.std.proofs.Common.{ap, sym, ◌∙◌}
use Rattle.aho_table.specs.Table.{State}
use Rattle.aho_table.proofs.Records.{read_in, read_is, transitions_known}
use Rattle.aho_table.proofs.links.states.States.transitions.Goals as goal

pub record_of-requires : goal.record_of-requires
record_of-requires c = record { added = read_in c.self.inside.records.items c.self.inside.transitions c.self.inside.matches c.self.inside.limit c.args.sid c.args.self.now c.self.view_is c.requires.added c.deref.result.now c.deref.ensures.value }

pub iter-requires : goal.iter-requires
iter-requires c = record {
  known = transitions_known c.self.inside.records.items c.self.inside.transitions c.self.inside.matches c.self.inside.limit c.args.sid c.args.self.now c.self.view_is c.requires.added c.deref.result.now c.deref.ensures.value c.record_of.result c.record_of.ensures.found c.self.invariant.transition_lists;
}

pub returns-clause-listed : goal.returns-clause-listed
returns-clause-listed c =
    c.iter.ensures.listed
    ∙ sym (ap (λ (s : State). s.transitions) (read_is c.self.inside.records.items c.self.inside.transitions c.self.inside.matches c.self.inside.limit c.args.sid c.args.self.now c.self.view_is c.requires.added c.deref.result.now c.deref.ensures.value c.record_of.result c.record_of.ensures.found))
