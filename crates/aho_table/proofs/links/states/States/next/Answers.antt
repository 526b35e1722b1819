-- The store follows the state's list.
use Rattle.std.proofs.Common.{ap, sym, ◌∙◌}
use Rattle.aho_table.specs.TransitionList.{transition_at}
use Rattle.aho_table.specs.Table.{State}
use Rattle.aho_table.proofs.Records.{read_in, read_is, transitions_known}
use Rattle.aho_table.proofs.links.states.States.next.Goals as goal

pub record_of-list-requires : goal.record_of-list-requires
record_of-list-requires c = record { added = read_in c.self.inside.records.items c.self.inside.transitions c.self.inside.matches c.self.inside.limit c.args.sid c.args.self.now c.self.view_is c.requires.added c.deref.result.now c.deref.ensures.value }

pub follow-requires : goal.follow-requires
follow-requires c = record {
  known = transitions_known c.self.inside.records.items c.self.inside.transitions c.self.inside.matches c.self.inside.limit c.args.sid c.args.self.now c.self.view_is c.requires.added
      c.deref.result.now c.deref.ensures.value c.record_of-list.result c.record_of-list.ensures.found c.self.invariant.transition_lists;
}

pub returns : goal.returns
returns c = record {
  next = c.follow.ensures.next
      ∙ ap (λ (s : State). transition_at s.transitions c.args.byte) (sym (read_is c.self.inside.records.items c.self.inside.transitions c.self.inside.matches c.self.inside.limit c.args.sid c.args.self.now c.self.view_is c.requires.added
      c.deref.result.now c.deref.ensures.value c.record_of-list.result c.record_of-list.ensures.found));
}
