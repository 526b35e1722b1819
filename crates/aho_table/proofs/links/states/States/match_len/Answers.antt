-- The store counts the state's list.
use Rattle.std.proofs.Common.{◌∙◌, ap, sym, length}
use Rattle.aho_table.specs.Table.{State}
use Rattle.aho_table.proofs.Records.{read_in, read_is, matches_known}
use Rattle.aho_table.proofs.links.states.States.match_len.Goals as goal

pub record_of-list-requires : goal.record_of-list-requires
record_of-list-requires c = record { added = read_in c.self.inside.records.items c.self.inside.transitions c.self.inside.matches c.self.inside.limit c.args.sid c.args.self.now c.self.view_is c.requires.added c.deref.result.now c.deref.ensures.value }

pub len_of-requires : goal.len_of-requires
len_of-requires c = record {
  known = matches_known c.self.inside.records.items c.self.inside.transitions c.self.inside.matches c.self.inside.limit c.args.sid c.args.self.now c.self.view_is c.requires.added
      c.deref.result.now c.deref.ensures.value c.record_of-list.result c.record_of-list.ensures.found c.self.invariant.match_lists;
}

pub returns : goal.returns
returns c = record {
  len = c.len_of.ensures.len
      ∙ ap (λ (s : State). length s.matches) (sym (read_is c.self.inside.records.items c.self.inside.transitions c.self.inside.matches c.self.inside.limit c.args.sid c.args.self.now c.self.view_is c.requires.added
      c.deref.result.now c.deref.ensures.value c.record_of-list.result c.record_of-list.ensures.found));
}
