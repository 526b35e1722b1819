-- The record has the link.
use Rattle.std.proofs.Common.{ap, sym}
use Rattle.aho_table.specs.Table.{State}
use Rattle.aho_table.proofs.Records.{read_in, read_is}
use Rattle.aho_table.proofs.links.states.States.fail.Goals as goal

pub record_of-requires : goal.record_of-requires
record_of-requires c = record { added = read_in c.self.inside.records.items c.self.inside.transitions c.self.inside.matches c.self.inside.limit c.args.sid c.args.self.now c.self.view_is c.requires.added c.deref.result.now c.deref.ensures.value }

pub returns : goal.returns
returns c = record {
  fail = sym (ap (λ (s : State). s.fail) (read_is c.self.inside.records.items c.self.inside.transitions c.self.inside.matches c.self.inside.limit c.args.sid c.args.self.now c.self.view_is c.requires.added c.deref.result.now c.deref.ensures.value c.record_of.result c.record_of.ensures.found));
}
