-- The record has the depth.
use Rattle.std.proofs.Common.{ap, sym, ◌∙◌}
use Rattle.aho_table.specs.Table.{State}
use Rattle.aho_table.proofs.Records.{read_in, read_is}
use Rattle.aho_table.proofs.links.states.States.depth.Goals as goal

pub record_of-requires : goal.record_of-requires
record_of-requires c = record { added = read_in c.self.inside.records.items c.self.inside.transitions c.self.inside.matches c.self.inside.limit c.args.sid c.args.self.now c.self.view_is c.requires.added c.deref.result.now c.deref.ensures.value }

pub returns-clause-depth : goal.returns-clause-depth
returns-clause-depth c =
    c.as_usize.ensures.value
    ∙ sym (ap (λ (s : State). s.depth) (read_is c.self.inside.records.items c.self.inside.transitions c.self.inside.matches c.self.inside.limit c.args.sid c.args.self.now c.self.view_is c.requires.added c.deref.result.now c.deref.ensures.value c.record_of.result c.record_of.ensures.found))
