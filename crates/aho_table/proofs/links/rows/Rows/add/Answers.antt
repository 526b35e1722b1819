-- The row stands behind the others.
use Rattle.aho_table.proofs.Rows.{IsRowAdded-behind}
use Rattle.aho_table.proofs.links.rows.Rows.add.Goals as goal

pub returns-clause-added : goal.returns-clause-added
returns-clause-added c =
    IsRowAdded-behind c.args.self.now.classes c.args.transitions c.args.self.now.entries.items c.row_of-row.result c.extend_from_slice.new.self.items c.alphabet_len-len.result
    c.alphabet_len-len.ensures.len c.alphabet_len-len.ensures.bound c.row_of-row.ensures.sized c.in_ok-extend_from_slice.ensures.items c.row_of-row.ensures.leads
