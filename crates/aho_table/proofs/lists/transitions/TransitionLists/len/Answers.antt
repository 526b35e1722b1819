-- There is a number for each entry.
use Rattle.std.proofs.Common.{arith}
use Rattle.aho_table.proofs.Stores.{length-lists_of}
use Rattle.aho_table.proofs.Firsts.{length-with_first}
use Rattle.aho_table.proofs.lists.transitions.TransitionLists.len.Goals as goal

pub returns-clause-len : goal.returns-clause-len
returns-clause-len c = rw (← c.self.view_is, length-lists_of) (omega (arith, length-with_first c.self.inside.entries.items, c.self.inside.entries.ok))
