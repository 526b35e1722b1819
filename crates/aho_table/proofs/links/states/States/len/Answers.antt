-- There is a record for each state.
use Rattle.std.proofs.Common.{arith}
use Rattle.aho_table.proofs.Records.{count_is}
use Rattle.aho_table.proofs.links.states.States.len.Goals as goal

pub returns-clause-len : goal.returns-clause-len
returns-clause-len c = omega (arith, count_is c.self.inside.records.items c.self.inside.transitions c.self.inside.matches c.self.inside.limit c.args.self.now c.self.view_is, c.self.inside.records.ok)
