-- The store counts its entries.
use Rattle.std.proofs.Common.{ap, arith}
use Rattle.aho_table.specs.Inside.{LimitedStates}
use Rattle.aho_table.proofs.links.states.States.matches_count.Goals as goal

pub returns-clause-within : goal.returns-clause-within
returns-clause-within c = omega (arith, c.facts.ensures.within, c.self.invariant.matches_limit, ap (λ (t : LimitedStates). t.limit) c.self.view_is)
