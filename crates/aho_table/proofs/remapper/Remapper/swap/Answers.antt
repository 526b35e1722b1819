use Rattle.std.proofs.Common.{rules}
use Rattle.aho_table.proofs.Renumbered.{AreInverse-swapped, places-swapped}
use Rattle.aho_table.proofs.remapper.Remapper.swap.Goals as goal

pub invariant_of-self : goal.invariant_of-self
invariant_of-self g c = search (rules, AreInverse-swapped c.self.inside.places.items c.self.inside.origins.items c.args.a c.args.b c.self.invariant)

pub returns-clause-moved : goal.returns-clause-moved
returns-clause-moved g c = search (rules, places-swapped c.self.inside.places.items c.self.inside.origins.items c.args.a c.args.b c.self.invariant)
