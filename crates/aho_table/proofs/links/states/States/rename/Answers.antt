-- The lists are led in their store, and the links in the records.
use Rattle.std.proofs.Common.{List, ap, subst}
use Rattle.std.specs.List.{AllZip}
use Rattle.aho_table.specs.Table.{State}
use Rattle.aho_table.specs.Renaming.{IsRenamed}
use Rattle.aho_table.specs.Inside.{LimitedStates, recorded_states}
use Rattle.aho_table.proofs.RenumberedRecords.{recorded_states-renamed, IsConsistent-renamed}
use Rattle.aho_table.proofs.links.states.States.rename.Goals as goal

pub invariant_of-self : goal.invariant_of-self
invariant_of-self g c =
    IsConsistent-renamed (goal.F-post g c.args.map.now) c.self.inside.transitions c.rename.new.self c.self.inside.matches c.rename.ensures.renamed c.self.inside.records.items c.rename_links.new.records.items
    c.self.inside.limit c.rename_links.ensures.renamed c.rename.ensures.count c.rename.ensures.limit c.self.invariant

pub returns-clause-renamed : goal.returns-clause-renamed
returns-clause-renamed g c =
    subst (λ (ss : List State). AllZip (IsRenamed (goal.F-post g c.args.map.now)) ss (recorded_states c.rename.new.self.lists c.self.inside.matches.lists c.rename_links.new.records.items)) (ap (λ (t : LimitedStates). t.states) c.self.view_is)
    (recorded_states-renamed (goal.F-post g c.args.map.now) c.self.inside.transitions c.rename.new.self c.self.inside.matches c.rename.ensures.renamed c.self.inside.records.items c.rename_links.new.records.items
    c.rename_links.ensures.renamed)
