-- Each list is led, and every entry stands where it stood.
use Rattle.std.proofs.Common.{length, sym, ◌∙◌}
use Rattle.aho_table.specs.ListsInside.{transition_entries, with_first}
use Rattle.aho_table.proofs.Stores.{length-lists_of}
use Rattle.aho_table.proofs.Renamed.{count-led, IsStore-led, AreSideBySide-led, lists-led, with_first-led}
use Rattle.aho_table.proofs.lists.transitions.TransitionLists.rename.Goals as goal

pub invariant_of-self : goal.invariant_of-self
invariant_of-self g c =
    let old = with_first c.self.inside.entries.items in
    let new = with_first c.rename_entries.new.entries.items in
    let all = with_first-led (goal.F-post g c.args.map.now) c.self.inside.entries.items c.rename_entries.new.entries.items c.rename_entries.ensures.renamed in (
      IsStore-led (goal.F-post g c.args.map.now) old new all c.self.inside.limit c.self.invariant.0,
      AreSideBySide-led (goal.F-post g c.args.map.now) old new all c.self.inside.beside c.self.invariant.0.rings c.self.invariant.1,
    )

pub returns-clause-count : goal.returns-clause-count
returns-clause-count g c =
    let old = with_first c.self.inside.entries.items in
    let new = with_first c.rename_entries.new.entries.items in
    let all = with_first-led (goal.F-post g c.args.map.now) c.self.inside.entries.items c.rename_entries.new.entries.items c.rename_entries.ensures.renamed in
    rw (← c.self.view_is) (length-lists_of (transition_entries new) (length new) ∙ count-led (goal.F-post g c.args.map.now) old new all ∙ sym (length-lists_of (transition_entries old) (length old)))

pub returns-clause-renamed : goal.returns-clause-renamed
returns-clause-renamed g c =
    let old = with_first c.self.inside.entries.items in
    let new = with_first c.rename_entries.new.entries.items in
    let all = with_first-led (goal.F-post g c.args.map.now) c.self.inside.entries.items c.rename_entries.new.entries.items c.rename_entries.ensures.renamed in
    rw (← c.self.view_is) (lists-led (goal.F-post g c.args.map.now) old new all c.self.inside.limit c.self.invariant.0)
