-- Every state is renamed, and every row leads as its list does.
use Rattle.std.proofs.Common.{◌≡◌, ◌+◌, ℕ, Bool, List, length, sym, ap, subst, arith}
use Rattle.std.specs.List.{AllZip}
use Rattle.std.proofs.lemmas.List.Elements.{length_all_zip}
use Rattle.aho_table.specs.Table.{State, Tables}
use Rattle.aho_table.specs.Inside.{HasRows}
use Rattle.aho_table.specs.Renaming.{IsLed, IsRenamed}
use Rattle.aho_table.proofs.RenamedStates.{HasRows-renamed}
use Rattle.aho_table.proofs.links.renumber.TableRemappable.remap.Goals as goal

pub invariant_of-self : goal.invariant_of-self
invariant_of-self g c =
    let inside = c.self.inside in
    subst (λ (n : ℕ). HasRows c.rename.new.self.states inside.starts.items c.rename-2.new.self.classes c.rename-2.new.self.entries.items n) (sym c.rename.ensures.limit)
    (subst (λ (classes : List Bool). HasRows c.rename.new.self.states inside.starts.items classes c.rename-2.new.self.entries.items inside.states.limit) (sym c.rename-2.ensures.classes)
    (HasRows-renamed (goal.F-post g c.args.map) c.requires.one inside.states.states c.rename.new.self.states inside.states.limit inside.starts.items inside.rows.classes inside.rows.entries.items
    c.rename-2.new.self.entries.items c.rename.ensures.renamed c.rename-2.ensures.renamed c.self.invariant))

pub returns-clause-renamed : goal.returns-clause-renamed
returns-clause-renamed g c =
    subst (λ (ss : List State). AllZip (IsRenamed (goal.F-post g c.args.map)) ss c.rename.new.self.states) (ap (λ (t : Tables). t.states) c.self.view_is) c.rename.ensures.renamed

pub returns-clause-kept : goal.returns-clause-kept
returns-clause-kept g c =
    let same = length_all_zip (IsLed (goal.F-post g c.args.map)) c.self.inside.rows.entries.items c.rename-2.new.self.entries.items c.rename-2.ensures.renamed in
    let limit = ap (λ (t : Tables). t.limit) c.self.view_is in
    let classes = ap (λ (t : Tables). t.classes) c.self.view_is in
    let len = ap (λ (t : Tables). t.dense_len) c.self.view_is in
    let longer : length c.rename-2.new.self.entries.items + 1 ≡ c.args.self.now.dense_len = omega arith in
    let kept = c.rename-2.ensures.classes in
    let still = c.rename.ensures.limit in
    cc
