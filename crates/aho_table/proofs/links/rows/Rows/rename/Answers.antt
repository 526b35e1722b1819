-- Every entry is led.
use Rattle.std.proofs.Common.{◌≤◌, ℕ, List, length, sym, subst, arith}
use Rattle.std.specs.List.{AllZip}
use Rattle.std.proofs.lemmas.List.{with_items_is}
use Rattle.aho_table.specs.Renaming.{IsLed}
use Rattle.aho_table.proofs.Renamed.{AllZip-written}
use Rattle.aho_table.proofs.links.rows.Rows.rename.Goals as goal

pub returns-clause-renamed : goal.returns-clause-renamed
returns-clause-renamed g c =
    let old = c.args.self.now.entries in
    let sized = c.loop-entry.invariant.sized in
    let items = with_items_is old c.loop-entry.entry-items (omega (arith, sized, old.ok.0)) in
    let past : length old.items ≤ c.loop-entry.entry-index = omega arith in
    subst (λ (entries : List ℕ). AllZip (IsLed (goal.F-post g c.args.map.now)) old.items entries) (sym items) (AllZip-written (IsLed (goal.F-post g c.args.map.now)) 1 c.loop-entry.entry-index old.items c.loop-entry.entry-items c.loop-entry.invariant past)
