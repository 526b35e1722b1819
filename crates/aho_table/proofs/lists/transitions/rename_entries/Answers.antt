-- Every entry is led.
use Rattle.std.proofs.Common.{◌≤◌, List, length, sym, subst, arith}
use Rattle.std.specs.List.{AllZip}
use Rattle.std.proofs.lemmas.List.{with_items_is}
use Rattle.aho_table.specs.ListsInside.{IsEntryLed}
use Rattle.aho_table.specs.declared.lists.transitions.Transition.{Transition}
use Rattle.aho_table.proofs.Renamed.{AllZip-written}
use Rattle.aho_table.proofs.lists.transitions.rename_entries.Goals as goal

pub returns : goal.returns
returns g c =
    let old = c.args.entries.now in
    let sized = c.loop-transition.invariant.sized in
    let items = with_items_is old c.loop-transition.transition-items (omega (arith, sized, old.ok.0)) in
    let past : length old.items ≤ c.loop-transition.transition-index = omega arith in
    record {
      renamed = subst (λ (es : List Transition). AllZip (IsEntryLed (goal.F-post g c.args.map.now)) old.items es) (sym items)
          (AllZip-written (IsEntryLed (goal.F-post g c.args.map.now)) (record { byte = 0; next = 0; link = 0 }) c.loop-transition.transition-index old.items c.loop-transition.transition-items c.loop-transition.invariant past);
    }
