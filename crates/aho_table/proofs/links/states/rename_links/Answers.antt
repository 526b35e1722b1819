-- Every link is led.
use Rattle.std.proofs.Common.{◌≤◌, List, length, sym, subst, arith}
use Rattle.std.specs.List.{AllZip}
use Rattle.std.proofs.lemmas.List.{with_items_is}
use Rattle.aho_table.proofs.Renamed.{AllZip-written}
use Rattle.aho_table.specs.Inside.{IsLinkLed}
use Rattle.aho_table.specs.declared.links.states.Record.{Record}
use Rattle.aho_table.proofs.links.states.rename_links.Goals as goal

pub returns : goal.returns
returns g c =
    let old = c.args.records.now in
    let sized = c.loop-state.invariant.sized in
    let items = with_items_is old c.loop-state.state-items (omega (arith, sized, old.ok.0)) in
    let past : length old.items ≤ c.loop-state.state-index = omega arith in
    record {
      renamed = subst (λ (rs : List Record). AllZip (IsLinkLed (goal.F-post g c.args.map.now)) old.items rs) (sym items)
          (AllZip-written (IsLinkLed (goal.F-post g c.args.map.now)) (record { transitions = 0; matches = 0; fail = 1; depth = 0 }) c.loop-state.state-index old.items c.loop-state.state-items c.loop-state.invariant past);
    }
