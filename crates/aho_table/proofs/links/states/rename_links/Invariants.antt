-- The links so far are led.
use Rattle.aho_table.specs.Renaming.{IsWritten}
use Rattle.aho_table.specs.Inside.{IsLinkLed}
use Rattle.aho_table.proofs.links.states.rename_links.Given as goal

abbrev pub invariant-loop-state : goal.invariant-loop-state
invariant-loop-state g l = IsWritten (IsLinkLed (goal.F-post g l.map)) (record { transitions = 0; matches = 0; fail = 1; depth = 0 }) l.state-index l.fn.records.items l.state-items
