-- The entries so far are led.
use Rattle.aho_table.specs.ListsInside.{IsEntryLed}
use Rattle.aho_table.specs.Renaming.{IsWritten}
use Rattle.aho_table.proofs.lists.transitions.rename_entries.Given as goal

abbrev pub invariant-loop-transition : goal.invariant-loop-transition
invariant-loop-transition g l = IsWritten (IsEntryLed (goal.F-post g l.map)) (record { byte = 0; next = 0; link = 0 }) l.transition-index l.fn.entries.items l.transition-items
