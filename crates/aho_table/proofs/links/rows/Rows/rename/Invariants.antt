-- The entries so far are led.
use Rattle.aho_table.specs.Renaming.{IsWritten}
use Rattle.aho_table.specs.Renaming.{IsLed}
use Rattle.aho_table.proofs.links.rows.Rows.rename.Given as goal

abbrev pub invariant-loop-entry : goal.invariant-loop-entry
invariant-loop-entry g l = IsWritten (IsLed (goal.F-post g l.map)) 1 l.entry-index l.fn.self.entries.items l.entry-items
