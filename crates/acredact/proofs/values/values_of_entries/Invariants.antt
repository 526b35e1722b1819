-- What is left gives the other values.
use Rattle.acredact.proofs.Common.{bytes_of_names, drop, pieces_of, ◌++◌, ◌≡◌}
use Rattle.acredact.specs.Values.{values_in_entries}
use Rattle.acredact.proofs.values.values_of_entries.Given as goal

abbrev pub invariant-loop-entry : goal.invariant-loop-entry
invariant-loop-entry l =
    pieces_of l.values.items ++ values_in_entries l.fn.name (bytes_of_names (drop l.entry-index l.fn.entries)) ≡ values_in_entries l.fn.name (bytes_of_names l.fn.entries)
