-- No value before what is left is this text.
use Rattle.acredact.proofs.Common.{bytes_of_names, drop, ◌≡◌}
use Rattle.acredact.specs.Values.{is_some_value}
use Rattle.acredact.proofs.values.is_some_value.Given as goal

abbrev pub invariant-loop-entry : goal.invariant-loop-entry
invariant-loop-entry l =
    is_some_value (bytes_of_names l.fn.entries) l.fn.text ≡ is_some_value (bytes_of_names (drop l.entry-index l.fn.entries)) l.fn.text
