-- The names so far, and those of what is left.
use Rattle.acredact.proofs.Common.{all_given, drop, name_bytes, ◌++◌, ◌≡◌}
use Rattle.acredact.specs.Calls.{names_given}
use Rattle.acredact.proofs.prepare.names.Given as goal

abbrev pub invariant-loop-item : goal.invariant-loop-item
invariant-loop-item l = name_bytes l.files.items ++ names_given (all_given (drop l.item-index l.fn.given)) ≡ names_given (all_given l.fn.given)
