-- The bytes so far are put.
use Rattle.acredact.proofs.Common.{as_shown, drop, ◌++◌, ◌≡◌}
use Rattle.acredact.proofs.shown.put_shown.Given as goal

abbrev pub invariant-loop-byte : goal.invariant-loop-byte
invariant-loop-byte l = l.text.items ++ as_shown (drop l.byte-index l.name) ≡ l.initial.text.items ++ as_shown l.name
