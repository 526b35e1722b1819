-- The bytes so far and what is left are the text.
use Rattle.acredact.proofs.Common.{length, ◌++◌, ◌≡◌}
use Rattle.acredact.specs.Tables.{in_table}
use Rattle.acredact.proofs.patterns.unescaped.Given as goal

abbrev pub invariant-loop-rest : goal.invariant-loop-rest
invariant-loop-rest l = in_table l.bytes.items ++ l.rest ≡ l.fn.text

abbrev pub decreases-loop-rest : goal.decreases-loop-rest
decreases-loop-rest l = length l.rest
