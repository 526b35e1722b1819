-- The bytes so far are put.
use Rattle.acredact.proofs.Common.{drop, ◌++◌, ◌≡◌}
use Rattle.acredact.specs.Summaries.{bytes_in_json}
use Rattle.acredact.proofs.summary.put_bytes.Given as goal

abbrev pub invariant-loop-byte : goal.invariant-loop-byte
invariant-loop-byte l = l.text.items ++ bytes_in_json (drop l.byte-index l.bytes) ≡ l.initial.text.items ++ bytes_in_json l.bytes
