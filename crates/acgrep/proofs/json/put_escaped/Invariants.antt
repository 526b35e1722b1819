-- The bytes that came so far were written.
use Rattle.acgrep.proofs.Common.{Appends}
use Rattle.std.proofs.Common.{take}
use Rattle.acgrep.specs.Objects.{json_escaped}
use Rattle.acgrep.proofs.json.put_escaped.Given as goal

abbrev pub invariant-loop-byte : goal.invariant-loop-byte
invariant-loop-byte g l = Appends (g.W.Write.contents l.initial.output) (g.W.Write.contents l.output) (json_escaped (take l.byte-index l.fn.bytes))
