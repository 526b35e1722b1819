-- The first parts are written.
use Rattle.std.proofs.Common.{length}
use Rattle.aho_core.specs.Replacement.{pieces_of}
use Rattle.tool_parts.proofs.Tellings.{WritesFirst}
use Rattle.tool_parts.proofs.parts.write_each.Given as goal

abbrev pub invariant-loop-rest : goal.invariant-loop-rest
invariant-loop-rest g l = WritesFirst g.S.Sink l.initial.sink l.sink (pieces_of l.fn.parts) (pieces_of l.rest)

abbrev pub decreases-loop-rest : goal.decreases-loop-rest
decreases-loop-rest g l = length l.rest
