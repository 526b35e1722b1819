-- What is left of the arguments gives what is left of the patterns and of the pieces.
use Rattle.std.proofs.Common.{◌≡◌, ◌%◌, ◌++◌, length, map, string_bytes}
use Rattle.aho_core.specs.Replacement.{pieces_of}
use Rattle.tool_parts.specs.Asked.{at_even, at_odd}
use Rattle.tool_parts.proofs.replace.split.Given as goal

abbrev pub invariant-loop-rest : goal.invariant-loop-rest
invariant-loop-rest l =
    (pieces_of l.patterns.items ++ at_even (map string_bytes l.rest) ≡ at_even (map string_bytes l.fn.arguments))
    × (pieces_of l.pieces.items ++ at_odd (map string_bytes l.rest) ≡ at_odd (map string_bytes l.fn.arguments))
    × (length l.rest % 2 ≡ 0)

abbrev pub decreases-loop-rest : goal.decreases-loop-rest
decreases-loop-rest l = length l.rest
