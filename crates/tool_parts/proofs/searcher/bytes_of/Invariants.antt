-- The bytes of the arguments before the place of the loop are held.
use Rattle.std.proofs.Common.{◌≡◌, map, string_bytes, take}
use Rattle.aho_core.specs.Replacement.{pieces_of}
use Rattle.tool_parts.proofs.searcher.bytes_of.Given as goal

abbrev pub invariant-loop-argument : goal.invariant-loop-argument
invariant-loop-argument l = pieces_of l.patterns.items ≡ map string_bytes (take l.argument-index l.arguments)
