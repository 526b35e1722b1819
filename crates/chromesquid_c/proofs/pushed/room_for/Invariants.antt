-- The greatest so far, and of those that are left.
use Rattle.std.proofs.Common.{◌≡◌, drop, length, map, max}
use Rattle.aho_core.specs.Laws.{longest}
use Rattle.aho_core.specs.Replacement.{pieces_of}
use Rattle.chromesquid_c.proofs.pushed.room_for.Given as goal

abbrev pub invariant-loop-index : goal.invariant-loop-index
invariant-loop-index l =
    max l.most (longest (map length (pieces_of (drop l.index l.pieces)))) ≡ max l.bytes (longest (map length (pieces_of l.pieces)))
