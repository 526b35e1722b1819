-- Those of the patterns before the place of the loop were counted.
use Rattle.std.proofs.Common.{◌≡◌, ◌≤◌, take}
use Rattle.aho_core.specs.Replacement.{pieces_of}
use Rattle.aho_prefilter.specs.PackedHeads.{count_before}
use Rattle.aho_prefilter.proofs.packed_heads.count_before.Given as goal

abbrev pub invariant-loop-other : goal.invariant-loop-other
invariant-loop-other l = (l.count ≡ count_before l.fn.ignore_case (pieces_of (take l.other-index l.patterns)) l.pattern) × (l.count ≤ l.other-index)
