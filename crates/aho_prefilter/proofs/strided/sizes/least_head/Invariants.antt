-- The patterns before the place of the loop were looked at.
use Rattle.std.proofs.Common.{◌≡◌, take}
use Rattle.aho_core.specs.Replacement.{pieces_of}
use Rattle.aho_prefilter.specs.Sizes.{least_head}
use Rattle.aho_prefilter.proofs.strided.sizes.least_head.Given as goal

abbrev pub invariant-loop-pattern : goal.invariant-loop-pattern
invariant-loop-pattern l = l.head ≡ least_head (pieces_of (take l.pattern-index l.patterns))
