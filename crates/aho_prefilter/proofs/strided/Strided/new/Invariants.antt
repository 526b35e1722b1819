-- The patterns before the place of the loop were added.
use Rattle.std.proofs.Common.{◌≡◌, length, take}
use Rattle.std.specs.List.{fold}
use Rattle.aho_core.specs.Replacement.{pieces_of}
use Rattle.aho_prefilter.specs.Strided.{marks_with, no_marks}
use Rattle.aho_prefilter.proofs.strided.Strided.new.Given as goal

abbrev pub invariant-loop-pattern : goal.invariant-loop-pattern
invariant-loop-pattern l = l.made ≡ fold marks_with (no_marks l.fn.sizes (length l.patterns)) (pieces_of (take l.pattern-index l.patterns))
