-- The patterns before the place of the loop were looked at.
use Rattle.std.proofs.Common.{◌≡◌, take}
use Rattle.aho_core.specs.Replacement.{pieces_of}
use Rattle.aho_prefilter.specs.Windows.{most_before}
use Rattle.aho_prefilter.proofs.windows.most_before.Given as goal

abbrev pub invariant-loop-pattern : goal.invariant-loop-pattern
invariant-loop-pattern l = l.most ≡ most_before l.ignore_case (pieces_of (take l.pattern-index l.patterns))
