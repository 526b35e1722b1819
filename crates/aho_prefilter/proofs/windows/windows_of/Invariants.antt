-- There is a window of each pattern before the place of the loop.
use Rattle.std.proofs.Common.{◌≡◌, take}
use Rattle.aho_core.specs.Replacement.{pieces_of}
use Rattle.aho_prefilter.specs.Windows.{windows_of}
use Rattle.aho_prefilter.proofs.windows.windows_of.Given as goal

abbrev pub invariant-loop-pattern : goal.invariant-loop-pattern
invariant-loop-pattern l = pieces_of l.windows.items ≡ windows_of l.ignore_case (pieces_of (take l.pattern-index l.patterns))
