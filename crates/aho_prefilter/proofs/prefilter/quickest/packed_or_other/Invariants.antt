-- The patterns before the place of the loop were added.
use Rattle.std.proofs.Common.{take}
use Rattle.aho_core.specs.Replacement.{pieces_of}
use Rattle.aho_core.specs.declared.search.MatchKind.TheVariants.{Standard}
use Rattle.aho_prefilter.specs.Prefilter.{patterns_from}
use Rattle.aho_prefilter.specs.Taken.{HasTakenPacked}
use Rattle.aho_prefilter.proofs.prefilter.quickest.packed_or_other.Given as goal

abbrev pub invariant-loop-pattern : goal.invariant-loop-pattern
invariant-loop-pattern l = HasTakenPacked l.builder (patterns_from Standard l.ignore_case (pieces_of (take l.pattern-index l.patterns)))
