-- The patterns before the place of the loop were added.
use Rattle.std.proofs.Common.{take}
use Rattle.aho_build.specs.Items.{patterns_of}
use Rattle.aho_prefilter.specs.Taken.{HasTakenPacked}
use Rattle.bench.specs.Callers.{both_cases}
use Rattle.bench.proofs.callers.packed_prefilter_of.Given as goal

abbrev pub invariant-loop-pattern : goal.invariant-loop-pattern
invariant-loop-pattern l = HasTakenPacked l.builder (patterns_of both_cases (take l.pattern-index l.patterns))
