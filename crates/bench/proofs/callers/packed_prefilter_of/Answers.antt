use Rattle.std.proofs.Common.{[], refl}
use Rattle.aho_build.specs.Items.{patterns_of}
use Rattle.bench.specs.Callers.{both_cases}
use Rattle.bench.proofs.callers.packed_prefilter_of.Goals as goal

pub loop-pattern-init : goal.loop-pattern-init
loop-pattern-init c = c.new-builder.ensures.empty (patterns_of both_cases []) refl refl
