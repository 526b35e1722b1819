use Rattle.std.proofs.Common.{◌<◌}
use Rattle.aho_core.specs.Best.{IsBestOrNone}
use Rattle.bench.specs.Range.{OccursEndingAt}
use Rattle.bench.proofs.plain.best_ending.Given as goal

abbrev pub invariant-loop-start : goal.invariant-loop-start
invariant-loop-start l = IsBestOrNone l.patterns.kind (λ m. OccursEndingAt l.patterns l.input l.end m × (m.start < l.start)) l.best
