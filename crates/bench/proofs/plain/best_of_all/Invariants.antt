use Rattle.std.proofs.Common.{◌<◌}
use Rattle.aho_core.specs.Best.{IsBestOrNone}
use Rattle.aho_core.specs.Occurs.{OccursIn}
use Rattle.bench.proofs.plain.best_of_all.Given as goal

abbrev pub invariant-loop-end : goal.invariant-loop-end
invariant-loop-end l = IsBestOrNone l.patterns.kind (λ m. OccursIn l.patterns l.input m × (m.end < l.end)) l.best
