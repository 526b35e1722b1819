use Rattle.std.proofs.Common.{◌<◌}
use Rattle.aho_core.specs.Occurrence.{Occurrence}
use Rattle.aho_core.specs.Occurs.{OccursIn}
use Rattle.bench.proofs.plain.first_ending.Given as goal

abbrev pub invariant-loop-end : goal.invariant-loop-end
invariant-loop-end l = (m : Occurrence) → OccursIn l.patterns l.input m → m.end < l.end → ⊥
