use Rattle.std.proofs.Common.{take}
use Rattle.aho_cover.specs.Counting.{CountsThese}
use Rattle.secret_rules.proofs.writing.count_runs.Given as goal

abbrev pub invariant-loop-run : goal.invariant-loop-run
invariant-loop-run l = CountsThese (take l.run-index l.runs) l.fn.counts l.counts
