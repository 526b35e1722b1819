use Rattle.std.proofs.Common.{arith}
use Rattle.secret_rules.proofs.writing.write_run.Goals as goal

pub slice_bounds-before-end : goal.slice_bounds-before-end
slice_bounds-before-end g c = omega arith
