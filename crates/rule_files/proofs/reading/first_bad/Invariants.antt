-- The rules that are left.
use Rattle.std.proofs.Common.{length}
use Rattle.rule_files.proofs.reading.first_bad.Given as goal

abbrev pub decreases-loop-rest : goal.decreases-loop-rest
decreases-loop-rest l = length l.rest
