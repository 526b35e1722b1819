-- The keywords that are left.
use Rattle.std.proofs.Common.{length}
use Rattle.rule_files.proofs.reading.has_line_end.Given as goal

abbrev pub decreases-loop-rest : goal.decreases-loop-rest
decreases-loop-rest l = length l.rest
