-- The bytes that are left.
use Rattle.std.proofs.Common.{◌-◌, length}
use Rattle.rule_files.proofs.reading.line_at.Given as goal

abbrev pub decreases-loop-at : goal.decreases-loop-at
decreases-loop-at l = length l.fn.text - l.at
