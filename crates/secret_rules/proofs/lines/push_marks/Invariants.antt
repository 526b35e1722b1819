use Rattle.std.proofs.Common.{◌≡◌, ◌++◌, map, take}
use Rattle.secret_rules.specs.Covering.{marked}
use Rattle.secret_rules.proofs.lines.push_marks.Given as goal

abbrev pub invariant-loop-mark : goal.invariant-loop-mark
invariant-loop-mark l = l.found.items ≡ l.fn.found.items ++ map (marked l.patterns) (take l.mark-index l.marks)
