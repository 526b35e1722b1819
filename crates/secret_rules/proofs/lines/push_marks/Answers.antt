use Rattle.std.proofs.Common.{arith}
use Rattle.secret_rules.proofs.Owners.{member-get_or}
use Rattle.secret_rules.proofs.lines.push_marks.Goals as goal

pub push_mark-requires-clause-numbered : goal.push_mark-requires-clause-numbered
push_mark-requires-clause-numbered c =
    c.requires.numbered _ (member-get_or c.args.marks.now c.loop-mark.mark-index (record { rule = 0; start = 0; end = 0 }) (omega arith))

pub push_mark-requires-clause-ordered : goal.push_mark-requires-clause-ordered
push_mark-requires-clause-ordered c =
    c.requires.ordered _ (member-get_or c.args.marks.now c.loop-mark.mark-index (record { rule = 0; start = 0; end = 0 }) (omega arith))
