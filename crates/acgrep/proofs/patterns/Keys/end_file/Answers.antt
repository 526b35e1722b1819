-- A newline ends what follows the last one.
use Rattle.std.proofs.Common.{◌∙◌, ap, arith}
use Rattle.acgrep.specs.Lines.{lines}
use Rattle.acgrep.proofs.WordLists.{lines_ended}
use Rattle.acgrep.proofs.patterns.Keys.end_file.Goals as goal

pub returns-in_ok-push-clause-lines : goal.returns-in_ok-push-clause-lines
returns-in_ok-push-clause-lines c =
    let none = rw c.as_slice.ensures.value at c.line_start.ensures.none in
    ap (lines 10) c.in_ok-push.ensures.items ∙ lines_ended c.args.self.now.text.items c.line_start.result (omega (arith, c.if-line_start-len.true, c.len.ensures)) none
