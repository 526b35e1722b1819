-- A flush keeps what was written.
use Rattle.std.proofs.KnownBytes.{Appends-kept}
use Rattle.tool_parts.proofs.Beginnings.{beginning-kept}
use Rattle.tool_parts.proofs.print.print.Goals as goal

pub returns-in_err-flush-clause-begun : goal.returns-in_err-flush-clause-begun
returns-in_err-flush-clause-begun g c =
    let ran = c.print_lines.ensures.begun in
    (ran.0, ran.1, beginning-kept _ _ _ _ ran.2 c.flush.ensures.kept)

pub returns-clause-printed : goal.returns-clause-printed
returns-clause-printed g c =
    let ran = c.in_ok-any.ensures.printed in
    (ran.0, ran.1, ran.2, (Appends-kept _ _ _ _ ran.3.0 c.flush.ensures.kept, ran.3.1))

pub returns-clause-begun : goal.returns-clause-begun
returns-clause-begun g c =
    let ran = c.print_lines.ensures.begun in
    (ran.0, ran.1, beginning-kept _ _ _ _ ran.2 c.flush.ensures.kept)
