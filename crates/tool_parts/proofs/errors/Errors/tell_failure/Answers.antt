-- The cause follows, and a line end.
use Rattle.tool_parts.proofs.Tellings.{tells-later}
use Rattle.tool_parts.proofs.errors.Errors.tell_failure.Goals as goal

pub returns-in-Err : goal.returns-in-Err
returns-in-Err g c = record { told = tells-later g.E.Sink c.begin.ensures.told c.write_failure.ensures.told }
