-- The first brace that closes a field is found.
use Rattle.acgrep.proofs.Formatted.{up_to_first, up_to_none}
use Rattle.acgrep.proofs.format.field_in.Goals as goal

pub returns-in-Some : goal.returns-in-Some
returns-in-Some c = record { field = up_to_first c.in-Some.end c.args.rest.now c.in-Some.ensures.0.high c.in-Some.ensures.0.before c.in-Some.ensures.1 }

pub returns-in-None : goal.returns-in-None
returns-in-None c = record { field = up_to_none c.args.rest.now c.in-None.ensures }
