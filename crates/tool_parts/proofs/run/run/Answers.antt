-- The status is that of the answer.
use Rattle.std.proofs.Common.{inr}
use Rattle.tool_parts.proofs.Matches.{begins-told}
use Rattle.tool_parts.proofs.run.run.Goals as goal

pub returns-in-Ok-true-clause-prints : goal.returns-in-Ok-true-clause-prints
returns-in-Ok-true-clause-prints g c asked is less = rw c.in-Ok-true.field-0-test at (c.in-Ok-true.ensures.prints asked is)

pub returns-in-Ok-false-clause-prints : goal.returns-in-Ok-false-clause-prints
returns-in-Ok-false-clause-prints g c asked is less = rw c.in-Ok-false.field-0-test at (c.in-Ok-false.ensures.prints asked is)

pub returns-in-Ok-true-clause-begins : goal.returns-in-Ok-true-clause-begins
returns-in-Ok-true-clause-begins g c asked is = inr (begins-told (c.in-Ok-true.ensures.prints asked is))

pub returns-in-Ok-false-clause-begins : goal.returns-in-Ok-false-clause-begins
returns-in-Ok-false-clause-begins g c asked is = inr (begins-told (c.in-Ok-false.ensures.prints asked is))
