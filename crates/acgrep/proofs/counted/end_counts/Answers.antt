-- The whole is a beginning, and is kept.
use Rattle.std.proofs.KnownBytes.{Appends-kept}
use Rattle.tool_parts.proofs.Beginnings.{beginning-kept, beginning-whole}
use Rattle.acgrep.proofs.counted.end_counts.Goals as goal

pub returns-in-Ok-clause-written : goal.returns-in-Ok-clause-written
returns-in-Ok-clause-written g c = λ low. Appends-kept _ _ _ _ c.in-Ok.ensures.written c.finish.ensures.kept

pub returns-in-Ok-clause-begun : goal.returns-in-Ok-clause-begun
returns-in-Ok-clause-begun g c = beginning-kept _ _ _ _ (beginning-whole _ _ _ c.in-Ok.ensures.written) c.finish.ensures.kept
