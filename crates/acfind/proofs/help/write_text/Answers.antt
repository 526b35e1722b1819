-- The whole is a beginning, and is kept.
use Rattle.std.proofs.KnownBytes.{Appends-kept}
use Rattle.tool_parts.proofs.Beginnings.{beginning-kept, beginning-whole}
use Rattle.acfind.proofs.help.write_text.Goals as goal

pub returns-in-Ok-clause-written : goal.returns-in-Ok-clause-written
returns-in-Ok-clause-written g c = λ none. Appends-kept _ _ _ _ c.in-Ok.ensures.whole c.finish.ensures.kept

pub returns-in-Ok-clause-begun : goal.returns-in-Ok-clause-begun
returns-in-Ok-clause-begun g c = beginning-kept _ _ _ _ (beginning-whole _ _ _ c.in-Ok.ensures.whole) c.finish.ensures.kept
