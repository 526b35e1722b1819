-- What a closure of its own leaves is not told.
use Rattle.std.proofs.Common.{inl, inr}
use Rattle.aho_stream.proofs.Runnings.{over_any}
use Rattle.aho_stream.proofs.replace.try_stream_replace_all_with.Goals as goal

pub returns-clause-runs : goal.returns-clause-runs
returns-clause-runs g c begins =
    elim (c.try_stream_replace_all_with_mut.ensures.runs begins) [
      | inl refused ↦ inl refused.0
      | inr over ↦ inr (over_any _ _ _ _ _ _ _ _ _ _ _ over)
    ]
