use Rattle.std.proofs.lemmas.Result.{IfOk-weaker}
use Rattle.chromesquid.proofs.engine.Engine.of_kind.Goals as goal

pub returns-in_ok-prefilter-in-Hybrid-clause-of : goal.returns-in_ok-prefilter-in-Hybrid-clause-of
returns-in_ok-prefilter-in-Hybrid-clause-of c =
    IfOk-weaker c.with_rows.result _ _ (λ engine of. of _ c.requires.of c.in_ok-prefilter-in-Hybrid.ensures.of) c.with_rows.ensures.of
