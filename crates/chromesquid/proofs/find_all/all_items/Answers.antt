-- The items are those of one run to the end.
use Rattle.std.proofs.Common.{List, None, subst, sym}
use Rattle.std.proofs.lemmas.Result.{IfOk-weaker}
use Rattle.aho_core.specs.Iteration.{AreFinds}
use Rattle.aho_core.specs.Occurrence.{Occurrence}
use Rattle.chromesquid.proofs.find_all.all_items.Goals as goal

pub returns : goal.returns
returns g c = record {
  found = λ p search gives.
      IfOk-weaker c.collect.result _ _
      (λ found ran. let run = ran tt in subst (λ (ms : List Occurrence). AreFinds p search None ms) (sym run.3.0) (gives run.0 run.0.seen run.1 run.2))
      c.collect.ensures.runs;
}
