-- The names of a folder were put down in order.
use Rattle.acgrep.proofs.Common.{on_ok_weaker}
use Rattle.acgrep.proofs.Walking.{enters-put}
use Rattle.acgrep.proofs.walk.enter.Goals as goal

pub returns-in-Ok-list_named : goal.returns-in-Ok-list_named
returns-in-Ok-list_named g c = record {
  entered = on_ok_weaker c.put_first.result
      (λ put. enters-put _ c.args.spot.name.items _ _ _ c.args.found.now (rw c.as_slice-2.ensures.value at c.in-Ok-list_named.ensures.told) (rw c.as_slice-in-Ok-list_named.ensures.value at put))
      c.put_first.ensures.put;
}
