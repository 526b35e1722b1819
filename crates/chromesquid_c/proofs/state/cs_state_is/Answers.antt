-- The handle leads to the searcher of whose state this is.
use Rattle.std.proofs.Common.{sym}
use Rattle.chromesquid_c.proofs.state.cs_state_is.Goals as goal

pub state_told-requires : goal.state_told-requires
state_told-requires c = record {
  of = c.requires.of c.deref.result.now (record { one = c.get.result.now; held = c.get.ensures.value; same = sym c.deref.ensures });
}
