-- The handle leads to the searcher of whose state this is.
use Rattle.std.proofs.Common.{sym}
use Rattle.chromesquid_c.proofs.state.cs_next_state.Goals as goal

pub next_by-requires : goal.next_by-requires
next_by-requires c = record {
  of = c.requires.of c.deref.result.now (record { one = c.get.result.now; held = c.get.ensures.value; same = sym c.deref.ensures });
}
