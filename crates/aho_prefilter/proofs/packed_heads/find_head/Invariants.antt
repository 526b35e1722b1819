-- Before the place none is told that has its head, and the bits that are left tell those from it on.
use Rattle.aho_prefilter.proofs.Told.{AreLeft}
use Rattle.aho_prefilter.proofs.packed_heads.find_head.Given as goal

abbrev pub invariant-loop : goal.invariant-loop
invariant-loop l = AreLeft l.heads l.bytes l.fn.at l.fn.met l.left l.place l.counter
