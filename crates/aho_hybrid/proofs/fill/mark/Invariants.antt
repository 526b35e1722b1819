use Rattle.std.proofs.Common.{◌≡◌, length, take}
use Rattle.aho_hybrid.specs.Filled.{AreMarked}
use Rattle.aho_hybrid.proofs.fill.mark.Given as goal

abbrev pub invariant-loop-byte : goal.invariant-loop-byte
invariant-loop-byte l = record {
  sized : length l.taken ≡ 256;
  marked : AreMarked (take (length l.yielded) l.fn.transitions) l.fn.taken l.taken;
}
