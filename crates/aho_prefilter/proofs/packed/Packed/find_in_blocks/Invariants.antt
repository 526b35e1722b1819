use Rattle.std.proofs.Common.{◌*◌}
use Rattle.memchr.specs.Find.{Nowhere}
use Rattle.aho_prefilter.specs.Packed.{MeetsAt}
use Rattle.aho_prefilter.proofs.packed.Packed.find_in_blocks.Given as goal

abbrev pub invariant-loop-block : goal.invariant-loop-block
invariant-loop-block l = Nowhere (MeetsAt l.self l.bytes) 0 (l.block * 32)
