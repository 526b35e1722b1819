-- No place of the blocks before that of the loop meets a group.
use Rattle.std.proofs.Common.{◌*◌}
use Rattle.memchr.specs.Find.{Nowhere}
use Rattle.aho_prefilter.specs.PackedHeads.{MeetsBy}
use Rattle.aho_prefilter.proofs.packed_heads.PackedHeads.next_tested.Given as goal

abbrev pub invariant-loop-number : goal.invariant-loop-number
invariant-loop-number l = Nowhere (MeetsBy l.tested l.self l.bytes) (l.fn.from * 32) (l.number * 32)
