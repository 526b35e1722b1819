-- Each turn looks at one block at least. No place of the blocks before the one where it begins meets a group and has its head.
use Rattle.std.proofs.Common.{◌*◌, ◌≤◌}
use Rattle.memchr.specs.Find.{Nowhere}
use Rattle.aho_prefilter.specs.PackedHeads.{MeetsHeadAt}
use Rattle.aho_prefilter.proofs.packed_heads.PackedHeads.find_in_blocks.Given as goal

abbrev pub invariant-loop : goal.invariant-loop
invariant-loop l = (l.counter ≤ l.from) × (l.from ≤ l.blocks) × Nowhere (MeetsHeadAt l.self l.bytes) 0 (l.from * 32)
