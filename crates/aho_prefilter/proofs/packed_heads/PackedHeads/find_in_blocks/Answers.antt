use Rattle.std.proofs.Common.{arith}
use Rattle.aho_prefilter.proofs.Blocks.{IsFirst-block, Nowhere-block}
use Rattle.aho_prefilter.proofs.packed_heads.PackedHeads.find_in_blocks.Goals as goal

pub returns-in-Some-find_head : goal.returns-in-Some-find_head
returns-in-Some-find_head c = record {
  first = IsFirst-block c.args.self.now c.args.bytes.now c.loop.from c.args.blocks c.loop.invariant.2 c.in-Some.block c.in-Some.ensures.next c.in-Some-find_head.place c.in-Some-find_head.ensures.first;
}

pub loop-preserved : goal.loop-preserved
loop-preserved c = (
  omega (arith, c.loop.invariant.0, c.in-Some.ensures.next.low),
  omega (arith, c.in-Some.ensures.next.high),
  Nowhere-block c.args.self.now c.args.bytes.now c.loop.from c.args.blocks c.loop.invariant.2 c.in-Some.block c.in-Some.ensures.next c.in_default-find_head.ensures.first,
)
