use Rattle.std.proofs.Common.{◌*◌}
use Rattle.aho_prefilter.proofs.Blocks.{Nowhere-more}
use Rattle.aho_prefilter.proofs.packed_heads.PackedHeads.next_tested.Goals as goal

pub loop-number-preserved : goal.loop-number-preserved
loop-number-preserved c =
    Nowhere-more c.args.tested c.args.self.now c.args.bytes.now (c.args.from * 32) c.loop-number.number c.places_met-met.result c.loop-number.invariant c.places_met-met.ensures.met c.if-met-ne0.false
