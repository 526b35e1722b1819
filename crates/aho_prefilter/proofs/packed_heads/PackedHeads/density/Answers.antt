use Rattle.std.proofs.Common.{arith}
use Rattle.aho_prefilter.proofs.Shares.{places_below-more, places_below-none}
use Rattle.aho_prefilter.proofs.packed_heads.PackedHeads.density.Goals as goal

pub loop-group-init : goal.loop-group-init
loop-group-init c = (places_below-none c.args.self.now c.args.least, omega arith)

pub loop-group-preserved : goal.loop-group-preserved
loop-group-preserved c = (
  omega (arith, c.loop-group.invariant.0, c.places_met_by-density.ensures.met, places_below-more c.args.self.now c.args.least c.loop-group.group),
  omega (arith, c.loop-group.invariant.1, c.places_met_by-density.ensures.few),
)
