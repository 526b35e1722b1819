use Rattle.std.proofs.Common.{◌<◌, ℕ, length, arith, length-set}
use Rattle.aho_hybrid.proofs.Firsts.{first-written}
use Rattle.aho_hybrid.proofs.fill.first_bytes.Goals as goal

pub loop-index-preserved : goal.loop-index-preserved
loop-index-preserved c =
    let within : c.get.result < length c.loop-index.firsts = omega (arith, c.get.type_inv, c.loop-index.invariant.sized) in
    record {
      sized = omega (arith, length-set {A = ℕ}, c.loop-index.invariant.sized);
      of_class = first-written c.args.classes.now c.loop-index.firsts c.loop-index.index c.get.result c.get.ensures.class within c.loop-index.invariant.of_class;
    }
