use Rattle.std.proofs.Common.{◌≡◌, [], drop, ap, arith}
use Rattle.std.proofs.Math.ListN.{drop_of_length-le}
use Rattle.aho_core.specs.Laws.{shortest}
use Rattle.aho_levels.proofs.Lengths.{min-shortest}
use Rattle.aho_levels.proofs.levels.shortest_len.Goals as goal

pub loop-len-init : goal.loop-len-init
loop-len-init c = record { kept = min-shortest c.args.lens.now; bound = omega arith }

pub returns : goal.returns
returns c =
    let gone : drop c.loop-len.len-index c.args.lens.now ≡ [] = drop_of_length-le c.args.lens.now c.loop-len-test.false in
    record { shortest = omega (arith, c.loop-len.invariant.kept, c.loop-len.invariant.bound, ap shortest gone) }
