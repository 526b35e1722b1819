use Rattle.std.proofs.Common.{◌*◌, ◌<◌, ◌^◌}
use Rattle.aho_levels.proofs.order.head_of.Given as goal

abbrev pub invariant-loop-index : goal.invariant-loop-index
invariant-loop-index l = l.head < 2 ^ (8 * l.index)
