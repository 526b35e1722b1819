use Rattle.std.proofs.Common.{◌≡◌}
use Rattle.std.specs.List.{range_with_len}
use Rattle.aho_levels.specs.Sorting.{key_numbers}
use Rattle.aho_levels.proofs.order.keys_of.Given as goal

abbrev pub invariant-loop-index : goal.invariant-loop-index
invariant-loop-index l = key_numbers l.keys.items ≡ range_with_len 0 l.index
