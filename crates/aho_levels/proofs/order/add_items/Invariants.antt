use Rattle.std.proofs.Common.{take}
use Rattle.aho_core.specs.Replacement.{pieces_of}
use Rattle.aho_levels.specs.Sorting.{HasItems, key_numbers}
use Rattle.aho_levels.proofs.order.add_items.Given as goal

abbrev pub invariant-loop-key : goal.invariant-loop-key
invariant-loop-key l = HasItems l.ignore_case (pieces_of l.patterns) l.root (key_numbers (take l.key-index l.keys)) l.ordered
