use Rattle.std.proofs.Common.{◌≡◌, ◌+◌, ◌++◌, drop, take}
use Rattle.aho_levels.proofs.lists.push_list.Given as goal

abbrev pub invariant-loop-index : goal.invariant-loop-index
invariant-loop-index l = l.lists.items ≡ l.fn.lists.items ++ take l.index (drop (l.fn.place + 1) l.fn.lists.items)
