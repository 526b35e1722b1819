use Rattle.std.proofs.Common.{◌≡◌, ◌+◌}
use Rattle.aho_corasick.specs.ReadOut.{states_of}
use Rattle.aho_hybrid.specs.Filled.{lists_below, told_size}
use Rattle.aho_hybrid.proofs.budget.lists_size.Given as goal

abbrev pub invariant-loop-index : goal.invariant-loop-index
invariant-loop-index l = l.size ≡ told_size (1 + lists_below (states_of l.nfa) l.index)
