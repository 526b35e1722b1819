use Rattle.std.proofs.Common.{◌≡◌}
use Rattle.aho_corasick.specs.ReadOut.{special_of, states_of}
use Rattle.aho_hybrid.specs.Filled.{moves_below, told_size}
use Rattle.aho_hybrid.proofs.budget.moves_size.Given as goal

abbrev pub invariant-loop-index : goal.invariant-loop-index
invariant-loop-index l = l.size ≡ told_size (moves_below l.row_depth (special_of l.nfa) (states_of l.nfa) l.index)
