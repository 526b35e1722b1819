use Rattle.aho_corasick.specs.ReadOut.{states_of}
use Rattle.aho_hybrid.specs.Filled.{AreDepths}
use Rattle.aho_hybrid.proofs.fill.depths_of.Given as goal

abbrev pub invariant-loop-index : goal.invariant-loop-index
invariant-loop-index l = AreDepths l.row_depth (states_of l.nfa) l.index l.depths.items
