use Rattle.aho_corasick.specs.ReadOut.{states_of}
use Rattle.aho_hybrid.specs.Filled.{AreOwnLists}
use Rattle.aho_hybrid.proofs.lists.own_lists.Given as goal

abbrev pub invariant-loop-index : goal.invariant-loop-index
invariant-loop-index l = AreOwnLists (states_of l.nfa) l.index l.lists
