use Rattle.std.proofs.Common.{◌≡◌}
use Rattle.aho_corasick.specs.ReadOut.{states_of}
use Rattle.aho_hybrid.specs.Filled.{AreShared}
use Rattle.aho_hybrid.proofs.lists.share_lists.Given as goal

abbrev pub invariant-loop-index : goal.invariant-loop-index
invariant-loop-index l = record {
  shared : AreShared (states_of l.nfa) l.index l.lists;
  words : l.lists.words.items ≡ l.fn.lists.words.items;
}
