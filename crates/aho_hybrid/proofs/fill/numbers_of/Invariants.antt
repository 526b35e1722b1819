use Rattle.std.proofs.Common.{◌≡◌, ◌+◌}
use Rattle.aho_corasick.specs.ReadOut.{classes_of, states_of}
use Rattle.aho_hybrid.specs.Filled.{AreStateNumbers, record_place, row_at}
use Rattle.aho_hybrid.proofs.fill.numbers_of.Given as goal

abbrev pub invariant-loop-index : goal.invariant-loop-index
invariant-loop-index l = record {
  numbers : AreStateNumbers l.row_depth (states_of l.nfa) (classes_of l.nfa) l.index l.numbers.items;
  row : l.row ≡ row_at l.row_depth (states_of l.nfa) (classes_of l.nfa) l.index;
  deep : l.record ≡ l.dense + record_place l.row_depth (states_of l.nfa) l.index;
}
