use Rattle.std.proofs.Common.{◌≡◌, take}
use Rattle.aho_core.specs.Numbers.{greatest_index}
use Rattle.aho_corasick.specs.ReadOut.{states_of}
use Rattle.bench.proofs.relinked.copy_of.Given as goal

abbrev pub invariant-loop-index : goal.invariant-loop-index
invariant-loop-index l = record {
  states : l.table.states ≡ take l.index (states_of l.nfa);
  limit : l.table.limit ≡ greatest_index;
  rows : l.table.dense_len ≡ 1;
}
