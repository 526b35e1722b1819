use Rattle.std.proofs.Common.{◌≡◌}
use Rattle.aho_build.specs.TrieGrowth.{WalksWord}
use Rattle.aho_build.proofs.compiler.trie.add_word.Given as goal

abbrev pub invariant-loop-index : goal.invariant-loop-index
invariant-loop-index l = record {
  walked : WalksWord l.settings l.pattern l.index l.state l.fn.table.states l.table.states;
  limit : l.table.limit ≡ l.fn.table.limit;
}
