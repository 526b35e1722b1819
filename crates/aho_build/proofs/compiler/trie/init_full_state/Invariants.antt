use Rattle.std.proofs.Common.{◌≡◌}
use Rattle.aho_build.specs.TrieGrowth.{IsFilledBelow}
use Rattle.aho_build.proofs.compiler.trie.init_full_state.Given as goal

abbrev pub invariant-loop-byte : goal.invariant-loop-byte
invariant-loop-byte l = record {
  filled : IsFilledBelow l.sid l.next l.byte l.fn.table.states l.table.states;
  limit : l.table.limit ≡ l.fn.table.limit;
}
