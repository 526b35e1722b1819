use Rattle.std.proofs.Common.{◌≡◌, ℕ, length, slice_index_or}
use Rattle.aho_levels.proofs.tree.Tree.begin.Given as goal

abbrev pub invariant-loop : goal.invariant-loop
invariant-loop l = record {
  begun : length l.self.firsts.items ≡ l.counter;
  firsts : (i : ℕ) → slice_index_or l.self.firsts.items i (length l.self.bytes.items) ≡ slice_index_or l.fn.self.firsts.items i (length l.self.bytes.items);
  first_is : l.first ≡ length l.self.bytes.items;
  bytes : l.self.bytes.items ≡ l.fn.self.bytes.items;
  depths : l.self.depths.items ≡ l.fn.self.depths.items;
  parent : l.self.parent ≡ l.fn.self.parent;
}
