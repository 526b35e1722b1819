use Rattle.std.proofs.Common.{◌≡◌, ◌≤◌, length, take, drop}
use Rattle.aho_core.specs.Patterns.{Patterns}
use Rattle.aho_levels.specs.Growing.{AreEnds, IsLevel, IsStepping}
use Rattle.aho_levels.proofs.trie.add_level.Given as goal

abbrev pub invariant-loop-index : goal.invariant-loop-index
invariant-loop-index l = record {
  ends : AreEnds l.ends;
  kept : l.kept ≤ l.index;
  count : length l.items.items ≡ length l.fn.items.items;
  rest : drop l.index l.items.items ≡ drop l.index l.fn.items.items;
  stepping : (p : Patterns) → p.kind ≡ l.kind → IsLevel p l.depth l.text l.fn.tree l.fn.ends l.fn.items.items
      → IsStepping p l.depth l.text l.tree l.ends l.fn.items.items l.index (take l.kept l.items.items);
}
