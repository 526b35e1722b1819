use Rattle.std.proofs.Common.{◌≡◌, ◌≤◌, List, ℕ, length, take, drop}
use Rattle.aho_core.specs.Patterns.{Patterns}
use Rattle.aho_levels.specs.Building.{AreItems}
use Rattle.aho_levels.specs.Growing.{AreEnds, IsSettling, first_names, item_numbers}
use Rattle.aho_levels.proofs.trie.end_empty.Given as goal

abbrev pub invariant-loop-index : goal.invariant-loop-index
invariant-loop-index l = record {
  ends : AreEnds l.ends;
  kept : l.kept ≤ l.index;
  count : length l.items.items ≡ length l.fn.items.items;
  rest : drop l.index l.items.items ≡ drop l.index l.fn.items.items;
  settling : (p : Patterns) (text : List ℕ) → p.kind ≡ l.kind → AreItems p 1 text l.fn.items.items
      → IsSettling p 0 text first_names l.ends.owns.items l.ends.passed (take l.index (item_numbers l.fn.items.items)) (take l.kept l.items.items);
}
