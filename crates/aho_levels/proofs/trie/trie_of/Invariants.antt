use Rattle.std.proofs.Common.{◌≡◌, ◌-◌, ◌≤◌}
use Rattle.aho_core.specs.Numbers.{greatest_index}
use Rattle.aho_core.specs.Patterns.{Patterns}
use Rattle.aho_levels.specs.Building.{AreItems}
use Rattle.aho_levels.specs.Growing.{AreEnds, IsLevel}
use Rattle.aho_levels.proofs.trie.trie_of.Given as goal

abbrev pub invariant-levels : goal.invariant-levels
invariant-levels l = record {
  ends : AreEnds l.ends;
  deep : l.depth ≤ greatest_index;
  level : (p : Patterns) → p.kind ≡ l.kind → AreItems p 1 l.text.items l.fn.ordered.items.items → IsLevel p l.depth l.text.items l.tree l.ends l.items.items;
}

abbrev pub decreases-levels : goal.decreases-levels
decreases-levels l = greatest_index - l.depth
