use Rattle.std.proofs.Common.{◌≡◌, List, [], subst, arith}
use Rattle.std.proofs.lemmas.List.{nil_from_length}
use Rattle.std.proofs.lemmas.Result.{IfOk-weaker}
use Rattle.aho_core.specs.Patterns.{Patterns}
use Rattle.aho_levels.proofs.Closing.{closed-level}
use Rattle.aho_levels.specs.Building.{AreItems, IsGrownTrie}
use Rattle.aho_levels.specs.Growing.{IsClosedTree, IsLevel}
use Rattle.aho_levels.specs.declared.order.Item.{Item}
use Rattle.aho_levels.specs.declared.trie.Trie.{Trie}
use Rattle.aho_levels.proofs.trie.trie_of.Goals as goal

pub returns-clause-trie : goal.returns-clause-trie
returns-clause-trie c =
    let none : c.levels.items.items ≡ [] = nil_from_length c.levels.items.items (omega (arith, c.levels-test.false, c.len.ensures, c.levels.items.ok.0)) in
    IfOk-weaker c.trie_from.result (λ (trie : Trie). IsClosedTree c.levels.tree c.levels.ends trie)
    (λ (trie : Trie). (p : Patterns) → p.kind ≡ c.args.kind → AreItems p 1 c.args.ordered.text.items c.args.ordered.items.items → IsGrownTrie p trie)
    (λ trie closed p kind are.
    closed-level p c.levels.depth c.args.ordered.text.items c.levels.tree c.levels.ends trie
    (subst (λ (items : List Item). IsLevel p c.levels.depth c.args.ordered.text.items c.levels.tree c.levels.ends items) none (c.levels.invariant.level p kind are)) c.levels.invariant.ends closed)
    c.trie_from.ensures.closed
