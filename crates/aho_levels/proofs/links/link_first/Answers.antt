use Rattle.std.proofs.Common.{◌∙◌, ap, arith}
use Rattle.aho_levels.specs.Layout.{StateTables}
use Rattle.aho_levels.proofs.Ranges.{range-folded}
use Rattle.aho_levels.proofs.Same.{children-same, folded-same, trie_alone}
use Rattle.aho_levels.proofs.links.link_first.Goals as goal

pub set_children-requires-clause-children : goal.set_children-requires-clause-children
set_children-requires-clause-children c =
    let one = c.in_ok-push_link.ensures.linked.trie in
    let two = c.in_ok-push_link-2.ensures.linked.trie in
    children-same c.args.states.now _ (record {
      firsts = ap (λ (t : StateTables). t.firsts) c.states.view_is ∙ two.firsts ∙ one.firsts;
      bytes = ap (λ (t : StateTables). t.bytes) c.states.view_is ∙ two.bytes ∙ one.bytes;
      depths = ap (λ (t : StateTables). t.depths) c.states.view_is ∙ two.depths ∙ one.depths;
      case_rule = ap (λ (t : StateTables). t.ignore_case) c.states.view_is ∙ two.case_rule ∙ one.case_rule;
    }) c.requires.bare.children

pub set_children-requires-clause-folded : goal.set_children-requires-clause-folded
set_children-requires-clause-folded c =
    let one = c.in_ok-push_link.ensures.linked.trie in
    let two = c.in_ok-push_link-2.ensures.linked.trie in
    folded-same c.args.states.now (trie_alone c.states.inside.firsts.items c.states.inside.bytes.items c.states.inside.depths.items c.states.inside.ignore_case) (record {
      firsts = ap (λ (t : StateTables). t.firsts) c.states.view_is ∙ two.firsts ∙ one.firsts;
      bytes = ap (λ (t : StateTables). t.bytes) c.states.view_is ∙ two.bytes ∙ one.bytes;
      depths = ap (λ (t : StateTables). t.depths) c.states.view_is ∙ two.depths ∙ one.depths;
      case_rule = ap (λ (t : StateTables). t.ignore_case) c.states.view_is ∙ two.case_rule ∙ one.case_rule;
    }) 1 (range-folded c.args.states.now c.requires.bare.children c.requires.levels 1 (omega arith) (omega (arith, c.requires.bare.two)))
