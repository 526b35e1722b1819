use Rattle.std.proofs.Common.{ap, arith}
use Rattle.aho_levels.specs.Layout.{StateTables}
use Rattle.aho_levels.proofs.Ranges.{range-folded}
use Rattle.aho_levels.proofs.Same.{children-same, folded-same, trie_alone}
use Rattle.aho_levels.proofs.links.add_row.Goals as goal

pub set_children-requires-clause-children : goal.set_children-requires-clause-children
set_children-requires-clause-children c =
    children-same c.args.states.now _ (record {
      firsts = ap (λ (t : StateTables). t.firsts) c.states.view_is;
      bytes = ap (λ (t : StateTables). t.bytes) c.states.view_is;
      depths = ap (λ (t : StateTables). t.depths) c.states.view_is;
      case_rule = ap (λ (t : StateTables). t.ignore_case) c.states.view_is;
    }) c.requires.can.children

pub set_children-requires-clause-folded : goal.set_children-requires-clause-folded
set_children-requires-clause-folded c =
    folded-same c.args.states.now (trie_alone c.states.inside.firsts.items c.states.inside.bytes.items c.states.inside.depths.items c.states.inside.ignore_case) (record {
      firsts = ap (λ (t : StateTables). t.firsts) c.states.view_is;
      bytes = ap (λ (t : StateTables). t.bytes) c.states.view_is;
      depths = ap (λ (t : StateTables). t.depths) c.states.view_is;
      case_rule = ap (λ (t : StateTables). t.ignore_case) c.states.view_is;
    }) c.args.sid (range-folded c.args.states.now c.requires.can.children c.requires.levels c.args.sid (omega (arith, c.requires.link)) c.requires.state)
