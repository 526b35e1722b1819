use Rattle.aho_levels.specs.Building.{HasSameTrie}
use Rattle.aho_levels.specs.Layout.{first_child}
use Rattle.aho_levels.specs.Linking.{AreLinkedTo, HaveRowsTo}
use Rattle.aho_levels.proofs.links.link_states.Given as goal

abbrev pub invariant-loop-parent : goal.invariant-loop-parent
invariant-loop-parent l = record {
  linked : AreLinkedTo l.fn.kind l.owns l.own (first_child l.states l.parent) l.states;
  rows : HaveRowsTo l.fn.most_rows (first_child l.states l.parent) l.states;
  same : HasSameTrie l.fn.states l.states;
}
