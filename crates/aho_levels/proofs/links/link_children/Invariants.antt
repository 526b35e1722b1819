use Rattle.aho_levels.specs.Building.{HasSameTrie}
use Rattle.aho_levels.specs.Linking.{AreLinkedTo, HaveRowsTo}
use Rattle.aho_levels.proofs.links.link_children.Given as goal

abbrev pub invariant-loop-child : goal.invariant-loop-child
invariant-loop-child l = record {
  linked : AreLinkedTo l.walk.kind l.owns l.next l.child l.states;
  rows : HaveRowsTo l.walk.most_rows l.child l.states;
  same : HasSameTrie l.fn.states l.states;
}
