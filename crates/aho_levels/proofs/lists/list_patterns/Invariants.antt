use Rattle.aho_levels.specs.Building.{HasSameLinks}
use Rattle.aho_levels.specs.Listing.{AreListedTo}
use Rattle.aho_levels.proofs.lists.list_patterns.Given as goal

abbrev pub invariant-loop-index : goal.invariant-loop-index
invariant-loop-index l = record {
  listed : AreListedTo l.owns l.own l.index l.states;
  same : HasSameLinks l.fn.states l.states;
}
