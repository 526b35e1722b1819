-- The states so far.
use Rattle.std.proofs.Common.{◌≡◌, map}
use Rattle.std.specs.List.{All}
use Rattle.acdraw.specs.Picture.{IsDrawn, drawn_of}
use Rattle.acdraw.specs.declared.picture.Node.{Node}
use Rattle.acdraw.proofs.picture.nodes_of.Given as goal

abbrev pub invariant-loop-index : goal.invariant-loop-index
invariant-loop-index l = record {
  states : map (λ (node : Node). node.sid) l.nodes.items ≡ drawn_of l.nfa l.anchored l.index;
  drawn : All (IsDrawn l.nfa) l.nodes.items;
}
