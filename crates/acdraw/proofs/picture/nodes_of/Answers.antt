use Rattle.std.proofs.Common.{◌≡◌, ◌∙◌, ◌++◌, [], ◌∷◌, map, sym, ap, subst}
use Rattle.std.specs.List.{All}
use Rattle.std.specs.Prelude.{true, false}
use Rattle.acdraw.specs.Picture.{IsDrawn, is_drawn}
use Rattle.acdraw.specs.declared.picture.Node.{Node}
use Rattle.acdraw.proofs.Drawn.{all_more, drawn_same, nodes_more}
use Rattle.acdraw.proofs.picture.nodes_of.Goals as goal

pub loop-index-preserved : goal.loop-index-preserved
loop-index-preserved c =
    let node : Node = c.in_ok-node_of.field-0 in
    let drawn : is_drawn c.args.nfa.now c.args.anchored c.loop-index.index ≡ true = sym (c.if-not-is_drawn.ensures.drawn ∙ ap (is_drawn c.args.nfa.now c.args.anchored) c.new_unchecked-sid.ensures.value) in
    let numbered : node.sid ≡ c.loop-index.index = c.in_ok-node_of.ensures.sid ∙ c.new_unchecked-sid.ensures.value in
    let items : c.push.new.self.items ≡ c.loop-index.nodes.items ++ node ∷ [] = c.in_ok-push.ensures.items in
    record {
      states = ap (map (λ (node : Node). node.sid)) items
          ∙ nodes_more c.args.nfa.now c.args.anchored c.loop-index.nodes.items node c.loop-index.index drawn numbered c.loop-index.invariant.states;
      drawn = subst
          (All (IsDrawn c.args.nfa.now))
          (sym items)
          (all_more (IsDrawn c.args.nfa.now) c.loop-index.nodes.items node c.loop-index.invariant.drawn c.in_ok-node_of.ensures.drawn);
    }

pub loop-index-preserved-then-not-is_drawn : goal.loop-index-preserved-then-not-is_drawn
loop-index-preserved-then-not-is_drawn c =
    let left_out : is_drawn c.args.nfa.now c.args.anchored c.loop-index.index ≡ false = sym (c.if-not-is_drawn.ensures.drawn ∙ ap (is_drawn c.args.nfa.now c.args.anchored) c.new_unchecked-sid.ensures.value) in
    record {
      states = c.loop-index.invariant.states ∙ sym (drawn_same c.args.nfa.now c.args.anchored c.loop-index.index left_out);
      drawn = c.loop-index.invariant.drawn;
    }
