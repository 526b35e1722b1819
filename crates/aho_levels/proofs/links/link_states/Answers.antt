use Rattle.std.proofs.Common.{◌∙◌, ℕ, Bool, ap, cond, subst, sym}
use Rattle.aho_levels.specs.Linking.{AreLinkedTo, IsWalkOf}
use Rattle.aho_levels.specs.declared.links.Walk.{Walk}
use Rattle.aho_levels.proofs.Begun.{begun, ends-told}
use Rattle.aho_levels.proofs.Nested.{in-levels}
use Rattle.aho_levels.proofs.Same.{levels-same, of_trie-same}
use Rattle.aho_levels.proofs.links.link_states.Goals as goal

pub link_first-requires-clause-levels : goal.link_first-requires-clause-levels
link_first-requires-clause-levels c = in-levels c.requires.some.0 c.requires.some.1 c.args.owns.now c.args.states.now c.requires.some.3 c.requires.bare

pub loop-parent-init : goal.loop-parent-init
loop-parent-init c =
    let owns = c.args.owns.now in
    let walk : Walk = record { kind = c.args.kind; back = c.dead_or-back.result; most_rows = c.args.most_rows } in
    let back : IsWalkOf owns walk = record {
      back = c.dead_or-back.ensures.link
          ∙ ap (λ (b : Bool). cond b 0 1) (c.ends_walk.ensures.ends ∙ sym (ends-told c.requires.some.0 c.requires.some.1 owns c.requires.some.3.owns c.args.kind c.past_owns-own.result c.past_owns-own.ensures.at));
    } in
    let levels = in-levels c.requires.some.0 c.requires.some.1 owns c.args.states.now c.requires.some.3 c.requires.bare in
    let first = begun owns walk back c.past_owns-own.result c.args.states.now c.link_first.new.states c.requires.bare levels c.past_owns-own.ensures.at c.in_ok-link_first.ensures.linked in
    record {
      linked = subst (λ (n : ℕ). AreLinkedTo c.args.kind owns c.past_owns-own.result n c.link_first.new.states) (sym first.levels.begins) first;
      rows = λ less. c.in_ok-link_first.ensures.linked.counted ∙ sym first.levels.begins;
      same = c.in_ok-link_first.ensures.linked.trie;
    }

pub link_children-requires-clause-walk : goal.link_children-requires-clause-walk
link_children-requires-clause-walk c = record {
  back = c.dead_or-back.ensures.link
      ∙ ap (λ (b : Bool). cond b 0 1)
      (c.ends_walk.ensures.ends
      ∙ sym (ends-told c.requires.some.0 c.requires.some.1 c.args.owns.now c.requires.some.3.owns c.args.kind c.past_owns-own.result c.past_owns-own.ensures.at));
}

pub returns-clause-links : goal.returns-clause-links
returns-clause-links c p names kind_is of =
    let same = c.loop-parent.invariant.same in
    record {
      case_is = same.case_rule ∙ of.case_is;
      levels = levels-same c.args.states.now c.loop-parent.states same p names of.levels;
      linked = c.loop-parent.invariant.linked.links p names kind_is (of_trie-same c.args.states.now c.loop-parent.states same p names c.args.owns.now of);
    }
