use Rattle.std.proofs.Common.{◌≡◌, ◌∙◌, ℕ, Bool, ◌&&◌, cond, ap, arith, subst}
use Rattle.std.specs.Prelude.{nat_lt}
use Rattle.aho_core.specs.Failure.{is_leftmost}
use Rattle.aho_levels.specs.Linking.{HasNewRow, link_below}
use Rattle.aho_levels.specs.Listing.{AreAllAt}
use Rattle.aho_levels.proofs.Joined.{behind, can-joined, joined, link-new, near-link, parent-lower}
use Rattle.aho_levels.proofs.RowJoined.{row-joined}
use Rattle.aho_levels.proofs.links.link_child.Goals as goal

pub link_below-below-requires-clause-linked : goal.link_below-below-requires-clause-linked
link_below-below-requires-clause-linked c =
    omega
    (arith, parent-lower c.args.owns.now c.args.walk.now c.requires.walk c.args.own c.past_owns-next.result c.args.parent c.args.child c.args.states.now c.requires.some c.requires.within c.requires.from c.requires.to c.requires.linked, c.requires.linked.linked)

pub returns-then-child-walk-clause-linked : goal.returns-then-child-walk-clause-linked
returns-then-child-walk-clause-linked c =
    let at : AreAllAt c.args.owns.now c.args.own c.past_owns-next.result c.args.child =
    subst (λ (n : ℕ). AreAllAt c.args.owns.now c.args.own c.past_owns-next.result n) c.new_unchecked-sid.ensures.value c.past_owns-next.ensures.at in
    let link : c.dead_or-link.result ≡ cond (is_leftmost c.args.walk.now.kind && nat_lt c.args.own c.past_owns-next.result) 0 (link_below c.args.states.now c.args.walk.now.back c.args.parent c.args.child) =
    c.dead_or-link.ensures.link
    ∙ ap (λ (b : Bool). cond b 0 c.link_below-below.result) c.ends_walk.ensures.ends
    ∙ ap (λ (n : ℕ). cond (is_leftmost c.args.walk.now.kind && nat_lt c.args.own c.past_owns-next.result) 0 n) c.link_below-below.ensures.link in
    joined c.args.owns.now c.args.walk.now c.requires.walk c.args.own c.past_owns-next.result c.args.parent c.args.child c.args.states.now c.requires.some c.requires.within c.requires.from c.requires.to c.requires.linked at c.dead_or-link.result link c.push_link.new.states c.in_ok-push_link.ensures.linked

pub add_row-requires-clause-can : goal.add_row-requires-clause-can
add_row-requires-clause-can c =
    let at : AreAllAt c.args.owns.now c.args.own c.past_owns-next.result c.args.child =
    subst (λ (n : ℕ). AreAllAt c.args.owns.now c.args.own c.past_owns-next.result n) c.new_unchecked-sid.ensures.value c.past_owns-next.ensures.at in
    let link : c.dead_or-link.result ≡ cond (is_leftmost c.args.walk.now.kind && nat_lt c.args.own c.past_owns-next.result) 0 (link_below c.args.states.now c.args.walk.now.back c.args.parent c.args.child) =
    c.dead_or-link.ensures.link
    ∙ ap (λ (b : Bool). cond b 0 c.link_below-below.result) c.ends_walk.ensures.ends
    ∙ ap (λ (n : ℕ). cond (is_leftmost c.args.walk.now.kind && nat_lt c.args.own c.past_owns-next.result) 0 n) c.link_below-below.ensures.link in
    can-joined c.args.owns.now c.args.walk.now c.requires.walk c.args.own c.past_owns-next.result c.args.parent c.args.child c.args.states.now c.requires.some c.requires.within c.requires.from c.requires.to c.requires.linked at c.dead_or-link.result link c.push_link.new.states c.in_ok-push_link.ensures.linked

pub add_row-requires-clause-link : goal.add_row-requires-clause-link
add_row-requires-clause-link c =
    let at : AreAllAt c.args.owns.now c.args.own c.past_owns-next.result c.args.child =
    subst (λ (n : ℕ). AreAllAt c.args.owns.now c.args.own c.past_owns-next.result n) c.new_unchecked-sid.ensures.value c.past_owns-next.ensures.at in
    let link : c.dead_or-link.result ≡ cond (is_leftmost c.args.walk.now.kind && nat_lt c.args.own c.past_owns-next.result) 0 (link_below c.args.states.now c.args.walk.now.back c.args.parent c.args.child) =
    c.dead_or-link.ensures.link
    ∙ ap (λ (b : Bool). cond b 0 c.link_below-below.result) c.ends_walk.ensures.ends
    ∙ ap (λ (n : ℕ). cond (is_leftmost c.args.walk.now.kind && nat_lt c.args.own c.past_owns-next.result) 0 n) c.link_below-below.ensures.link in
    omega (arith, c.new_unchecked-sid.ensures.value, (near-link c.args.owns.now c.args.walk.now c.requires.walk c.args.own c.past_owns-next.result c.args.parent c.args.child c.args.states.now c.requires.some c.requires.within c.requires.from c.requires.to c.requires.linked at c.dead_or-link.result link).0)

pub returns-clause-linked : goal.returns-clause-linked
returns-clause-linked c =
    let at : AreAllAt c.args.owns.now c.args.own c.past_owns-next.result c.args.child =
    subst (λ (n : ℕ). AreAllAt c.args.owns.now c.args.own c.past_owns-next.result n) c.new_unchecked-sid.ensures.value c.past_owns-next.ensures.at in
    let link : c.dead_or-link.result ≡ cond (is_leftmost c.args.walk.now.kind && nat_lt c.args.own c.past_owns-next.result) 0 (link_below c.args.states.now c.args.walk.now.back c.args.parent c.args.child) =
    c.dead_or-link.ensures.link
    ∙ ap (λ (b : Bool). cond b 0 c.link_below-below.result) c.ends_walk.ensures.ends
    ∙ ap (λ (n : ℕ). cond (is_leftmost c.args.walk.now.kind && nat_lt c.args.own c.past_owns-next.result) 0 n) c.link_below-below.ensures.link in
    let whole = joined c.args.owns.now c.args.walk.now c.requires.walk c.args.own c.past_owns-next.result c.args.parent c.args.child c.args.states.now c.requires.some c.requires.within c.requires.from c.requires.to c.requires.linked at c.dead_or-link.result link c.push_link.new.states c.in_ok-push_link.ensures.linked in
    let new = link-new c.args.owns.now c.args.walk.now c.requires.walk c.args.own c.past_owns-next.result c.args.parent c.args.child c.args.states.now c.requires.some c.requires.within c.requires.from c.requires.to c.requires.linked at c.dead_or-link.result link c.push_link.new.states c.in_ok-push_link.ensures.linked in
    row-joined c.args.walk.now.kind c.args.owns.now c.past_owns-next.result c.args.child c.dead_or-link.result c.push_link.new.states c.add_row.new.states whole
    (behind c.args.owns.now c.args.walk.now c.requires.walk c.args.own c.past_owns-next.result c.args.parent c.args.child c.args.states.now c.requires.some c.requires.within c.requires.from c.requires.to c.requires.linked)
    (c.in_ok-push_link.ensures.linked.counted ∙ c.requires.rows (omega (arith, c.if-child-walk.false)))
    new
    (subst (λ (n : ℕ). HasNewRow c.push_link.new.states c.add_row.new.states n c.dead_or-link.result) c.new_unchecked-sid.ensures.value c.in_ok-add_row.ensures.row)
