use Rattle.std.proofs.Common.{◌≡◌, ◌∙◌, ◌≤◌, ℕ, Bool, false, sym, ap, arith}
use Rattle.std.specs.Prelude.{None}
use Rattle.std.proofs.lemmas.Bool.{ltb-false}
use Rattle.aho_core.specs.Bytes.{folded_by}
use Rattle.aho_core.specs.declared.search.Anchored.TheVariants.{No}
use Rattle.aho_levels.specs.Layout.{StateTables, child_by, child_at, depth_at, is_row_state, link_at, looks_of_step, next_at}
use Rattle.aho_levels.specs.Stepping.{linked-step}
use Rattle.aho_levels.proofs.states.States.deep_step.Goals as goal

pub links-preserved : goal.links-preserved
links-preserved c =
    let t = c.args.self.now in
    let sid = c.links.sid in
    let there = c.links.invariant.linked in
    let deep : is_row_state t sid ≡ false = sym c.has_row.ensures.row ∙ c.if-has_row.false in
    let past : t.row_count ≤ sid = ltb-false sid t.row_count deep in
    let case_rule : c.self.inside.ignore_case ≡ t.ignore_case = ap (λ (l : StateTables). l.ignore_case) c.self.view_is in
    let child : child_by t sid c.args.byte ≡ None =
    ap (λ (b : Bool). child_at t sid (folded_by b c.args.byte)) (sym case_rule) ∙ ap (child_at t sid) (sym c.folded-folded.ensures.folded) ∙ sym c.child.ensures.child ∙ c.in_default.is in
    let led = linked-step t c.requires.can sid c.args.byte deep there child in
    let link : c.link-sid.result ≡ link_at t sid = c.link-sid.ensures.link in
    record {
      linked = omega (arith, link, c.requires.can.walkable.link sid past there, there);
      next = ap (λ (n : ℕ). next_at t No n c.args.byte) link ∙ sym led.0 ∙ c.links.invariant.next;
      looks = omega (arith, ap (λ (n : ℕ). looks_of_step t No n c.args.byte) link, led.1, c.links.invariant.looks, c.tick.ensures.one_more);
      room = omega (arith, ap (depth_at t) link, c.requires.can.walkable.link_nearer sid past there, c.links.invariant.room, c.tick.ensures.one_more);
    }
