use Rattle.std.proofs.Common.{◌≡◌, ◌∙◌, ◌+◌, ◌<◌, ◌≤◌, ℕ, length, sym, ap, subst, arith}
use Rattle.std.specs.Prelude.{Some, None}
use Rattle.std.proofs.lemmas.Bool.{le-ltb}
use Rattle.aho_hybrid.specs.Layout.{IsDeep, IsStateIn, Layout, child_in, depth_below_rows, link_in, looks_in, next_state_in}
use Rattle.aho_hybrid.specs.Reading.{along-child, linked-step}
use Rattle.aho_hybrid.proofs.rows.Rows.deep_step.Goals as goal

pub returns-in-Some-clause-counted : goal.returns-in-Some-clause-counted
returns-in-Some-clause-counted c =
    let t = c.args.self.now in
    let behind : length t.rows ≤ c.links.sid =
    omega (arith, c.if-as_usize-len.false, c.as_usize.ensures.value, c.len.ensures, ap (λ (t : Layout). length t.rows) c.self.view_is) in
    let child : child_in t c.links.sid c.args.byte ≡ Some c.in-Some.next = sym c.child.ensures.child ∙ c.in-Some.is in
    let one = along-child t c.args.byte (depth_below_rows t c.links.sid + 1) c.links.sid c.in-Some.next (le-ltb c.links.sid (length t.rows) behind) child (omega arith) in
    omega (arith, one.1, c.links.invariant.looks, c.tick.ensures.one_more)

pub links-preserved : goal.links-preserved
links-preserved c =
    let t = c.args.self.now in
    let sid = c.links.sid in
    let behind : length t.rows ≤ sid = omega (arith, c.if-as_usize-len.false, c.as_usize.ensures.value, c.len.ensures, ap (λ (t : Layout). length t.rows) c.self.view_is) in
    let deep : IsDeep t sid = c.links.invariant.state.without_row (le-ltb sid (length t.rows) behind) in
    let small : c.args.byte < 256 = omega arith in
    let child : child_in t sid c.args.byte ≡ None = sym c.child.ensures.child ∙ c.in_default.is in
    let is = c.requires.sound.in_deep.link sid c.args.byte deep small child in
    let led = linked-step t c.requires.sound sid c.args.byte small deep child in
    let link : c.link-sid.result ≡ link_in t sid = c.link-sid.ensures.link in
    record {
      state = subst (IsStateIn t) (sym link) is.0;
      next = ap (λ (n : ℕ). next_state_in t n c.args.byte) link ∙ sym led.0 ∙ c.links.invariant.next;
      looks = omega (arith, ap (λ (n : ℕ). looks_in t n c.args.byte) link, led.1, c.links.invariant.looks, c.tick.ensures.one_more);
      room = omega (arith, ap (depth_below_rows t) link, is.1, c.links.invariant.room, c.tick.ensures.one_more);
    }
