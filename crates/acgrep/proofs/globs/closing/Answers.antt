-- An item more was passed.
use Rattle.std.proofs.Common.{◌∙◌, ◌∷◌, ◌≡◌, ap, arith, length, rules}
use Rattle.acgrep.proofs.Globbed.{closes_first, closes_more, passed_first}
use Rattle.acgrep.proofs.globs.closing.Goals as goal

pub loop-first-init : goal.loop-first-init
loop-first-init c =
    let cut : c.args.items.now ≡ c.in-Some.first.now ∷ c.in-Some.behind.now = search rules in
    record {
      closes = rw cut (closes_first _ _ _ c.item_len-len.ensures.len);
      within = omega (arith, passed_first c.in-Some.behind.now _ c.item_len-len.ensures.within, ap length cut);
    }

pub loop-first-preserved : goal.loop-first-preserved
loop-first-preserved c =
    let first = c.in-Some-split_first.first.now in
    let behind = c.in-Some-split_first.behind.now in
    let cut : c.loop-first.rest.now ≡ first ∷ behind = search rules in
    record {
      closes = (rw cut at c.loop-first.invariant.closes) ∙ closes_more c.loop-first.passed first behind _ c.if-first-eq93.false c.item_len-len-in-Some-split_first.ensures.len;
      within = omega (arith, c.loop-first.invariant.within, passed_first behind _ c.item_len-len-in-Some-split_first.ensures.within, ap length cut);
    }
