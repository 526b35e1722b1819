use Rattle.std.proofs.Common.{◌≡◌, ◌-◌, true, drop, length, sym, take, ap, ◌∙◌, arith, length-drop}
use Rattle.std.proofs.lemmas.List.{take_all}
use Rattle.aho_prefilter.specs.Windows.{begins_often}
use Rattle.aho_prefilter.proofs.WindowsFinds.{bytes_before-more}
use Rattle.aho_prefilter.proofs.windows.bytes_before.Goals as goal

pub loop-place-preserved : goal.loop-place-preserved
loop-place-preserved c =
    let rule = c.args.ignore_case in
    let pattern = c.args.pattern.now in
    let place = c.loop-place.place in
    let whole : take (length pattern - place) (drop place pattern) ≡ drop place pattern = take_all (length pattern - place) (drop place pattern) (omega (arith, length-drop place pattern)) in
    let often : begins_often rule (drop place pattern) ≡ true = sym (ap (begins_often rule) whole) ∙ sym c.begins_often.ensures.often ∙ c.if-not-begins_often.false in
    omega (arith, c.loop-place.invariant, bytes_before-more rule pattern place c.loop-place-test.true often)
