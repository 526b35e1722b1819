use Rattle.std.proofs.Common.{rules, arith, ◌≡◌, ◌+◌, ◌≤◌, length, take, drop, ◌++◌, sym, ◌∙◌, ap, subst}
use Rattle.std.specs.Io.KnownBytes.{Appends}
use Rattle.std.proofs.KnownBytes.{Appends-trans}
use Rattle.std.proofs.lemmas.List.{take_rest, length-drop}
use Rattle.std.proofs.Math.Seq.{take-add, drop-drop}
use Rattle.aho_devices.proofs.write.write_whole.Goals as goal

pub loop-rest-preserved : goal.loop-rest-preserved
loop-rest-preserved g c =
    let (at, below, gone, taken, untouched, failures, empty) = c.loop-rest.invariant in
    let n = c.in-Ok.count in
    let piece = c.args.piece.now in
    let rest = c.loop-rest.rest.now in
    let fits : n ≤ length rest = c.in-Ok.ensures.within in
    let more : take at piece ++ take n rest ≡ take (at + n) piece =
    ap (λ r. take at piece ++ take n r) gone ∙ sym (take-add at n piece) in (
      at + n,
      omega (arith, ap length gone, length-drop at piece),
      take_rest rest n ∙ ap (drop n) gone ∙ search (rules, drop-drop),
      subst (Appends _ _) more (Appends-trans _ _ _ _ _ taken c.in-Ok.ensures.taken),
      (λ none. absurd (c.in-Ok.count-test.1 (omega (arith, none)))),
      c.in-Ok.ensures.failures ∙ failures,
      search rules,
    )
