-- What fits stands behind the bytes that are kept.
use Rattle.std.proofs.Common.{◌≡◌, ◌≤◌, ◌++◌, ◌∙◌, ap, sym, refl, subst, arith, take, length, List, ℕ, length-append, length-take-le, take-take}
use Rattle.aho_stream.specs.After.{EndsWith}
use Rattle.aho_stream.proofs.GivenBytes.{EndsWith-append}
use Rattle.aho_stream.proofs.progress.StreamProgress.add.Goals as goal

pub returns-clause-adds : goal.returns-clause-adds
returns-clause-adds c =
    let n = c.push-count.result in
    let bytes = c.args.bytes.now in
    let roomy = c.make_room.new.buffer in
    let most = c.min-most.result in
    let fits : most ≤ length bytes = omega (arith, c.min-most.ensures) in
    let few : n ≤ most = omega (arith, c.push-count.ensures.within, length-take-le most bytes fits) in
    let held : c.push-count.new.self.bytes ≡ roomy.bytes ++ take n bytes = c.push-count.ensures.held ∙ ap (λ (xs : List ℕ). roomy.bytes ++ xs) (take-take n most bytes few) in
    let long : length (take n bytes) ≡ n = length-take-le n bytes (omega (arith, few, fits)) in
    record {
      others = refl;
      count = omega (arith, long);
      limited = omega (arith, few, c.min-most.ensures, c.requires.limited);
      least = c.push-count.ensures.least ∙ c.make_room.ensures.least;
      size = c.push-count.ensures.size ∙ c.make_room.ensures.size;
      last = λ given e. subst (EndsWith (given ++ take n bytes)) (sym held) (EndsWith-append given roomy.bytes (take n bytes) (c.make_room.ensures.last given e));
      kept = omega (arith, long, ap length held, length-append roomy.bytes (take n bytes), c.make_room.ensures.kept);
    }
