use Rattle.std.proofs.Common.{ℕ, ◌<◌, ◌≤◌, ◌^◌, arith}
use Rattle.std.proofs.Math.Nat.{pow-le-pow_left, pow-le-pow_right}
use Rattle.aho_prefilter.proofs.strided.sizes.Shape.is_crowded.Goals as goal

few_grams : (letters gram : ℕ) → letters ≤ 8 → gram ≤ 8 → letters ^ gram < 2 ^ 64
few_grams letters gram few short =
    let below : letters ^ gram ≤ 8 ^ gram = pow-le-pow_left few gram in
    let most : 8 ^ gram ≤ 8 ^ 8 = pow-le-pow_right (omega arith) short in
    omega arith

pub pow-requires : goal.pow-requires
pow-requires c =
    let gram : c.args.gram ≤ 8 = omega (arith, c.requires.gram) in
    few_grams c.args.self.letters c.args.gram c.if-self-gt8.false gram
