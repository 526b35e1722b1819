use Rattle.std.proofs.Common.{◌≡◌, ◌*◌, ◌/◌, ◌^◌, ◌≤◌, ap, ◌∙◌, arith, max}
use Rattle.std.specs.Prelude.{bit_and}
use Rattle.std.specs.Int.{bit_at}
use Rattle.std.proofs.lemmas.Nat.Bits.{shr_and_one}
use Rattle.aho_prefilter.specs.Density.{weight}
use Rattle.aho_prefilter.specs.Packed.{groups_of}
use Rattle.aho_prefilter.proofs.Shares.{one_bit, share_below-more, share_below-none}
use Rattle.aho_prefilter.proofs.density.share.Goals as goal

pub loop-number-init : goal.loop-number-init
loop-number-init c = (share_below-none c.args.masks.now c.args.least c.args.group, omega arith)

pub loop-number-preserved : goal.loop-number-preserved
loop-number-preserved c =
    let number = c.loop-number.number in
    let masks = c.args.masks.now in
    let least = c.args.least in
    let group = c.args.group in
    let bit = bit_at c.groups_of.result group in
    let one : bit_and (c.groups_of.result / 2 ^ group) 1 ≡ bit = shr_and_one c.groups_of.result group in
    let added : c.weight_from.result * bit_and (c.groups_of.result / 2 ^ group) 1 ≡ c.weight_from.result * bit = ap (λ n. c.weight_from.result * n) one in
    let few : c.weight_from.result * bit ≤ 128 = one_bit c.weight_from.result c.groups_of.result group c.weight_from.ensures.few in
    let same : c.weight_from.result * bit ≡ max (weight number) least * bit_at (groups_of masks number) group =
    ap (λ n. n * bit) c.weight_from.ensures.weight
    ∙ ap (λ n. max (weight number) least * bit_at n group) c.groups_of.ensures.groups in (
      omega (arith, c.loop-number.invariant.0, added, same, share_below-more masks least group number),
      omega (arith, c.loop-number.invariant.1, added, few),
    )
