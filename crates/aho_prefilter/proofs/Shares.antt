-- How many bytes meet a group, counted one by one.
use Rattle.std.proofs.Common.{◌≡◌, ℕ, ◌+◌, ◌*◌, ◌≤◌, ◌^◌, suc, refl, ap, arith, max}
use Rattle.std.specs.Int.{bit_at}
use Rattle.std.proofs.Math.Nat.{mul-le-mul}
use Rattle.std.proofs.lemmas.Nat.Bits.{bit_at-lt}
use Rattle.aho_prefilter.specs.Density.{places_below, places_met_by, share_below, weight}
use Rattle.aho_prefilter.specs.Packed.{groups_of}
use Rattle.aho_prefilter.specs.declared.packed.Masks.{Masks}
use Rattle.aho_prefilter.specs.declared.packed_heads.PackedHeads.{PackedHeads}

pub share_below-none : (masks : Masks) (least group : ℕ) → 0 ≡ share_below masks least group 0
unfolding share_below
share_below-none masks least group = refl

pub share_below-more : (masks : Masks) (least group byte : ℕ)
    → share_below masks least group (byte + 1) ≡ share_below masks least group byte + max (weight byte) least * bit_at (groups_of masks byte) group
unfolding share_below
share_below-more masks least group byte =
    let next : byte + 1 ≡ suc byte = omega arith in
    ap (λ n. share_below masks least group n) next

-- a bit's share of a number is at most the number
pub one_bit : (n groups group : ℕ) → n ≤ 128 → n * bit_at groups group ≤ 128
one_bit n groups group few =
    let bit : bit_at groups group ≤ 1 = omega (arith, bit_at-lt groups group) in
    omega (arith, mul-le-mul few bit)

pub places_below-none : (search : PackedHeads) (least : ℕ) → 0 ≡ places_below search least 0
unfolding places_below
places_below-none search least = refl

pub places_below-more : (search : PackedHeads) (least group : ℕ) → places_below search least (group + 1) ≡ places_below search least group + places_met_by search least group
unfolding places_below
places_below-more search least group =
    let next : group + 1 ≡ suc group = omega arith in
    ap (λ n. places_below search least n) next

pub product-few : (a b c d : ℕ) → a ≤ 2 ^ 15 → b ≤ 2 ^ 15 → c ≤ 2 ^ 15 → d ≤ 2 ^ 15 → a * b * (c * d) ≤ 2 ^ 60
product-few a b c d = λ first second third fourth. mul-le-mul (mul-le-mul first second) (mul-le-mul third fourth)
