-- Blocks of thirty-two places, of which bits tell those that meet a group.
use Rattle.std.proofs.Common.{◌≡◌, ℕ, ◌+◌, ◌-◌, ◌*◌, ◌<◌, ◌≤◌, inl, inr, List, subst, arith}
use Rattle.std.specs.Prelude.{Option, Some, None}
use Rattle.std.proofs.lemmas.Bool.{cases_lt}
use Rattle.std.proofs.lemmas.Nat.Bits.{bit_at-zero}
use Rattle.std.specs.Int.{bit_at}
use Rattle.memchr.specs.Find.{IsFirst, Nowhere}
use Rattle.aho_prefilter.specs.PackedHeads.{AreBitsOf, IsBlock, MeetsBy, MeetsHeadAt, MeetsTestedAt, TellsHeadAt}
use Rattle.aho_prefilter.specs.declared.packed_heads.Block.{Block}
use Rattle.aho_prefilter.specs.declared.packed_heads.PackedHeads.{PackedHeads}
use Rattle.aho_prefilter.specs.declared.packed_heads.Tested.{Tested}

module _ (tested : Tested) (search : PackedHeads) (bytes : List ℕ) where
  -- where no bit is set no place meets a group
  pub Nowhere-zero : (at : ℕ) → AreBitsOf tested search bytes at 0 → Nowhere (MeetsBy tested search bytes) at (at + 32)
  Nowhere-zero at bits k low high meets =
      let e : k ≡ at + (k - at) = omega arith in
      let set : bit_at 0 (k - at) ≡ 1 = (bits.each (k - at) (omega arith)).1 (subst (MeetsBy tested search bytes) e meets) in
      let unset : bit_at 0 (k - at) ≡ 0 = bit_at-zero (k - at) in
      omega arith

  -- a block more of which no place meets a group
  pub Nowhere-more : (from number met : ℕ) → Nowhere (MeetsBy tested search bytes) from (number * 32) → AreBitsOf tested search bytes (number * 32) met → met ≡ 0
      → Nowhere (MeetsBy tested search bytes) from ((number + 1) * 32)
  Nowhere-more from number met before bits none k low high =
      elim (cases_lt k (number * 32)) [
        | inl sooner ↦ before k low sooner
        | inr late ↦ Nowhere-zero (number * 32) (subst (AreBitsOf tested search bytes (number * 32)) none bits) k late (omega arith)
      ]

module _ (search : PackedHeads) (bytes : List ℕ) where
  -- of the places of a block those are told that meet a group
  module _ (at met : ℕ) (bits : AreBitsOf search.tested search bytes at met) where
    tells : (k : ℕ) → at ≤ k → k < at + 32 → MeetsHeadAt search bytes k → TellsHeadAt search.heads bytes at met k
    tells k low high meets =
        let e : k ≡ at + (k - at) = omega arith in
        record { told = (bits.each (k - at) (omega arith)).1 (subst (MeetsTestedAt search bytes) e meets.meets); head = meets.head }

    told_meets : (k : ℕ) → at ≤ k → k < at + 32 → TellsHeadAt search.heads bytes at met k → MeetsHeadAt search bytes k
    told_meets k low high told =
        let e : at + (k - at) ≡ k = omega arith in
        record { meets = subst (MeetsTestedAt search bytes) e ((bits.each (k - at) (omega arith)).0 told.told); head = told.head }

    first_told : (r : Option ℕ) → IsFirst (TellsHeadAt search.heads bytes at met) at (at + 32) r → IsFirst (MeetsHeadAt search bytes) at (at + 32) r
    first_told None none = λ k low high meets. none k low high (tells k low high meets)
    first_told (Some place) found = (
      record {
        low = found.0.low;
        high = found.0.high;
        before = λ k low high meets. found.0.before k low high (tells k low (omega (arith, high, found.0.high)) meets);
      },
      told_meets place found.0.low found.0.high found.1,
    )

  module _ (from blocks : ℕ) (before : Nowhere (MeetsHeadAt search bytes) 0 (from * 32)) where
    module _ (block : Block) (is : IsBlock search.tested search bytes from blocks block) where
      before-block : Nowhere (MeetsHeadAt search bytes) 0 (block.number * 32)
      before-block k low high meets =
          elim (cases_lt k (from * 32)) [ inl sooner ↦ before k low sooner meets | inr late ↦ is.none k late high meets.meets ]

      -- none in the block
      pub Nowhere-block : Nowhere (TellsHeadAt search.heads bytes (block.number * 32) block.met) (block.number * 32) (block.number * 32 + 32)
          → Nowhere (MeetsHeadAt search bytes) 0 ((block.number + 1) * 32)
      Nowhere-block none k low high meets =
          elim (cases_lt k (block.number * 32)) [
            | inl sooner ↦ before-block k low sooner meets
            | inr late ↦ first_told (block.number * 32) block.met is.bits None none k late (omega arith) meets
          ]

      -- the first one is in the block
      pub IsFirst-block : (place : ℕ) → IsFirst (TellsHeadAt search.heads bytes (block.number * 32) block.met) (block.number * 32) (block.number * 32 + 32) (Some place)
          → IsFirst (MeetsHeadAt search bytes) 0 (blocks * 32) (Some place)
      IsFirst-block place found =
          let first = first_told (block.number * 32) block.met is.bits (Some place) found in
          let last : (block.number + 1) * 32 ≤ blocks * 32 = omega (arith, is.high) in (
            record {
              low = omega arith;
              high = omega (arith, first.0.high);
              before = λ k low high meets.
                  elim (cases_lt k (block.number * 32)) [
                    | inl sooner ↦ before-block k low sooner meets
                    | inr late ↦ first.0.before k late high meets
                  ];
            },
            first.1,
          )
