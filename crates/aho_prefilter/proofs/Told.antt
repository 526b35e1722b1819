-- The places that the bits of a number tell, one after another.
use Rattle.std.proofs.Common.{◌≡◌, ◌≢◌, ℕ, ◌+◌, ◌-◌, ◌/◌, ◌%◌, ◌^◌, ◌<◌, ◌≤◌, inl, inr, List, sym, ap, subst, ◌∙◌, arith, w64}
use Rattle.std.specs.Prelude.{Some}
use Rattle.std.proofs.Math.Nat.{div-div-eq-div-mul, div-le_self}
use Rattle.std.proofs.lemmas.Bool.{cases_lt}
use Rattle.std.proofs.lemmas.Nat.{pow-add}
use Rattle.std.proofs.lemmas.Nat.Bits.{bit_at-trailing_zeros, bit_at-zero}
use Rattle.std.specs.Int.{bit_at}
use Rattle.std.specs.Int.Count.{count_trailing_zeros}
use Rattle.memchr.specs.Find.{IsFirst, Nowhere}
use Rattle.aho_prefilter.specs.Heads.{HeadMarks, StandsHead}
use Rattle.aho_prefilter.specs.PackedHeads.{TellsHeadAt}

-- what a loop knows that moves on by one place in each turn at least: before the place none is told that has its head, and the
-- bits that are left tell those from it on
pub record AreLeft (heads : HeadMarks) (bytes : List ℕ) (at met left place turn : ℕ) : Type 0 where
  pub turns : at + turn ≤ place
  pub within : place ≤ at + 32
  pub small : left < 2 ^ 64
  pub bits : (k : ℕ) → bit_at left k ≡ bit_at met (place - at + k)
  pub none : Nowhere (TellsHeadAt heads bytes at met) at place

-- the bits behind some
bit_at-behind : (left skipped k : ℕ) → bit_at (left / 2 ^ skipped / 2 ^ 1) k ≡ bit_at left (skipped + 1 + k)
bit_at-behind left skipped k =
    ap (λ n. n % 2)
    (ap (λ n. n / 2 ^ k) (div-div-eq-div-mul left (2 ^ skipped) (2 ^ 1) ∙ ap (λ n. left / n) (sym (pow-add 2 skipped 1)))
    ∙ div-div-eq-div-mul left (2 ^ (skipped + 1)) (2 ^ k)
    ∙ ap (λ n. left / n) (sym (pow-add 2 (skipped + 1) k)))

module _ (heads : HeadMarks) (bytes : List ℕ) (at met : ℕ) where
  -- all bits are left at the begin
  pub AreLeft-all : met < 2 ^ 64 → AreLeft heads bytes at met met at 0
  AreLeft-all small = record {
    turns = omega arith;
    within = omega arith;
    small = small;
    bits = λ k. ap (λ n. bit_at met n) (omega arith);
    none = λ k low high told. absurd (omega arith);
  }

  module _ (left place turn : ℕ) (are : AreLeft heads bytes at met left place turn) where
    -- a place that is told is before or has its bit
    told-before : (k : ℕ) → at ≤ k → place ≤ k → TellsHeadAt heads bytes at met k → bit_at left (k - place) ≡ 1
    told-before k low from told =
        let turns : at + turn ≤ place = are.turns in
        are.bits (k - place) ∙ ap (λ n. bit_at met n) (omega arith) ∙ told.told

    -- where no bit is left there is none
    pub Nowhere-left : left ≡ 0 → Nowhere (TellsHeadAt heads bytes at met) at (at + 32)
    Nowhere-left nothing k low high told =
        elim (cases_lt k place) [
          | inl before ↦ are.none k low before told
          | inr from ↦
              let set = told-before k low from told in
              let unset : bit_at left (k - place) ≡ 0 = ap (λ n. bit_at n (k - place)) nothing ∙ bit_at-zero (k - place) in
              omega arith
        ]

    -- nor behind as many turns as there are places
    pub Nowhere-turns : 32 ≤ turn → Nowhere (TellsHeadAt heads bytes at met) at (at + 32)
    Nowhere-turns all k low high told = are.none k low (omega (arith, are.turns)) told

    module _ (few : (k : ℕ) → bit_at met k ≡ 1 → k < 32) (some : left ≢ 0) where
      lowest : bit_at left (count_trailing_zeros 64 left) ≡ 1
      lowest = (bit_at-trailing_zeros w64 left (omega (arith, some)) are.small).1

      -- the next place that is told
      next_told : bit_at met (place + count_trailing_zeros 64 left - at) ≡ 1
      next_told =
          let turns : at + turn ≤ place = are.turns in
          ap (λ n. bit_at met n) (omega arith) ∙ sym (are.bits (count_trailing_zeros 64 left)) ∙ lowest

      pub next_within : place + count_trailing_zeros 64 left < at + 32
      next_within = omega (arith, few _ next_told, are.turns)

      -- before it none is told
      none-between : Nowhere (TellsHeadAt heads bytes at met) at (place + count_trailing_zeros 64 left)
      none-between k low high told =
          elim (cases_lt k place) [
            | inl before ↦ are.none k low before told
            | inr from ↦
                let set = told-before k low from told in
                let unset = (bit_at-trailing_zeros w64 left (omega (arith, some)) are.small).2 (k - place) (omega arith) in
                omega arith
          ]

      -- it is the first one, if it has its head
      pub IsFirst-next : StandsHead heads bytes (place + count_trailing_zeros 64 left)
          → IsFirst (TellsHeadAt heads bytes at met) at (at + 32) (Some (place + count_trailing_zeros 64 left))
      IsFirst-next head = (
        record { low = omega (arith, are.turns); high = next_within; before = none-between },
        record { told = next_told; head = head },
      )

      -- and else the bits behind it are left
      pub AreLeft-next : (StandsHead heads bytes (place + count_trailing_zeros 64 left) → ⊥)
          → AreLeft heads bytes at met (left / 2 ^ count_trailing_zeros 64 left / 2 ^ 1) (place + count_trailing_zeros 64 left + 1) (turn + 1)
      AreLeft-next not =
          let skipped = count_trailing_zeros 64 left in
          let turns : at + turn ≤ place = are.turns in
          record {
            turns = omega arith;
            within = omega (arith, next_within);
            small = omega (arith, are.small, div-le_self left (2 ^ skipped), div-le_self (left / 2 ^ skipped) (2 ^ 1));
            bits = λ k. bit_at-behind left skipped k ∙ are.bits (skipped + 1 + k) ∙ ap (λ n. bit_at met n) (omega arith);
            none = λ k low high told.
                elim (cases_lt k (place + skipped)) [
                  | inl before ↦ none-between k low before told
                  | inr from ↦ not (subst (StandsHead heads bytes) (omega arith) told.head)
                ];
          }
