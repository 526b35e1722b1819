-- What the operations on vectors of 32 bytes hold at each lane.
use Rattle.std.proofs.Common.{◌≡◌, ◌≢◌, ◌↔◌, ℕ, Bool, true, false, not, cond, eqb, map, ◌+◌, ◌*◌, ◌/◌, ◌%◌, ◌<◌, List, length, get_or, replicate, refl, sym, ap, ◌∙◌, arith, w8}
use Rattle.std.specs.Simd.Lanes.{mask_l, zip2}
use Rattle.std.proofs.lemmas.Simd.{bit_mask_l, Each1-from_get_or, SwzOk, SwzOk-from_below, get_or-replicate, get_or-swz_l_below, get_or-zip2, length-swz_l, length-zip2, swz_l}
use Rattle.std.proofs.lemmas.Bool.Decides.{nat_tests}
use Rattle.std.specs.Int.{bit_at}
use Rattle.std.proofs.Math.ListN.{get_or-map}
use Rattle.aho_prefilter.specs.Packed.{HasLanes}

-- an operator on two vectors
pub HasLanes-zip2 : (f : ℕ → ℕ → ℕ) (a b : List ℕ) → length a ≡ 32 → length b ≡ 32 → HasLanes (zip2 f a b) (λ k. f (get_or a k 0) (get_or b k 0))
HasLanes-zip2 f a b p q = record {
  long = length-zip2 f a b (p ∙ sym q) ∙ p;
  each = λ k l. get_or-zip2 f a b k 0 0 0 (omega arith) (omega arith);
}

-- an operator on a vector and the same number in each lane
pub HasLanes-splat : (f : ℕ → ℕ → ℕ) (a : List ℕ) (x : ℕ) → length a ≡ 32 → HasLanes (zip2 f a (replicate 32 x)) (λ k. f (get_or a k 0) x)
HasLanes-splat f a x p =
    let h = HasLanes-zip2 f a (replicate 32 x) p refl in
    record { long = h.long; each = λ k l. h.each k l ∙ ap (f (get_or a k 0)) (get_or-replicate 32 k x 0 l) }

module _ (places : List ℕ) (f : ℕ → ℕ) (lanes : HasLanes places f) (small : (k : ℕ) → k < 32 → f k < 16) where
  -- places below 16 may be looked up
  pub SwzOk-small : SwzOk w8 16 32 0 places
  SwzOk-small =
      let long = lanes.long in
      SwzOk-from_below w8 16 2 32 0 places refl (omega arith) (Each1-from_get_or (λ j. j < 16) places 0 (λ i l. omega (arith, lanes.each i (omega arith), small i (omega arith))))

  -- what is looked up at them in a vector: each half of it is a table
  HasLanes-halves : (tables : List ℕ) → HasLanes (swz_l w8 16 tables 0 places) (λ k. get_or tables (16 * (k / 16) + f k) 0)
  HasLanes-halves tables =
      let long = lanes.long in
      record {
        long = length-swz_l w8 16 tables 0 places ∙ long;
        each = λ k l.
            let e = lanes.each k l in
            get_or-swz_l_below w8 16 tables 0 places k (omega arith) (omega (arith, small k l)) ∙ ap (λ j. get_or tables j 0) (omega arith);
      }

  -- and where both are the same one
  pub HasLanes-look_up : (table tables : List ℕ) → HasLanes tables (λ k. get_or table (k % 16) 0) → HasLanes (swz_l w8 16 tables 0 places) (λ k. get_or table (f k) 0)
  HasLanes-look_up table tables twice =
      let halves = HasLanes-halves tables in
      record {
        long = halves.long;
        each = λ k l.
            let below = small k l in
            halves.each k l ∙ twice.each (16 * (k / 16) + f k) (omega arith) ∙ ap (λ j. get_or table j 0) (omega arith);
      }

-- the test of a lane
abbrev pub is_met : ℕ → Bool
is_met x = not (eqb x 0)

bit_tells : (x : ℕ) → (cond {A = ℕ} (is_met x) 1 0 ≡ 1) ↔ (x ≢ 0)
bit_tells x = by_test (is_met x) refl
  where
    by_test : (met : Bool) → is_met x ≡ met → (cond {A = ℕ} met 1 0 ≡ 1) ↔ (x ≢ 0)
    by_test true is = (λ h none. absurd (grind (arith, nat_tests, is, none)), λ some. refl)
    by_test false is = (λ h. absurd (omega arith), λ some. absurd (some (grind (arith, nat_tests, is))))

-- a bit of the mask of the lanes that are not 0
pub bit_at-met : (lanes : List ℕ) (k : ℕ) → (bit_at (mask_l (map is_met lanes)) k ≡ 1) ↔ (get_or lanes k 0 ≢ 0)
bit_at-met lanes k =
    let e : bit_at (mask_l (map is_met lanes)) k ≡ cond (is_met (get_or lanes k 0)) 1 0 = bit_mask_l (map is_met lanes) k ∙ ap (λ b. cond b 1 0) (get_or-map is_met lanes k 0) in
    let t = bit_tells (get_or lanes k 0) in
    (λ h. t.0 (sym e ∙ h), λ h. e ∙ t.1 h)
