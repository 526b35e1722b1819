use Rattle.std.proofs.Common.{◌≡◌, ◌≢◌, ◌↔◌, ℕ, ◌+◌, ◌-◌, ◌<◌, ◌≤◌, ◌^◌, List, get_or, sym, ap, ◌∙◌, inl, inr, arith, w64}
use Rattle.std.proofs.lemmas.Bool.{cases_lt}
use Rattle.std.proofs.lemmas.List.{get_or_past}
use Rattle.std.proofs.lemmas.Nat.Bits.{bit_at-trailing_zeros, bit_at-zero}
use Rattle.std.specs.Int.{bit_at}
use Rattle.std.specs.Int.Count.{count_trailing_zeros}
use Rattle.memchr.specs.Find.{NoneBefore}
use Rattle.aho_prefilter.specs.Packed.{HasLanes, MeetsAt, groups_at}
use Rattle.aho_prefilter.specs.declared.packed.Packed.{Packed}
use Rattle.aho_prefilter.proofs.packed.Packed.find_in_block.Goals as goal

module _ (packed : Packed) (bytes lanes : List ℕ) (at met : ℕ) (groups : HasLanes lanes (λ k. groups_at packed bytes (at + k))) (bits : (k : ℕ) → (bit_at met k ≡ 1) ↔ (get_or lanes k 0 ≢ 0)) where
  -- a place that meets some group has its bit
  has_bit : (k : ℕ) → at ≤ k → k < at + 32 → MeetsAt packed bytes k → bit_at met (k - at) ≡ 1
  has_bit k low high meets =
      let e : at + (k - at) ≡ k = omega arith in
      (bits (k - at)).1 (λ none. meets (sym (ap (groups_at packed bytes) e) ∙ sym (groups.each (k - at) (omega arith)) ∙ none))

  no_bit : met ≡ 0 → (k : ℕ) → at ≤ k → k < at + 32 → MeetsAt packed bytes k → ⊥
  no_bit none k low high meets =
      let set = has_bit k low high meets in
      let unset : bit_at met (k - at) ≡ 0 = ap (λ m. bit_at m (k - at)) none ∙ bit_at-zero (k - at) in
      omega arith

  lowest_bit : met ≢ 0 → met < 2 ^ 64 → NoneBefore (MeetsAt packed bytes) at (at + 32) (at + count_trailing_zeros 64 met) × MeetsAt packed bytes (at + count_trailing_zeros 64 met)
  lowest_bit some small =
      let lowest = bit_at-trailing_zeros w64 met (omega (arith, some)) small in
      let lane = count_trailing_zeros 64 met in
      let set = (bits lane).0 lowest.1 in
      let below : lane < 32 = elim (cases_lt lane 32) [ inl less ↦ less | inr past ↦ absurd (set (get_or_past lanes lane 0 (omega (arith, groups.long)))) ] in (
        record {
          low = omega arith;
          high = omega arith;
          before = λ k low high meets.
              let one = has_bit k low (omega arith) meets in
              let none = lowest.2 (k - at) (omega arith) in
              omega arith;
        },
        λ none. set (groups.each lane below ∙ none),
      )

pub returns-then-met-eq0 : goal.returns-then-met-eq0
returns-then-met-eq0 c = record { first = no_bit c.args.self.now c.args.bytes.now c.groups.result c.args.at c.lanes_met-met.result c.groups.ensures.groups c.lanes_met-met.ensures.met c.if-met-eq0.true }

pub returns : goal.returns
returns c = record { first = lowest_bit c.args.self.now c.args.bytes.now c.groups.result c.args.at c.lanes_met-met.result c.groups.ensures.groups c.lanes_met-met.ensures.met c.if-met-eq0.false (omega (arith, c.lanes_met-met.type_inv)) }
