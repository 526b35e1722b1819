-- The state that a step leads to, as the loop of a step comes to it.
use Rattle.std.proofs.Common.{◌≡◌, ◌≢◌, ℕ, zero, suc, ◌+◌, ◌<◌, true, List, nat_eq, sym, ◌∙◌, ap, arith, ne_eqb, eq-eqb}
use Rattle.std.proofs.lemmas.Bool.{cond-true, cond-false}
use Rattle.std.proofs.lemmas.Bool.Decides.{nat_tests}
use Rattle.aho_core.specs.declared.search.Anchored.{Anchored}
use Rattle.aho_core.specs.declared.search.Anchored.TheVariants.{No, Yes}
use Rattle.aho_table.specs.Table.{State, dead_id, fail_id, next_in, fail_in}
use Rattle.aho_build.specs.Walking.{IsSound, links_left, step_along, step_in}

module _ (states : List State) (byte : ℕ) where
  -- a state that takes the byte
  pub along-taken : (anchored : Anchored) (left sid : ℕ) → 0 < left → next_in states sid byte ≢ fail_id → step_along states anchored byte left sid ≡ next_in states sid byte
  along-taken anchored zero sid some other = absurd (omega arith)
  along-taken No (suc left) sid some other = cond-false (nat_eq (next_in states sid byte) fail_id) _ _ (ne_eqb (next_in states sid byte) 1 other)
  along-taken Yes (suc left) sid some other = cond-false (nat_eq (next_in states sid byte) fail_id) _ _ (ne_eqb (next_in states sid byte) 1 other)

  -- one that doesn't ends an anchored step
  pub along-ended : (anchored : Anchored) (left sid : ℕ) → anchored ≡ Yes → 0 < left → next_in states sid byte ≡ fail_id → step_along states anchored byte left sid ≡ dead_id
  along-ended anchored zero sid is some none = absurd (omega arith)
  along-ended No (suc left) sid is some none = cc
  along-ended Yes (suc left) sid is some none = cond-true (nat_eq (next_in states sid byte) fail_id) _ _ (eq-eqb (next_in states sid byte) 1 none)

  -- and an unanchored one goes on at its link
  pub along-linked : (anchored : Anchored) (left sid : ℕ) → anchored ≡ No → 0 < left → next_in states sid byte ≡ fail_id → (fewer : ℕ) × (left ≡ fewer + 1) × (step_along states anchored byte left sid ≡ step_along states anchored byte fewer (fail_in states sid))
  along-linked anchored zero sid is some none = absurd (omega arith)
  along-linked Yes (suc left) sid is some none = cc
  along-linked No (suc left) sid is some none = (left, omega arith, cond-true (nat_eq (next_in states sid byte) fail_id) _ _ (eq-eqb (next_in states sid byte) 1 none))

  -- DEAD leads to DEAD
  pub dead-stays : (anchored : Anchored) (sid : ℕ) → IsSound states → byte < 256 → nat_eq sid dead_id ≡ true → nat_eq (step_in states anchored sid byte) dead_id ≡ true
  dead-stays anchored sid sound small is_dead =
      let dead : sid ≡ 0 = grind (arith, nat_tests) in
      let stays : next_in states sid byte ≡ 0 = ap (λ (n : ℕ). next_in states n byte) dead ∙ sound.dead_next byte small in
      eq-eqb (step_in states anchored sid byte) 0 (along-taken anchored (links_left states sid + 1) sid (omega arith) (λ e. let clash : 0 ≡ 1 = sym stays ∙ e in cc) ∙ stays)
