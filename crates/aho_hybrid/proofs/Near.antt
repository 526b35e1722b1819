-- A row that is near tells where bytes lead from a state whose links lead to it.
use Rattle.std.proofs.Common.{◌≡◌, ◌≢◌, ℕ, zero, suc, ◌+◌, ◌<◌, ◌≤◌, Bool, true, false, List, [], ◌∷◌, ◌++◌, length, get_or, set, nat_eq, refl, sym, ap, subst, ◌∙◌, inl, inr, arith, eq-eqb, eqb-true, ne_eqb, get_or-set_same, get_or-set_other}
use Rattle.std.proofs.lemmas.Bool.{both_ways, cases_eq, cond-true, cond-false}
use Rattle.aho_core.specs.declared.search.Anchored.TheVariants.{No}
use Rattle.aho_build.proofs.StepResults.{along-linked, dead-stays}
use Rattle.aho_build.specs.Walking.{IsSound, IsState, links_left, step_along, step_in}
use Rattle.aho_table.proofs.TransitionLists.{transition_at-other, transition_at-same}
use Rattle.aho_table.specs.Alphabet.{class_count}
use Rattle.aho_table.specs.Table.{State, fail_id, fail_in, next_in, state_at, transition_at}
use Rattle.aho_hybrid.specs.Filled.{AreAlike, AreMarked, AreRows, HasRowBefore, IsPlan, IsStep, Parts, is_deep, leads_in, number_in, record_place, row_in, row_entries}
use Rattle.aho_hybrid.specs.Layout.{stride_of}
use Rattle.aho_hybrid.proofs.Counting.{row-before, rows_below}
use Rattle.aho_hybrid.proofs.Filling.{in-row}

-- a transition of another byte tells nothing of this one
elsewhere : (transitions : List (ℕ × ℕ)) (one : ℕ × ℕ) (byte : ℕ) → one.0 ≢ byte → transition_at (transitions ++ one ∷ []) byte ≡ transition_at transitions byte
elsewhere [] one byte other = transition_at-other one [] byte other
elsewhere (transition ∷ transitions) one byte other =
    elim (cases_eq transition.0 byte) [
      | inl same ↦ transition_at-same transition (transitions ++ one ∷ []) byte same ∙ sym (transition_at-same transition transitions byte same)
      | inr apart ↦
          transition_at-other transition (transitions ++ one ∷ []) byte apart
          ∙ elsewhere transitions one byte other
          ∙ sym (transition_at-other transition transitions byte apart)
    ]

-- one byte more is marked
pub marked-more : (transitions : List (ℕ × ℕ)) (one : ℕ × ℕ) (old mid : List Bool) → one.0 < length mid → AreMarked transitions old mid → AreMarked (transitions ++ one ∷ []) old (set mid one.0 true)
marked-more transitions one old mid within are byte clear =
    elim (cases_eq byte one.0) [
      | inl same ↦ absurd (both_ways (get_or (set mid one.0 true) byte true) clear (ap (λ (n : ℕ). get_or (set mid one.0 true) n true) same ∙ get_or-set_same mid one.0 true true within))
      | inr other ↦
          let before = are byte (sym (get_or-set_other mid one.0 byte true true other) ∙ clear) in
          (before.0, elsewhere transitions one byte (λ e. other (sym e)) ∙ before.1)
    ]

module _ (states : List State) (sound : IsSound states) where
  -- with more states than may be looked at a step is the same
  enough : (byte left other sid : ℕ) → byte < 256 → IsState states sid → links_left states sid < left → links_left states sid < other
      → step_along states No byte left sid ≡ step_along states No byte other sid
  enough byte zero other sid small state less more = absurd (omega (arith, less))
  enough byte (suc left) zero sid small state less more = absurd (omega (arith, more))
  enough byte (suc left) (suc other) sid small state less more =
      elim (cases_eq (next_in states sid byte) fail_id) [
        | inl none ↦
            let nearer = sound.fail_nearer sid byte state small none in
            let test : nat_eq (next_in states sid byte) fail_id ≡ true = eq-eqb (next_in states sid byte) fail_id none in
            cond-true (nat_eq (next_in states sid byte) fail_id) _ _ test
            ∙ enough byte left other (fail_in states sid) small (sound.fail_state sid byte state small none) (omega (arith, nearer, less)) (omega (arith, nearer, more))
            ∙ sym (cond-true (nat_eq (next_in states sid byte) fail_id) (step_along states No byte other (fail_in states sid)) (next_in states sid byte) test)
        | inr some ↦
            let test : nat_eq (next_in states sid byte) fail_id ≡ false = ne_eqb (next_in states sid byte) fail_id some in
            cond-false (nat_eq (next_in states sid byte) fail_id) _ _ test
            ∙ sym (cond-false (nat_eq (next_in states sid byte) fail_id) (step_along states No byte other (fail_in states sid)) (next_in states sid byte) test)
      ]

  -- a byte that a state does not take leads as it leads from its link
  linked : (sid byte : ℕ) → byte < 256 → IsState states sid → next_in states sid byte ≡ fail_id → step_in states No (fail_in states sid) byte ≡ step_in states No sid byte
  linked sid byte small state none =
      let along = along-linked states byte No (links_left states sid + 1) sid refl (omega arith) none in
      let fewer : along.0 ≡ links_left states sid = omega (arith, along.1) in
      let nearer = sound.fail_nearer sid byte state small none in
      enough byte (links_left states (fail_in states sid) + 1) along.0 (fail_in states sid) small (sound.fail_state sid byte state small none) (omega arith) (omega (arith, fewer, nearer))
      ∙ sym along.2

  -- down to a link a byte leads alike that no state on the way takes
  pub alike-linked : (taken more : List Bool) (sid at : ℕ) → AreAlike states taken sid at → AreMarked (state_at states at).transitions taken more → AreAlike states more sid (fail_in states at)
  alike-linked taken more sid at alike marked byte small clear =
      let none = marked byte clear in
      let before = alike byte small none.0 in
      (sound.fail_state at byte before.0 small none.1, linked at byte small before.0 none.1 ∙ before.1)

  step-of_alike : (sid base byte : ℕ) → step_in states No base byte ≡ step_in states No sid byte → IsStep states base byte → IsStep states sid byte
  step-of_alike sid base byte same step = record {
    small = step.small;
    state = subst (IsState states) same step.state;
    dead_stays = λ dead. eqb-true (step_in states No sid byte) 0 (dead-stays states byte No sid sound step.small (eq-eqb sid 0 dead));
  }

module _ (plan : Parts) (words : ℕ) (planned : IsPlan plan words) (sound : IsSound plan.states) (index : ℕ) (entries : List ℕ) (low : ℕ) (rows : AreRows plan index entries low)
    (here : index < length plan.states) (base : ℕ) (has : HasRowBefore plan index base) where
  pub row-is : number_in plan base ≡ row_in plan base
  row-is =
      planned.numbered.number base (omega (arith, here, has.before))
      ∙ cond-false (is_deep plan.row_depth (state_at plan.states base)) (row_entries plan.row_depth plan.states plan.classes + record_place plan.row_depth plan.states base) (row_in plan base) has.shallow

  -- the row stands there
  pub row-there : (row : ℕ) → row ≡ number_in plan base → row + class_count plan.classes ≤ length entries
  row-there row is =
      omega
      (arith, is, row-is, in-row (rows_below plan.row_depth plan.states base) (class_count plan.classes) (rows_below plan.row_depth plan.states index) (stride_of plan.classes) (row-before plan.row_depth plan.states base index has.before (omega (arith, here)) has.shallow) (omega arith), rows.sized)

  -- and tells of each byte that is not taken
  pub row-tells : (sid row class : ℕ) (taken : List Bool) → AreAlike plan.states taken sid base → row ≡ number_in plan base → class < class_count plan.classes → get_or taken (get_or plan.firsts class 0) true ≡ false
      → (get_or entries (row + class) 0 ≡ number_in plan (leads_in plan sid class)) × IsStep plan.states sid (get_or plan.firsts class 0)
  row-tells sid row class taken alike is within clear =
      let step : IsStep plan.states base (get_or plan.firsts class 0) = subst (λ (n : ℕ). IsStep plan.states n (get_or plan.firsts class 0)) has.own (rows.step base class has.before has.shallow within) in
      let same = (alike (get_or plan.firsts class 0) step.small clear).1 in (
        ap (λ (n : ℕ). get_or entries (n + class) 0) (is ∙ row-is)
            ∙ rows.entry base class has.before has.shallow within
            ∙ ap (λ (n : ℕ). number_in plan (leads_in plan n class)) has.own
            ∙ ap (number_in plan) same,
        step-of_alike plan.states sound sid base (get_or plan.firsts class 0) same step,
      )
