-- What a step of the states that are read out comes to: how deep it leads, and what a record tells of a byte.
use Rattle.std.proofs.Common.{◌≡◌, ◌≢◌, ◌⊎◌, ℕ, zero, suc, ◌+◌, ◌<◌, ◌≤◌, List, [], ◌∷◌, ◌++◌, true, false, nat_eq, refl, sym, ap, subst, ◌∙◌, inl, inr, arith, eq-eqb, ne_eqb}
use Rattle.std.specs.Prelude.{Option, Some, None, if◌then◌else◌}
use Rattle.std.specs.List.{All}
use Rattle.std.proofs.lemmas.Bool.{cases_eq, cond-true, cond-false}
use Rattle.std.proofs.lemmas.List.Elements.{All-head, All-tail}
use Rattle.aho_core.specs.declared.search.Anchored.TheVariants.{No}
use Rattle.aho_build.proofs.StepResults.{along-taken}
use Rattle.aho_build.specs.Walking.{IsSound, IsState, links_left, step_along}
use Rattle.aho_table.proofs.TransitionLists.{transition_at-other, transition_at-same}
use Rattle.aho_table.specs.Table.{IsRising, State, depth_in, fail_id, fail_in, next_in, transition_at}
use Rattle.aho_hybrid.specs.Filled.{flat, number_or_zero}
use Rattle.aho_hybrid.specs.Layout.{child_of}

module _ (states : List State) (sound : IsSound states) where
  -- a link leads no deeper
  pub link-depth : (sid fail : ℕ) → links_left states fail < links_left states sid → (fail ≡ 0) ⊎ (depth_in states fail < depth_in states sid)
  link-depth sid fail nearer =
      elim (cases_eq fail 0) [
        | inl dead ↦ inl dead
        | inr alive ↦
            elim (cases_eq sid 0) [
              | inl dead ↦
                  absurd (omega (arith, nearer, cond-true (nat_eq sid 0) 0 (depth_in states sid + 1) (eq-eqb sid 0 dead)))
              | inr other ↦
                  inr
                  (omega
                  (arith, nearer, cond-false (nat_eq fail 0) 0 (depth_in states fail + 1) (ne_eqb fail 0 alive), cond-false (nat_eq sid 0) 0 (depth_in states sid + 1) (ne_eqb sid 0 other)))
            ]
      ]

  -- a step leads one deeper at most
  pub step-near : (byte left sid : ℕ) → byte < 256 → IsState states sid → depth_in states (step_along states No byte left sid) ≤ depth_in states sid + 1
  step-near byte zero sid small ok = omega (arith, sound.dead_depth)
  step-near byte (suc left) sid small ok =
      elim (cases_eq (next_in states sid byte) fail_id) [
        | inl none ↦
            let link = sound.fail_state sid byte ok small none in
            let further = step-near byte left (fail_in states sid) small link in
            let led : step_along states No byte (suc left) sid ≡ step_along states No byte left (fail_in states sid) =
            cond-true (nat_eq (next_in states sid byte) fail_id) _ _ (eq-eqb (next_in states sid byte) fail_id none) in
            elim (link-depth sid (fail_in states sid) (sound.fail_nearer sid byte ok small none)) [
              | inl dead ↦ omega (arith, further, ap (depth_in states) led, ap (depth_in states) dead, sound.dead_depth)
              | inr less ↦ omega (arith, further, ap (depth_in states) led, less)
            ]
        | inr some ↦
            omega (arith, ap (depth_in states) (along-taken states byte No (suc left) sid (omega arith) some), sound.next_depth sid byte ok small some)
      ]

-- where a byte leads by transitions that are told: nowhere by one to FAIL
abbrev pub told : List ℕ → ℕ → Option ℕ
told numbers next = if nat_eq next 1 then None else Some (number_or_zero numbers next)

pub told-none : (numbers : List ℕ) (next : ℕ) → next ≡ 1 → told numbers next ≡ None
told-none numbers next is = cond-true (nat_eq next 1) None (Some (number_or_zero numbers next)) (eq-eqb next 1 is)

pub told-some : (numbers : List ℕ) (next : ℕ) → next ≢ 1 → told numbers next ≡ Some (number_or_zero numbers next)
told-some numbers next other = cond-false (nat_eq next 1) None (Some (number_or_zero numbers next)) (ne_eqb next 1 other)

-- a byte that is below those of a list is not in it
absent : (transitions : List (ℕ × ℕ)) (byte : ℕ) → All (λ later. byte < later.0) transitions → transition_at transitions byte ≡ 1
absent [] byte above = refl
absent (transition ∷ transitions) byte above =
    let first : byte < transition.0 = All-head (λ (later : ℕ × ℕ). byte < later.0) transition transitions above in
    transition_at-other transition transitions byte (λ e. omega (arith, e, first))
    ∙ absent transitions byte (All-tail (λ (later : ℕ × ℕ). byte < later.0) transition transitions above)

module _ (numbers : List ℕ) (byte : ℕ) where
  flat-first : (transition : ℕ × ℕ) (transitions : List (ℕ × ℕ)) → All (λ later. transition.0 < later.0) transitions
      → (child_of (flat numbers transitions) byte ≡ told numbers (transition_at transitions byte))
      → child_of (flat numbers (transition ∷ transitions)) byte ≡ told numbers (transition_at (transition ∷ transitions) byte)
  flat-first transition transitions above rest =
      elim (cases_eq transition.1 1) [
        | inl fails ↦
            let skipped : flat numbers (transition ∷ transitions) ≡ flat numbers transitions = cond-true (nat_eq transition.1 1) _ _ (eq-eqb transition.1 1 fails) in
            ap (λ (l : List ℕ). child_of l byte) skipped
            ∙ rest
            ∙ elim (cases_eq transition.0 byte) [
              | inl same ↦
                  let none : transition_at transitions byte ≡ 1 = absent transitions byte (subst (λ (n : ℕ). All (λ (later : ℕ × ℕ). n < later.0) transitions) same above) in
                  ap (told numbers) (none ∙ sym fails ∙ sym (transition_at-same transition transitions byte same))
              | inr other ↦ ap (told numbers) (sym (transition_at-other transition transitions byte other))
            ]
        | inr leads ↦
            let kept : flat numbers (transition ∷ transitions) ≡ transition.0 ∷ number_or_zero numbers transition.1 ∷ flat numbers transitions =
            cond-false (nat_eq transition.1 1) _ _ (ne_eqb transition.1 1 leads) in
            ap (λ (l : List ℕ). child_of l byte) kept
            ∙ elim (cases_eq transition.0 byte) [
              | inl same ↦
                  cond-true (nat_eq transition.0 byte) _ _ (eq-eqb transition.0 byte same)
                  ∙ sym (told-some numbers transition.1 leads)
                  ∙ ap (told numbers) (sym (transition_at-same transition transitions byte same))
              | inr other ↦
                  cond-false (nat_eq transition.0 byte) _ _ (ne_eqb transition.0 byte other)
                  ∙ rest
                  ∙ ap (told numbers) (sym (transition_at-other transition transitions byte other))
            ]
      ]

  -- the record of a state tells of a byte what the state's transitions do
  pub flat-child : (transitions : List (ℕ × ℕ)) → IsRising transitions → child_of (flat numbers transitions) byte ≡ told numbers (transition_at transitions byte)
  flat-child [] rising = refl
  flat-child (transition ∷ transitions) rising = flat-first transition transitions rising.0 (flat-child transitions rising.1)

-- transitions that are told one after another
pub flat-append : (numbers : List ℕ) (transitions more : List (ℕ × ℕ)) → flat numbers (transitions ++ more) ≡ flat numbers transitions ++ flat numbers more
flat-append numbers [] more = refl
flat-append numbers (transition ∷ transitions) more =
    let rest = flat-append numbers transitions more in
    elim (cases_eq transition.1 1) [
      | inl fails ↦
          let test : nat_eq transition.1 1 ≡ true = eq-eqb transition.1 1 fails in
          cond-true (nat_eq transition.1 1) _ _ test ∙ rest ∙ ap (λ (l : List ℕ). l ++ flat numbers more) (sym (cond-true (nat_eq transition.1 1) (flat numbers transitions) _ test))
      | inr leads ↦
          let test : nat_eq transition.1 1 ≡ false = ne_eqb transition.1 1 leads in
          cond-false (nat_eq transition.1 1) _ _ test
          ∙ ap (λ (l : List ℕ). transition.0 ∷ number_or_zero numbers transition.1 ∷ l) rest
          ∙ ap (λ (l : List ℕ). l ++ flat numbers more) (sym (cond-false (nat_eq transition.1 1) (flat numbers transitions) (transition.0 ∷ number_or_zero numbers transition.1 ∷ flat numbers transitions) test))
    ]
