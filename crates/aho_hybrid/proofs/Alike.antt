-- Where a byte leads along the links: where the word's step does, and bytes of one class lead alike.
use Rattle.std.proofs.Common.{◌≡◌, ◌≢◌, ℕ, zero, suc, ◌<◌, false, Bool, List, Option, nat_eq, sym, ap, subst, refl, ◌∙◌, inl, inr, arith, eq-eqb}
use Rattle.std.proofs.lemmas.Bool.{cases_eq, cond-true, false_from_ne_true}
use Rattle.aho_core.specs.Bytes.{folded}
use Rattle.aho_core.specs.Patterns.{Patterns}
use Rattle.aho_core.specs.Step.{follow}
use Rattle.aho_core.specs.Trie.{is_node}
use Rattle.aho_core.specs.declared.search.Anchored.TheVariants.{No}
use Rattle.aho_build.proofs.AutomatonStates.{held-failed, held-taken}
use Rattle.aho_build.proofs.LinkedNodes.{IsNamed, named-state, other_next, state-named}
use Rattle.aho_build.proofs.NodeBorders.{edges-node}
use Rattle.aho_build.proofs.StepResults.{along-taken}
use Rattle.aho_build.specs.Automaton.{IsAutomaton}
use Rattle.aho_build.specs.Dense.{HasBorders}
use Rattle.aho_build.specs.StateNames.{IsStateOf, name_at}
use Rattle.aho_build.specs.Trie.{longer}
use Rattle.aho_build.specs.Walking.{IsSound, IsState, links_left, step_along}
use Rattle.aho_build.specs.declared.special.Special.{Special}
use Rattle.aho_table.proofs.Classes.{alone}
use Rattle.aho_table.specs.Alphabet.{AreOfOneClass}
use Rattle.aho_table.specs.Table.{State, fail_id, fail_in, next_in}

module _ (special : Special) (p : Patterns) (names : List (Option (List ℕ))) (states : List State) (a : IsAutomaton special p names states) where
  -- along the links a byte leads where the word's step does
  pub follows : IsSound states → (byte left sid : ℕ) (state : Option (List ℕ)) → byte < 256 → links_left states sid < left → IsState states sid → IsStateOf names state sid
      → IsStateOf names (follow p No state (folded p byte)) (step_along states No byte left sid)
  follows sound byte zero sid state small less ok is = absurd (omega (arith, less))
  follows sound byte (suc left) sid state small less ok is =
      elim (cases_eq (next_in states sid byte) fail_id) [
        | inl none ↦
            let further = held-failed special p names states a No state sid byte refl small is none in
            let nearer = sound.fail_nearer sid byte ok small none in
            let rest = follows sound byte left (fail_in states sid) further.0 small (omega (arith, nearer, less)) (sound.fail_state sid byte ok small none) further.1 in
            subst (λ (n : ℕ). IsStateOf names (follow p No state (folded p byte)) n) (sym (cond-true (nat_eq (next_in states sid byte) fail_id) _ _ (eq-eqb (next_in states sid byte) fail_id none)))
            (subst (λ (o : Option (List ℕ)). IsStateOf names o (step_along states No byte left (fail_in states sid))) (sym further.2) rest)
        | inr some ↦
            subst (λ (n : ℕ). IsStateOf names (follow p No state (folded p byte)) n) (sym (along-taken states byte No (suc left) sid (omega arith) some))
            (held-taken special p names states a No state sid byte small is some).0
      ]

  module _ (classes : List Bool) (borders : HasBorders p classes) (byte other : ℕ) (below : byte < 256) (within : other < 256) (same : AreOfOneClass classes byte other) where
    -- of two bytes of one class neither ends a node
    no_node : byte ≢ other → (word : List ℕ) → is_node p (longer p word byte) ≡ false
    no_node ne word = false_from_ne_true (is_node p (longer p word byte)) (λ node. absurd (ne (sym (alone classes byte below (edges-node p word byte classes borders node) other within (sym same)))))

    no_other : byte ≢ other → (word : List ℕ) → is_node p (longer p word other) ≡ false
    no_other ne word = false_from_ne_true (is_node p (longer p word other)) (λ node. absurd (ne (alone classes other within (edges-node p word other classes borders node) byte below same)))

    next-alike : (sid : ℕ) → IsNamed names sid → next_in states sid byte ≡ next_in states sid other
    next-alike sid named =
        elim (cases_eq byte other) [
          | inl one ↦ ap (next_in states sid) one
          | inr ne ↦ by_name ne sid named
        ]
      where
        by_name : byte ≢ other → (sid : ℕ) → IsNamed names sid → next_in states sid byte ≡ next_in states sid other
        by_name ne sid (inl dead) =
            ap (λ (n : ℕ). next_in states n byte) dead ∙ a.nodes.dead_loop byte below ∙ sym (a.nodes.dead_loop other within) ∙ ap (λ (n : ℕ). next_in states n other) (sym dead)
        by_name ne sid (inr word) =
            other_next special.start_unanchored_id p names states a.nodes sid word.0 byte below word.1 (no_node ne word.0)
            ∙ sym (other_next special.start_unanchored_id p names states a.nodes sid word.0 other within word.1 (no_other ne word.0))

    -- and along the links
    pub step-alike : (left sid : ℕ) → IsNamed names sid → step_along states No byte left sid ≡ step_along states No other left sid
    step-alike zero sid named = refl
    step-alike (suc left) sid named =
        let alike = next-alike sid named in
        elim (cases_eq (next_in states sid byte) fail_id) [
          | inl none ↦
              let is = named-state special.start_unanchored_id p names states a.nodes (name_at names sid) sid named refl in
              let further = held-failed special p names states a No (name_at names sid) sid byte refl below is none in
              cond-true (nat_eq (next_in states sid byte) fail_id) _ _ (eq-eqb (next_in states sid byte) fail_id none)
              ∙ step-alike left (fail_in states sid) (state-named special.start_unanchored_id p names states a.nodes further.0 (fail_in states sid) further.1).0
              ∙ sym (cond-true (nat_eq (next_in states sid other) fail_id) _ _ (eq-eqb (next_in states sid other) fail_id (sym alike ∙ none)))
          | inr some ↦
              along-taken states byte No (suc left) sid (omega arith) some ∙ alike ∙ sym (along-taken states other No (suc left) sid (omega arith) (λ e. some (alike ∙ e)))
        ]
