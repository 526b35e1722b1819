-- Bytes that end no node lead alike from every state, so classes in which the other bytes are alone serve for dense rows.
use Rattle.std.proofs.Common.{◌≡◌, ◌≢◌, ℕ, ◌<◌, ◌≤◌, Bool, true, false, cond, List, [], length, Option, Some, sym, ap, ◌∙◌, inl, inr, arith}
use Rattle.std.proofs.lemmas.Bool.{cases_eq, false_from_ne_true, MatchBool-at_false}
use Rattle.aho_core.specs.Patterns.{Patterns}
use Rattle.aho_core.specs.Trie.{is_node}
use Rattle.aho_table.specs.Alphabet.{AreOfOneClass, HasItsEdges}
use Rattle.aho_table.specs.Table.{State, LeadsAlike, fail_id, next_in, state_at, transition_at}
use Rattle.aho_table.proofs.Classes.{alone}
use Rattle.aho_build.specs.FirstStates.{root_id, anchored_id}
use Rattle.aho_build.specs.StateNames.{name_at}
use Rattle.aho_build.specs.Starts.{IsReady, root_loop}
use Rattle.aho_build.specs.Trie.{longer, missing_at}

module _ (p : Patterns) (names : List (Option (List ℕ))) (states : List State) (borders : List Bool) (ready : IsReady p names states)
    (apart : (word : List ℕ) (byte : ℕ) → byte < 256 → is_node p (longer p word byte) ≡ true → HasItsEdges borders byte) where
  -- two bytes of one class end no node
  no_node : (word : List ℕ) (byte other : ℕ) → byte < 256 → other < 256 → byte ≢ other → AreOfOneClass borders byte other → is_node p (longer p word byte) ≡ false
  no_node word byte other below within ne same =
      false_from_ne_true (is_node p (longer p word byte)) (λ node. absurd (ne (sym (alone borders byte below (apart word byte below node) other within (sym same)))))

  named_alike : (sid : ℕ) (word : List ℕ) (byte other : ℕ) → name_at names sid ≡ Some word → byte < 256 → other < 256 → byte ≢ other → AreOfOneClass borders byte other
      → next_in states sid byte ≡ next_in states sid other
  named_alike sid word byte other named below within ne same =
      MatchBool-at_false (name_at names (next_in states sid byte) ≡ Some (longer p word byte)) (next_in states sid byte ≡ missing_at (root_loop p) word)
      (no_node word byte other below within ne same) (ready.trie.transitions sid word byte named below)
      ∙ sym
      (MatchBool-at_false (name_at names (next_in states sid other) ≡ Some (longer p word other)) (next_in states sid other ≡ missing_at (root_loop p) word)
      (no_node word other byte within below (λ e. ne (sym e)) (sym same)) (ready.trie.transitions sid word other named within))

  anchored_alike : (byte other : ℕ) → byte < 256 → other < 256 → byte ≢ other → AreOfOneClass borders byte other → next_in states anchored_id byte ≡ next_in states anchored_id other
  anchored_alike byte other below within ne same =
      ready.anchored.next byte below ∙ ap (λ (b : Bool). cond b (next_in states root_id byte) fail_id) (no_node [] byte other below within ne same)
      ∙ sym (ready.anchored.next other within ∙ ap (λ (b : Bool). cond b (next_in states root_id other) fail_id) (no_node [] other byte within below (λ e. ne (sym e)) (sym same)))

  pub leads_alike : (sid : ℕ) → 2 ≤ sid → sid < length states → LeadsAlike borders (state_at states sid).transitions
  leads_alike sid least inside byte other below within same =
      elim (cases_eq byte other) [
        | inl one ↦ ap (transition_at (state_at states sid).transitions) one
        | inr ne ↦
            elim (cases_eq sid root_id) [
              | inl root ↦ named_alike sid [] byte other (ap (name_at names) root ∙ ready.trie.root) below within ne same
              | inr not_root ↦
                  elim (cases_eq sid anchored_id) [
                    | inl anchored ↦
                        ap (λ (n : ℕ). next_in states n byte) anchored ∙ anchored_alike byte other below within ne same ∙ ap (λ (n : ℕ). next_in states n other) (sym anchored)
                    | inr not_anchored ↦
                        let later : 4 ≤ sid = omega arith in
                        let named = ready.trie.complete sid later inside in
                        named_alike sid named.0 byte other named.1 below within ne same
                  ]
            ]
      ]
