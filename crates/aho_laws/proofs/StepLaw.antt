-- The state after one byte more is found from the state alone.
use Rattle.std.proofs.Common.{◌≡◌, inl, inr, ℕ, true, false, cond, List, [], ◌∷◌, ◌++◌, refl, sym, ◌∙◌, ap, subst}
use Rattle.std.specs.Prelude.{Option, Some, None}
use Rattle.std.proofs.lemmas.Bool.{cases_Bool, cond-false}
use Rattle.std.proofs.lemmas.List.{map_push}
use Rattle.aho_core.specs.declared.search.Anchored.{Anchored}
use Rattle.aho_core.specs.declared.search.Anchored.TheVariants.{No, Yes}
use Rattle.aho_laws.proofs.Kept.{is_node-root, is_node-front, is_cut-more, is_cut-before, is_cut-true}
use Rattle.aho_core.specs.Bytes.{folded, folded_word}
use Rattle.aho_core.specs.Failure.{failure_of, is_cut, is_leftmost, state_after}
use Rattle.aho_core.specs.Held.{held_after}
use Rattle.aho_core.specs.Patterns.{Patterns}
use Rattle.aho_core.specs.Step.{follow}
use Rattle.aho_core.specs.Trie.{is_node}

module _ (p : Patterns) where
  -- the state after a nonempty word, by cases
  pub state-node : (x : ℕ) (w : List ℕ) → is_node p (x ∷ w) ≡ true → state_after p (x ∷ w) ≡ Some (x ∷ w)
  state-node x w h = rw h refl

  pub state-cut : (x : ℕ) (w : List ℕ) → is_node p (x ∷ w) ≡ false → is_cut p (x ∷ w) ≡ true → state_after p (x ∷ w) ≡ None
  state-cut x w other h = rw (other, h) refl

  pub state-shorter : (x : ℕ) (w : List ℕ) → is_node p (x ∷ w) ≡ false → is_cut p (x ∷ w) ≡ false → state_after p (x ∷ w) ≡ state_after p w
  state-shorter x w other h = rw (other, h) refl

  -- a node's own state
  pub state-of_node : (u : List ℕ) → is_node p u ≡ true → state_after p u ≡ Some u
  state-of_node [] h = refl
  state-of_node (x ∷ u) h = state-node x u h

  -- the state's word is a node
  pub state-is_node : (w u : List ℕ) → state_after p w ≡ Some u → is_node p u ≡ true
  state-is_node [] u e = let same : [] ≡ u = cc in subst (λ (v : List ℕ). is_node p v ≡ true) same (is_node-root p)
  state-is_node (x ∷ w) u e =
      elim (cases_Bool (is_node p (x ∷ w))) [
        | inl node ↦ (let both : Some (x ∷ w) ≡ Some u = sym (state-node x w node) ∙ e in let same : x ∷ w ≡ u = cc in subst (λ (v : List ℕ). is_node p v ≡ true) same node)
        | inr other ↦
            elim (cases_Bool (is_cut p (x ∷ w))) [
              | inl cut ↦ (let clash : None ≡ Some u = sym (state-cut x w other cut) ∙ e in cc)
              | inr uncut ↦ state-is_node w u (sym (state-shorter x w other uncut) ∙ e)
            ]
      ]

  -- only a leftmost kind has a dead state
  pub dead_leftmost : (w : List ℕ) → state_after p w ≡ None → is_leftmost p.kind ≡ true
  dead_leftmost [] e = cc
  dead_leftmost (x ∷ w) e =
      elim (cases_Bool (is_node p (x ∷ w))) [
        | inl node ↦ (let clash : Some (x ∷ w) ≡ None = sym (state-node x w node) ∙ e in cc)
        | inr other ↦ elim (cases_Bool (is_cut p (x ∷ w))) [ inl cut ↦ (is_cut-true p (x ∷ w) cut).0 | inr uncut ↦ dead_leftmost w (sym (state-shorter x w other uncut) ∙ e) ]
      ]

  -- a word that is no node begins none
  pub not_node-more : (u v : List ℕ) → is_node p u ≡ false → is_node p (u ++ v) ≡ false
  not_node-more u v other =
      elim (cases_Bool (is_node p (u ++ v))) [ inl h ↦ (let clash : true ≡ false = sym (is_node-front p u v h) ∙ other in cc) | inr h ↦ h ]

  -- where the word is no node
  pub not_cut-more : (u : List ℕ) (x : ℕ) → is_node p (u ++ x ∷ []) ≡ false → is_cut p u ≡ false → is_cut p (u ++ x ∷ []) ≡ false
  not_cut-more u x other uncut =
      elim (cases_Bool (is_cut p (u ++ x ∷ []))) [ inl h ↦ (let clash : true ≡ false = sym (is_cut-before p u x h other) ∙ uncut in cc) | inr h ↦ h ]

  -- unanchored: the state of the longer word follows from that of the word
  pub state_after-push : (w : List ℕ) (x : ℕ) → state_after p (w ++ x ∷ []) ≡ follow p No (state_after p w) x
  state_after-push [] x = refl
  state_after-push (y ∷ w) x =
      elim (cases_Bool (is_node p (y ∷ w))) [
        | inl node ↦ sym (ap (λ (s : Option (List ℕ)). follow p No s x) (state-node y w node))
        | inr other ↦
            (let longer : is_node p (y ∷ w ++ x ∷ []) ≡ false = not_node-more (y ∷ w) (x ∷ []) other in
            elim (cases_Bool (is_cut p (y ∷ w))) [
              | inl cut ↦ state-cut y (w ++ x ∷ []) longer (is_cut-more p (y ∷ w) (x ∷ []) cut) ∙ sym (ap (λ (s : Option (List ℕ)). follow p No s x) (state-cut y w other cut))
              | inr uncut ↦
                  state-shorter y (w ++ x ∷ []) longer (not_cut-more (y ∷ w) x longer uncut)
                  ∙ state_after-push w x
                  ∙ sym (ap (λ (s : Option (List ℕ)). follow p No s x) (state-shorter y w other uncut))
            ])
      ]

  -- anchored, the same
  anchored-push : (w : List ℕ) (x : ℕ) → cond (is_node p (w ++ x ∷ [])) (Some (w ++ x ∷ [])) None ≡ follow p Yes (cond (is_node p w) (Some w) None) x
  anchored-push w x =
      elim (cases_Bool (is_node p w)) [
        | inl node ↦ rw node refl
        | inr other ↦ rw (other, not_node-more w (x ∷ []) other) refl
      ]

  -- the step law
  pub held_after-push : (anchored : Anchored) (w : List ℕ) (x : ℕ) → held_after p anchored (w ++ x ∷ []) ≡ follow p anchored (held_after p anchored w) (folded p x)
  held_after-push No w x = ap (state_after p) (map_push (folded p) w x) ∙ state_after-push (folded_word p w) (folded p x)
  held_after-push Yes w x =
      ap (λ (v : List ℕ). cond (is_node p v) (Some v) None) (map_push (folded p) w x) ∙ anchored-push (folded_word p w) (folded p x)

  -- how a byte is followed: to the node that it makes, or by the failure link; the root goes to itself, or is dead where it is cut
  pub follow-node : (anchored : Anchored) (u : List ℕ) (x : ℕ) → is_node p (u ++ x ∷ []) ≡ true → follow p anchored (Some u) x ≡ Some (u ++ x ∷ [])
  follow-node No u x h = state-of_node (u ++ x ∷ []) h
  follow-node Yes u x h = rw h refl

  -- a node that does not take the byte goes where its failure link goes
  pub follow-failure : (y : ℕ) (u : List ℕ) (x : ℕ) → is_node p (y ∷ u ++ x ∷ []) ≡ false → follow p No (Some (y ∷ u)) x ≡ follow p No (failure_of p (y ∷ u)) x
  follow-failure y u x other =
      elim (cases_Bool (is_cut p (y ∷ u))) [
        | inl cut ↦ state-cut y (u ++ x ∷ []) other (is_cut-more p (y ∷ u) (x ∷ []) cut) ∙ (rw cut refl)
        | inr uncut ↦ state-shorter y (u ++ x ∷ []) other (not_cut-more (y ∷ u) x other uncut) ∙ state_after-push u x ∙ (rw uncut refl)
      ]

  -- the root that does not take it stays, or is dead where the empty word is a pattern
  pub follow-root : (x : ℕ) → is_node p (x ∷ []) ≡ false → follow p No (Some []) x ≡ cond (is_cut p []) None (Some [])
  follow-root x other =
      elim (cases_Bool (is_cut p [])) [
        | inl cut ↦ state-cut x [] other (is_cut-more p [] (x ∷ []) cut) ∙ (rw cut refl)
        | inr uncut ↦ state-shorter x [] other (not_cut-more [] x other uncut) ∙ (rw uncut refl)
      ]

  -- the failure link of a longer node, from that of the node
  pub failure_of-push : (y : ℕ) (u : List ℕ) (x : ℕ) → is_cut p (y ∷ u ++ x ∷ []) ≡ false → failure_of p (y ∷ u ++ x ∷ []) ≡ follow p No (failure_of p (y ∷ u)) x
  failure_of-push y u x uncut =
      let before : is_cut p (y ∷ u) ≡ false =
      elim (cases_Bool (is_cut p (y ∷ u))) [ inl h ↦ (let clash : true ≡ false = sym (is_cut-more p (y ∷ u) (x ∷ []) h) ∙ uncut in cc) | inr h ↦ h ] in
      cond-false (is_cut p (y ∷ u ++ x ∷ [])) None (state_after p (u ++ x ∷ [])) uncut
      ∙ state_after-push u x
      ∙ sym (ap (λ (s : Option (List ℕ)). follow p No s x) (cond-false (is_cut p (y ∷ u)) None (state_after p u) before))
