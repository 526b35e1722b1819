-- How many states a step looks at.
use Rattle.std.proofs.Common.{◌≡◌, inl, inr, ℕ, ◌+◌, ◌*◌, ◌≤◌, Bool, true, false, cond, List, [], ◌∷◌, ◌++◌, length, refl, sym, ◌∙◌, ap, arith}
use Rattle.std.specs.Prelude.{Option, Some, None}
use Rattle.std.proofs.lemmas.Bool.{cases_Bool, cond-true, cond-false}
use Rattle.std.proofs.lemmas.List.{append_assoc, append-nil, length_push, length-map}
use Rattle.aho_core.specs.declared.search.Anchored.{Anchored}
use Rattle.aho_core.specs.declared.search.Anchored.TheVariants.{No, Yes}
use Rattle.aho_laws.proofs.Kept.{is_cut-more, is_node-root}
use Rattle.aho_laws.proofs.StepLaw.{state-node, state-cut, state-shorter, not_node-more, not_cut-more, held_after-push}
use Rattle.aho_core.specs.Bytes.{folded, folded_word}
use Rattle.aho_core.specs.Failure.{failure_of, is_cut, state_after}
use Rattle.aho_core.specs.Held.{held_after}
use Rattle.aho_core.specs.Patterns.{Patterns}
use Rattle.aho_core.specs.Step.{depth_of, follow, follow_along, lookups, lookups_along, lookups_from}
use Rattle.aho_core.specs.Trie.{is_node}

-- a state is counted once
at_most_one : (b : Bool) → cond b 1 0 ≤ 1
at_most_one true = omega arith
at_most_one false = omega arith

module _ (p : Patterns) where
  -- the look-ups from a nonempty word, by cases
  lookups-node : (y : ℕ) (u : List ℕ) (x : ℕ) → is_node p (y ∷ u ++ x ∷ []) ≡ true → lookups_from p x (y ∷ u) ≡ 1
  lookups-node y u x node = rw node refl

  lookups-cut : (y : ℕ) (u : List ℕ) (x : ℕ) → is_node p (y ∷ u ++ x ∷ []) ≡ false → is_cut p (y ∷ u) ≡ true → lookups_from p x (y ∷ u) ≡ cond (is_node p (y ∷ u)) 1 0 + 1
  lookups-cut y u x other cut = rw (other, cut) refl

  lookups-further : (y : ℕ) (u : List ℕ) (x : ℕ) → is_node p (y ∷ u ++ x ∷ []) ≡ false → is_cut p (y ∷ u) ≡ false → lookups_from p x (y ∷ u) ≡ cond (is_node p (y ∷ u)) 1 0 + lookups_from p x u
  lookups-further y u x other uncut = rw (other, uncut) refl

  -- a state is no longer than the word
  pub depth-state_after : (w : List ℕ) → depth_of (state_after p w) ≤ length w
  depth-state_after [] = omega arith
  depth-state_after (y ∷ w) =
      elim (cases_Bool (is_node p (y ∷ w))) [
        | inl node ↦ omega (arith, ap depth_of (state-node p y w node))
        | inr other ↦
            elim (cases_Bool (is_cut p (y ∷ w))) [
              | inl cut ↦ omega (arith, ap depth_of (state-cut p y w other cut))
              | inr uncut ↦ omega (arith, ap depth_of (state-shorter p y w other uncut), depth-state_after w)
            ]
      ]

  -- the bound, unanchored
  bound_from : (u : List ℕ) (x : ℕ) → lookups_from p x u + depth_of (state_after p (u ++ x ∷ [])) ≤ length u + 2
  bound_from [] x = omega (arith, depth-state_after (x ∷ []))
  bound_from (y ∷ u) x =
      elim (cases_Bool (is_node p (y ∷ u ++ x ∷ []))) [
        | inl node ↦ omega (arith, lookups-node y u x node, depth-state_after (y ∷ u ++ x ∷ []), length_push u x)
        | inr other ↦
            elim (cases_Bool (is_cut p (y ∷ u))) [
              | inl cut ↦
                  omega (arith, lookups-cut y u x other cut, at_most_one (is_node p (y ∷ u)), ap depth_of (state-cut p y (u ++ x ∷ []) other (is_cut-more p (y ∷ u) (x ∷ []) cut)))
              | inr uncut ↦
                  omega
                  (arith, lookups-further y u x other uncut, at_most_one (is_node p (y ∷ u)), ap depth_of (state-shorter p y (u ++ x ∷ []) other (not_cut-more p (y ∷ u) x other uncut)), bound_from u x)
            ]
      ]

  -- the depth potential
  pub lookups_bound : (anchored : Anchored) (s : Option (List ℕ)) (x : ℕ) → lookups p anchored s x + depth_of (follow p anchored s x) ≤ depth_of s + 2
  lookups_bound No None x = omega arith
  lookups_bound Yes None x = omega arith
  lookups_bound No (Some u) x = bound_from u x
  lookups_bound Yes (Some u) x =
      elim (cases_Bool (is_node p (u ++ x ∷ []))) [
        | inl node ↦ omega (arith, ap depth_of (cond-true (is_node p (u ++ x ∷ [])) (Some (u ++ x ∷ [])) None node), length_push u x)
        | inr other ↦ omega (arith, ap depth_of (cond-false (is_node p (u ++ x ∷ [])) (Some (u ++ x ∷ [])) None other))
      ]

  -- for the steps of a word
  pub lookups_along_bound : (anchored : Anchored) (s : Option (List ℕ)) (w : List ℕ) → lookups_along p anchored s w + depth_of (follow_along p anchored s w) ≤ depth_of s + 2 * length w
  lookups_along_bound anchored s [] = omega arith
  lookups_along_bound anchored s (x ∷ w) = omega (arith, lookups_bound anchored s x, lookups_along_bound anchored (follow p anchored s x) w)

  -- the steps of a word lead to the state that is held after it
  pub held_after-along : (anchored : Anchored) (v w : List ℕ) → held_after p anchored (v ++ w) ≡ follow_along p anchored (held_after p anchored v) (folded_word p w)
  held_after-along anchored v [] = ap (held_after p anchored) (append-nil v)
  held_after-along anchored v (x ∷ w) =
      ap (held_after p anchored) (sym (append_assoc v (x ∷ []) w))
      ∙ held_after-along anchored (v ++ x ∷ []) w
      ∙ ap (λ (s : Option (List ℕ)). follow_along p anchored s (folded_word p w)) (held_after-push p anchored v x)

  -- the start has depth 0
  depth-start : (anchored : Anchored) → depth_of (held_after p anchored []) ≡ 0
  depth-start No = refl
  depth-start Yes = ap depth_of (cond-true (is_node p []) (Some []) None (is_node-root p))

  -- from the start on, two for each byte
  pub lookups_along-start : (anchored : Anchored) (w : List ℕ) → lookups_along p anchored (held_after p anchored []) (folded_word p w) ≤ 2 * length w
  lookups_along-start anchored w = omega (arith, lookups_along_bound anchored (held_after p anchored []) (folded_word p w), depth-start anchored, length-map w (folded p))

  -- what is counted from a word on is counted from its state on
  lookups-state : (w : List ℕ) (x : ℕ) → lookups_from p x w ≡ lookups p No (state_after p w) x
  lookups-state [] x = refl
  lookups-state (y ∷ w) x =
      elim (cases_Bool (is_node p (y ∷ w))) [
        | inl node ↦ sym (ap (λ (s : Option (List ℕ)). lookups p No s x) (state-node p y w node))
        | inr other ↦
            (let longer : is_node p (y ∷ w ++ x ∷ []) ≡ false = not_node-more p (y ∷ w) (x ∷ []) other in
            let none : ◌≡◌ {A = ℕ} (cond (is_node p (y ∷ w)) 1 0) 0 = cond-false (is_node p (y ∷ w)) 1 0 other in
            elim (cases_Bool (is_cut p (y ∷ w))) [
              | inl cut ↦ omega (arith, lookups-cut y w x longer cut, none, ap (λ (s : Option (List ℕ)). lookups p No s x) (state-cut p y w other cut))
              | inr uncut ↦
                  omega (arith, lookups-further y w x longer uncut, none, lookups-state w x, ap (λ (s : Option (List ℕ)). lookups p No s x) (state-shorter p y w other uncut))
            ])
      ]

  -- as the walk counts: one for the node, and on by its failure link where it does not take the byte
  pub lookups-taken : (u : List ℕ) (x : ℕ) → is_node p (u ++ x ∷ []) ≡ true → lookups p No (Some u) x ≡ 1
  lookups-taken [] x node = refl
  lookups-taken (y ∷ u) x node = lookups-node y u x node

  -- one more than from the failure link, where the node does not take the byte
  pub lookups-failure : (y : ℕ) (u : List ℕ) (x : ℕ) → is_node p (y ∷ u) ≡ true → is_node p (y ∷ u ++ x ∷ []) ≡ false → lookups p No (Some (y ∷ u)) x ≡ 1 + lookups p No (failure_of p (y ∷ u)) x
  lookups-failure y u x node other =
      let one : ◌≡◌ {A = ℕ} (cond (is_node p (y ∷ u)) 1 0) 1 = cond-true (is_node p (y ∷ u)) 1 0 node in
      elim (cases_Bool (is_cut p (y ∷ u))) [
        | inl cut ↦ omega (arith, lookups-cut y u x other cut, one, ap (λ (s : Option (List ℕ)). lookups p No s x) (cond-true (is_cut p (y ∷ u)) None (state_after p u) cut))
        | inr uncut ↦
            omega (arith, lookups-further y u x other uncut, one, lookups-state u x, ap (λ (s : Option (List ℕ)). lookups p No s x) (cond-false (is_cut p (y ∷ u)) None (state_after p u) uncut))
      ]
