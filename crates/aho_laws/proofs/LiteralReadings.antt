-- What a held state says of its word: its longest suffix that is a node, what occurs before that, and where an anchored
-- search has ended.
use Rattle.std.proofs.Common.{◌≡◌, ◌≢◌, ◌↔◌, inl, inr, ℕ, ◌+◌, ◌<◌, ◌≤◌, true, false, cond, List, [], ◌∷◌, ◌++◌, length, take, drop, refl, sym, ◌∙◌, ap, subst, arith, length-append}
use Rattle.std.specs.Prelude.{Option, Some, None}
use Rattle.std.proofs.lemmas.Bool.{cases_Bool, cond-true, cond-false}
use Rattle.std.proofs.lemmas.List.{append-nil, map-append, take-append-drop, take-map, take_at}
use Rattle.aho_core.specs.declared.search.Anchored.TheVariants.{No, Yes}
use Rattle.aho_core.specs.declared.search.MatchKind.TheVariants.{Standard}
use Rattle.aho_laws.proofs.Begins.{Begins}
use Rattle.aho_laws.proofs.Kept.{is_node-root, is_node-from, is_node-true, is_cut-true, every_kept, other_than_standard, standard_only}
use Rattle.aho_laws.proofs.StepLaw.{state-node, state-cut, state-shorter, dead_leftmost}
use Rattle.aho_laws.proofs.Stands.{Stands, from_occurs, to_occurs, length-folded, stands_at}
use Rattle.aho_laws.proofs.Fronts.{live_front}
use Rattle.aho_core.specs.Bytes.{IsSameWord, folded, folded_word}
use Rattle.aho_core.specs.Failure.{is_cut, is_leftmost, state_after}
use Rattle.aho_core.specs.Held.{held_after}
use Rattle.aho_core.specs.Occurrence.{Occurrence}
use Rattle.aho_core.specs.Patterns.{Patterns, pattern_at}
use Rattle.aho_core.specs.Trie.{is_node, pattern_word}
use Rattle.aho_laws.specs.TrieLaws.{IsLongestNode, OccursBefore}

module _ (p : Patterns) where
  -- the longest suffix of a word that is a node
  abbrev pub longest_node : List ℕ → List ℕ
  longest_node [] = []
  longest_node (x ∷ w) = cond (is_node p (x ∷ w)) (x ∷ w) (longest_node w)

  -- it ends the word and is a node
  pub longest_node-ends : (w : List ℕ) → (front : List ℕ) × (w ≡ front ++ longest_node w) × (is_node p (longest_node w) ≡ true)
  longest_node-ends [] = ([], refl, is_node-root p)
  longest_node-ends (x ∷ w) =
      elim (cases_Bool (is_node p (x ∷ w))) [
        | inl node ↦ (let e = cond-true (is_node p (x ∷ w)) (x ∷ w) (longest_node w) node in ([], sym e, subst (λ (v : List ℕ). is_node p v ≡ true) (sym e) node))
        | inr other ↦
            (let e = cond-false (is_node p (x ∷ w)) (x ∷ w) (longest_node w) other in
            let t = longest_node-ends w in
            (x ∷ t.0, ap (λ (v : List ℕ). x ∷ v) (t.1 ∙ ap (λ (v : List ℕ). t.0 ++ v) (sym e)), subst (λ (v : List ℕ). is_node p v ≡ true) (sym e) t.2))
      ]

  -- and no longer suffix is one
  pub longest_node-longest : (w front v : List ℕ) → w ≡ front ++ v → is_node p v ≡ true → length v ≤ length (longest_node w)
  longest_node-longest [] front v e node = omega (arith, ap length e, length-append front v)
  longest_node-longest (x ∷ w) front v e node =
      elim (cases_Bool (is_node p (x ∷ w))) [
        | inl whole ↦ omega (arith, ap length e, length-append front v, ap length (cond-true (is_node p (x ∷ w)) (x ∷ w) (longest_node w) whole))
        | inr other ↦ omega (arith, ap length (cond-false (is_node p (x ∷ w)) (x ∷ w) (longest_node w) other), by_front front e other (λ front e. longest_node-longest w front v e node))
      ]
    where
      by_front : (front : List ℕ) → x ∷ w ≡ front ++ v → is_node p (x ∷ w) ≡ false → ((front : List ℕ) → w ≡ front ++ v → length v ≤ length (longest_node w)) → length v ≤ length (longest_node w)
      by_front [] e other rest = let clash : true ≡ false = sym node ∙ sym (ap (is_node p) e) ∙ other in cc
      by_front (y ∷ front) e other rest = rest front (cc)

  -- the state's word is that suffix; it is dead exactly where a leftmost kind has an occurrence that starts before it
  pub state-longest : (w u : List ℕ) → state_after p w ≡ Some u → u ≡ longest_node w
  state-longest [] u e = cc
  state-longest (x ∷ w) u e =
      elim (cases_Bool (is_node p (x ∷ w))) [
        | inl node ↦ (let same : Some (x ∷ w) ≡ Some u = sym (state-node p x w node) ∙ e in let known = cond-true (is_node p (x ∷ w)) (x ∷ w) (longest_node w) node in cc)
        | inr other ↦
            (let known = cond-false (is_node p (x ∷ w)) (x ∷ w) (longest_node w) other in
            elim (cases_Bool (is_cut p (x ∷ w))) [
              | inl cut ↦ (let clash : None ≡ Some u = sym (state-cut p x w other cut) ∙ e in cc)
              | inr uncut ↦ state-longest w u (sym (state-shorter p x w other uncut) ∙ e) ∙ sym known
            ])
      ]

  -- it is no longer than the word
  longest_node-length : (w : List ℕ) → length (longest_node w) ≤ length w
  longest_node-length w = let t = longest_node-ends w in omega (arith, ap length t.1, length-append t.0 (longest_node w))

  -- where the state is dead: the first place where a pattern occurs, which is before that suffix
  dead_at : (w : List ℕ) → state_after p w ≡ None → (pre v : List ℕ) × (w ≡ pre ++ v) × (is_cut p v ≡ true) × (length pre + length (longest_node w) < length w)
  dead_at [] e = cc
  dead_at (x ∷ w) e =
      elim (cases_Bool (is_node p (x ∷ w))) [
        | inl node ↦ (let clash : Some (x ∷ w) ≡ None = sym (state-node p x w node) ∙ e in cc)
        | inr other ↦
            (let known = ap length (cond-false (is_node p (x ∷ w)) (x ∷ w) (longest_node w) other) in
            elim (cases_Bool (is_cut p (x ∷ w))) [
              | inl cut ↦ ([], x ∷ w, refl, cut, omega (arith, known, longest_node-length w))
              | inr uncut ↦
                  (let t = dead_at w (sym (state-shorter p x w other uncut) ∙ e) in
                  (x ∷ t.0, t.1, ap (λ (v : List ℕ). x ∷ v) t.2, t.3, omega (arith, known, t.4)))
            ])
      ]

  -- so a dead state has an occurrence that starts before the longest node
  pub dead-occurrence : (w : List ℕ) → state_after p w ≡ None → (is_leftmost p.kind ≡ true) × ((n : Occurrence) × Stands p No w n × (n.start + length (longest_node w) < length w))
  dead-occurrence w e =
      let t = dead_at w e in
      let c = (is_cut-true p t.1 t.3).1 in (
        dead_leftmost p w e,
        (
          record { pattern = c.0; start = length t.0; end = length t.0 + length (pattern_word p c.0) },
          stands_at p No w t.0 t.1 c.0 (length t.0 + length (pattern_word p c.0)) t.2 (λ y. cc) c.1 c.2 refl,
          t.4,
        ),
      )

  -- and another state has none
  pub live-occurrences : (w u : List ℕ) (n : Occurrence) → is_leftmost p.kind ≡ true → state_after p w ≡ Some u → Stands p No w n → length w ≤ n.start + length u
  live-occurrences w u n leftmost e o =
      let t = live_front p leftmost w u e in
      omega (arith, ap length t.1, length-append t.0 u, t.2 [] n (subst (λ (v : List ℕ). Stands p No v n) (sym (append-nil w)) o))

  -- Standard, anchored: the search has ended exactly where the word begins no pattern
  pub anchored_ended : (x : ℕ) (w : List ℕ) → is_leftmost p.kind ≡ false
      → (held_after p Yes (x ∷ w) ≡ None) ↔ ((k : ℕ) → k < length p.words → Begins (folded_word p (x ∷ w)) (pattern_word p k) → ⊥)
  anchored_ended x w standard = (
    (λ e k lt b.
        let node = is_node-from p (folded_word p (x ∷ w)) k lt (every_kept p standard k) b in
        let clash : None ≡ Some (folded_word p (x ∷ w)) = sym e ∙ cond-true (is_node p (folded_word p (x ∷ w))) (Some (folded_word p (x ∷ w))) None node in
        cc),
    (λ none.
        elim (cases_Bool (is_node p (folded_word p (x ∷ w)))) [
          | inl node ↦ (let t = is_node-true p (folded p x) (folded_word p w) node in absurd (none t.0 t.1 t.3))
          | inr other ↦ cond-false (is_node p (folded_word p (x ∷ w))) (Some (folded_word p (x ∷ w))) None other
        ]),
  )

  -- the longest suffix that is a node, said literally
  pub longest_node-is : (w : List ℕ) → IsLongestNode p w (longest_node w)
  longest_node-is w =
      let t = longest_node-ends w in
      record { front = t.0; parts = sym t.1; a_node = t.2; longest = λ front v e node. longest_node-longest w front v (sym e) node }

  -- each longest node is as long
  pub longest_node-size : (w u : List ℕ) → IsLongestNode p w u → length u ≡ length (longest_node w)
  longest_node-size w u h =
      let t = longest_node-ends w in
      omega (arith, h.longest t.0 (longest_node w) (sym t.1) t.2, longest_node-longest w h.front u (sym h.parts) h.a_node)

  -- the state after a word is its longest node, where it is not dead
  pub held-longest : (w u : List ℕ) → held_after p No w ≡ Some u → IsLongestNode p (folded_word p w) u
  held-longest w u e = subst (IsLongestNode p (folded_word p w)) (sym (state-longest (folded_word p w) u e)) (longest_node-is (folded_word p w))

  -- dead where an occurrence starts before it
  pub held-dead : (w u : List ℕ) → IsLongestNode p (folded_word p w) u → (held_after p No w ≡ None) ↔ ((p.kind ≢ Standard) × OccursBefore p w (length u))
  held-dead w u h = (
    (λ e.
        let t = dead-occurrence (folded_word p w) e in (
          standard_only p.kind t.0,
          record { found = t.1.0; occurs = to_occurs p No w t.1.0 t.1.1; before = omega (arith, t.1.2, longest_node-size (folded_word p w) u h, length-folded p w) },
        )),
    (λ b. by_state (held_after p No w) refl b.0 b.1),
  )
    where
      by_state : (s : Option (List ℕ)) → held_after p No w ≡ s → p.kind ≢ Standard → OccursBefore p w (length u) → held_after p No w ≡ None
      by_state None e other b = e
      by_state (Some v) e other b =
          let stands = from_occurs p No w b.found b.occurs in
          absurd
          (omega (
            arith,
            live-occurrences (folded_word p w) v b.found (other_than_standard p.kind other) e stands,
            ap length (state-longest (folded_word p w) v e),
            longest_node-size (folded_word p w) u h,
            length-folded p w,
            b.before,
          ))

  -- a word begins a pattern where it is the same as the pattern's first bytes
  same-begins : (v : List ℕ) (k : ℕ) → IsSameWord p v (take (length v) (pattern_at p k)) ↔ Begins (folded_word p v) (pattern_word p k)
  unfolding pattern_word
  same-begins v k = (
    (λ same. (
      folded_word p (drop (length v) (pattern_at p k)),
      ap (λ (t : List ℕ). t ++ folded_word p (drop (length v) (pattern_at p k))) same
          ∙ sym (map-append (folded p) (take (length v) (pattern_at p k)) (drop (length v) (pattern_at p k)))
          ∙ ap (folded_word p) (take-append-drop (length v) (pattern_at p k)),
    )),
    (λ b. sym (take_at (folded_word p v) b.0 (length v) (length-folded p v)) ∙ ap (take (length v)) b.1 ∙ take-map (folded p) (length v) (pattern_at p k)),
  )

  -- an anchored search by Standard has ended where the word begins no pattern, said by the bytes
  pub held-anchored : (x : ℕ) (w : List ℕ) → p.kind ≡ Standard
      → (held_after p Yes (x ∷ w) ≡ None) ↔ ((k : ℕ) → k < length p.words → IsSameWord p (x ∷ w) (take (length (x ∷ w)) (pattern_at p k)) → ⊥)
  held-anchored x w is =
      let ended = anchored_ended x w (ap is_leftmost is) in (
        (λ e k lt same. ended.0 e k lt ((same-begins (x ∷ w) k).0 same)),
        (λ none. ended.1 (λ k lt b. none k lt ((same-begins (x ∷ w) k).1 b))),
      )
