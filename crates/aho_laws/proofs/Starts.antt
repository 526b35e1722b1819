-- What ends after a start state starts there or later: before a held state's word nothing starts that ends past it.
use Rattle.std.proofs.Common.{◌≡◌, inl, inr, ℕ, ◌<◌, ◌≤◌, true, false, List, [], ◌∷◌, ◌++◌, length, refl, sym, ◌∙◌, ap, subst, arith}
use Rattle.std.specs.Prelude.{Some}
use Rattle.std.proofs.lemmas.Bool.{cases_Bool, cases_lt}
use Rattle.std.proofs.lemmas.List.{append-nil, map-append}
use Rattle.aho_core.specs.declared.search.Anchored.TheVariants.{No}
use Rattle.aho_laws.proofs.Kept.{is_cut-true, past_dead}
use Rattle.aho_laws.proofs.StepLaw.{state-node, state-shorter}
use Rattle.aho_laws.proofs.Stands.{Stands, from_occurs, length-folded, stands_length, begins_at}
use Rattle.aho_laws.proofs.Fronts.{moved_back, stands_back, live_front}
use Rattle.aho_core.specs.Bytes.{folded, folded_word}
use Rattle.aho_core.specs.Failure.{is_cut, is_leftmost, state_after}
use Rattle.aho_core.specs.Held.{held_after}
use Rattle.aho_core.specs.Occurrence.{Occurrence}
use Rattle.aho_core.specs.Occurs.{Occurs}
use Rattle.aho_core.specs.Patterns.{Patterns}
use Rattle.aho_core.specs.Trie.{is_node}

module _ (p : Patterns) where
  -- Standard: whatever ends past the word starts in the state's word, or later
  standard_front : (w u : List ℕ) → is_leftmost p.kind ≡ false → state_after p w ≡ Some u
      → (pre : List ℕ) × (w ≡ pre ++ u) × ((y : List ℕ) (n : Occurrence) → Stands p No (w ++ y) n → length w < n.end → length pre ≤ n.start)
  standard_front [] u standard e = let same : [] ≡ u = cc in ([], same, λ y n o past. omega arith)
  standard_front (x ∷ w) u standard e =
      elim (cases_Bool (is_node p (x ∷ w))) [
        | inl node ↦ (let same : Some (x ∷ w) ≡ Some u = sym (state-node p x w node) ∙ e in ([], cc, λ y n o past. omega arith))
        | inr other ↦
            elim (cases_Bool (is_cut p (x ∷ w))) [
              | inl cut ↦ (let clash : true ≡ false = sym (is_cut-true p (x ∷ w) cut).0 ∙ standard in cc)
              | inr uncut ↦
                  (let t = standard_front w u standard (sym (state-shorter p x w other uncut) ∙ e) in (
                    x ∷ t.0,
                    ap (λ (v : List ℕ). x ∷ v) t.1,
                    λ y n o past. elim (cases_lt 0 n.start) [
                      | inl later ↦ omega (arith, t.2 y (moved_back n) (stands_back p x (w ++ y) n later o) (omega arith))
                      | inr here ↦
                          (let sizes = stands_length p No (x ∷ (w ++ y)) n o in
                          let b = begins_at p No (x ∷ (w ++ y)) [] (x ∷ (w ++ y)) n refl o (omega arith) in
                          let out = past_dead p (x ∷ w) y n.pattern other o.below b (omega (arith, sizes.0)) in
                          let clash : true ≡ false = sym (ap is_leftmost out.0) ∙ standard in
                          cc)
                    ],
                  ))
            ]
      ]

  -- all kinds
  pub live_start : (w u : List ℕ) → state_after p w ≡ Some u → (pre : List ℕ) × (w ≡ pre ++ u) × ((y : List ℕ) (n : Occurrence) → Stands p No (w ++ y) n → length w < n.end → length pre ≤ n.start)
  live_start w u e =
      elim (cases_Bool (is_leftmost p.kind)) [
        | inl leftmost ↦ (let t = live_front p leftmost w u e in (t.0, t.1, λ y n o past. t.2 y n o))
        | inr standard ↦ standard_front w u standard e
      ]

  -- at a start state whatever ends later starts later
  pub start_half : (w v : List ℕ) (n : Occurrence) → held_after p No w ≡ Some [] → Occurs p No (w ++ v) 0 (length (w ++ v)) n → length w < n.end → length w ≤ n.start
  start_half w v n e o past =
      let t = live_start (folded_word p w) [] e in
      let stands : Stands p No (folded_word p w ++ folded_word p v) n = subst (λ (z : List ℕ). Stands p No z n) (map-append (folded p) w v) (from_occurs p No (w ++ v) n o) in
      let whole : length (folded_word p w) ≡ length t.0 = ap length (t.1 ∙ append-nil t.0) in
      omega (arith, t.2 (folded_word p v) n stands (omega (arith, length-folded p w)), length-folded p w)
