-- What a construction goes by: patterns from the first on, then nodes from the shortest on.
use Rattle.std.proofs.Common.{◌≡◌, inl, inr, ℕ, ◌<◌, ◌≤◌, Bool, true, false, cond, ◌&&◌, not, List, [], ◌∷◌, ◌++◌, length, refl, sym, ◌∙◌, ap, subst, arith}
use Rattle.std.specs.Prelude.{Option, Some, None}
use Rattle.std.proofs.lemmas.Bool.{cases_Bool, cases_lt, cond-true, cond-false, false_from_ne_true, and_parts, and_from}
use Rattle.std.proofs.lemmas.List.{append-nil, length_push}
use Rattle.aho_core.specs.declared.search.Anchored.TheVariants.{No}
use Rattle.aho_core.specs.declared.search.MatchKind.TheVariants.{LeftmostFirst}
use Rattle.aho_laws.proofs.Begins.{Begins, begins_shorter, begins_whole}
use Rattle.aho_laws.proofs.Kept.{keeper, kept-no_longer, is_cut-true, is_cut-from, is_cut-more, own-first, left_out}
use Rattle.aho_laws.proofs.StepLaw.{failure_of-push, state-is_node}
use Rattle.aho_laws.proofs.Listed.{never_cut, matches_of-state_after, own_of_uncut}
use Rattle.aho_laws.proofs.LookUps.{depth-state_after}
use Rattle.aho_core.specs.Failure.{failure_of, is_cut, is_leftmost, state_after}
use Rattle.aho_core.specs.MatchList.{leftmost_matches, matches_of, own_matches, suffix_matches}
use Rattle.aho_core.specs.Patterns.{Patterns}
use Rattle.aho_core.specs.Step.{depth_of, follow}
use Rattle.aho_core.specs.Trie.{is_kept, is_node, pattern_word}

-- whether a list has no element
abbrev pub is_empty : List ℕ → Bool
is_empty [] = true
is_empty (x ∷ xs) = false

module _ (p : Patterns) where
  -- a pattern is left out exactly where an earlier, shorter one that is kept begins it
  pub left_out_by_kept : (k : ℕ) → is_kept p k ≡ false
      → (p.kind ≡ LeftmostFirst) × ((i : ℕ) × (i < k) × (is_kept p i ≡ true) × Begins (pattern_word p i) (pattern_word p k) × (length (pattern_word p i) < length (pattern_word p k)))
  left_out_by_kept k unkept =
      let t = keeper p k in
      elim t.which [
        | inl e ↦ (let clash : true ≡ false = sym (subst (λ (i : ℕ). is_kept p i ≡ true) e t.kept) ∙ unkept in cc)
        | inr m ↦ (m.0, (t.who, m.1, t.kept, t.begins_it, m.2))
      ]

  -- and one that an earlier, shorter one begins is left out
  pub left_out_from : (i k : ℕ) → p.kind ≡ LeftmostFirst → i < k → Begins (pattern_word p i) (pattern_word p k) → length (pattern_word p i) < length (pattern_word p k) → is_kept p k ≡ false
  left_out_from i k is lt b short = false_from_ne_true (is_kept p k) (λ kept. omega (arith, kept-no_longer p i k is kept lt b))

  -- a word that has a pattern of its own is cut, under a leftmost kind
  pub own-cut : (v : List ℕ) (k : ℕ) (ks : List ℕ) → is_leftmost p.kind ≡ true → own_matches p v ≡ k ∷ ks → is_cut p v ≡ true
  own-cut v k ks leftmost own = let t = own-first p v k ks own in is_cut-from p v k leftmost t.0 ([], append-nil (pattern_word p k) ∙ t.2)

  -- a word is cut where the word before its last byte is, or where it has a pattern of its own
  pub is_cut-last : (u : List ℕ) (x : ℕ) → is_cut p (u ++ x ∷ []) ≡ true → own_matches p (u ++ x ∷ []) ≡ [] → is_cut p u ≡ true
  is_cut-last u x cut own =
      let c = is_cut-true p (u ++ x ∷ []) cut in
      elim (cases_lt (length (pattern_word p c.1.0)) (length (u ++ x ∷ []))) [
        | inl short ↦ within u x c.1.0 c.0 c.1.1 c.1.2 short
        | inr whole ↦
            (let out = (left_out p (u ++ x ∷ []) c.1.0 own c.1.1 (begins_whole (pattern_word p c.1.0) (u ++ x ∷ []) c.1.2 whole)).1 in
            within u x out.0 c.0 (omega (arith, out.1, c.1.1)) out.2 out.3)
      ]
    where
      within : (u : List ℕ) (x i : ℕ) → is_leftmost p.kind ≡ true → i < length p.words → Begins (pattern_word p i) (u ++ x ∷ []) → length (pattern_word p i) < length (u ++ x ∷ []) → is_cut p u ≡ true
      within u x i leftmost lt b short = is_cut-from p u i leftmost lt (begins_shorter (pattern_word p i) u (u ++ x ∷ []) b (x ∷ [], refl) (omega (arith, length_push u x)))

  -- whether a node ends the walk on by failure links: it has a pattern of its own, under a leftmost kind
  abbrev pub ends_here : List ℕ → Bool
  ends_here v = is_leftmost p.kind && not (is_empty (own_matches p v))

  -- a node that ends the walk is cut, and one that does not has no pattern of its own
  pub ends_here-true : (v : List ℕ) → ends_here v ≡ true → is_cut p v ≡ true
  ends_here-true v h = by_own (own_matches p v) refl (and_parts (is_leftmost p.kind) (not (is_empty (own_matches p v))) h)
    where
      by_own : (ks : List ℕ) → own_matches p v ≡ ks → (is_leftmost p.kind ≡ true) × (not (is_empty (own_matches p v)) ≡ true) → is_cut p v ≡ true
      by_own [] own both = let clash : false ≡ true = sym (ap (λ (xs : List ℕ). not (is_empty xs)) own) ∙ both.1 in cc
      by_own (k ∷ ks) own both = own-cut v k ks both.0 own

  pub ends_here-false : (v : List ℕ) → is_leftmost p.kind ≡ true → ends_here v ≡ false → own_matches p v ≡ []
  ends_here-false v leftmost h = by_own (own_matches p v) refl
    where
      by_own : (ks : List ℕ) → own_matches p v ≡ ks → own_matches p v ≡ []
      by_own [] own = own
      by_own (k ∷ ks) own = let clash : true ≡ false = sym (and_from (is_leftmost p.kind) (not (is_empty (own_matches p v))) leftmost (ap (λ (xs : List ℕ). not (is_empty xs)) own)) ∙ h in cc

  -- the failure link of the first nodes
  pub failure-first : (x : ℕ) → failure_of p (x ∷ []) ≡ cond (is_cut p (x ∷ [])) None (Some [])
  failure-first x = refl

  -- the root is cut where it has a pattern of its own
  pub is_cut-root : is_cut p [] ≡ ends_here []
  is_cut-root =
      elim (cases_Bool (ends_here [])) [
        | inl ends ↦ ends_here-true [] ends ∙ sym ends
        | inr goes_on ↦
            false_from_ne_true (is_cut p []) (λ cut.
            let c = is_cut-true p [] cut in
            let own = ends_here-false [] c.0 goes_on in
            let out = (left_out p [] c.1.0 own c.1.1 (begins_whole (pattern_word p c.1.0) [] c.1.2 (omega arith))).1 in
            omega (arith, out.3))
            ∙ sym goes_on
      ]

  -- a word is cut where the word before its last byte is, or where it ends the walk
  pub is_cut-next : (u : List ℕ) (x : ℕ) → is_cut p (u ++ x ∷ []) ≡ cond (is_cut p u) true (ends_here (u ++ x ∷ []))
  is_cut-next u x =
      elim (cases_Bool (is_cut p u)) [
        | inl cut ↦ is_cut-more p u (x ∷ []) cut ∙ sym (cond-true (is_cut p u) true (ends_here (u ++ x ∷ [])) cut)
        | inr uncut ↦ before uncut ∙ sym (cond-false (is_cut p u) true (ends_here (u ++ x ∷ [])) uncut)
      ]
    where
      before : is_cut p u ≡ false → is_cut p (u ++ x ∷ []) ≡ ends_here (u ++ x ∷ [])
      before uncut =
          elim (cases_Bool (ends_here (u ++ x ∷ []))) [
            | inl ends ↦ ends_here-true (u ++ x ∷ []) ends ∙ sym ends
            | inr goes_on ↦
                false_from_ne_true (is_cut p (u ++ x ∷ [])) (λ cut.
                let own = ends_here-false (u ++ x ∷ []) (is_cut-true p (u ++ x ∷ []) cut).0 goes_on in
                let clash : true ≡ false = sym (is_cut-last u x cut own) ∙ uncut in
                cc)
                ∙ sym goes_on
          ]

  -- the failure link of a longer node: none where it has a pattern of its own under a leftmost kind, else where its last
  -- byte leads from the failure link of the node before
  pub failure-next : (y : ℕ) (u : List ℕ) (x : ℕ) → failure_of p (y ∷ u ++ x ∷ []) ≡ cond (ends_here (y ∷ u ++ x ∷ [])) None (follow p No (failure_of p (y ∷ u)) x)
  failure-next y u x =
      elim (cases_Bool (ends_here (y ∷ u ++ x ∷ []))) [
        | inl ends ↦ dead (ends_here-true (y ∷ u ++ x ∷ []) ends) ∙ sym (cond-true (ends_here (y ∷ u ++ x ∷ [])) None (follow p No (failure_of p (y ∷ u)) x) ends)
        | inr goes_on ↦ on goes_on ∙ sym (cond-false (ends_here (y ∷ u ++ x ∷ [])) None (follow p No (failure_of p (y ∷ u)) x) goes_on)
      ]
    where
      dead : is_cut p (y ∷ u ++ x ∷ []) ≡ true → failure_of p (y ∷ u ++ x ∷ []) ≡ None
      dead cut = cond-true (is_cut p (y ∷ u ++ x ∷ [])) None (state_after p (u ++ x ∷ [])) cut

      on : ends_here (y ∷ u ++ x ∷ []) ≡ false → failure_of p (y ∷ u ++ x ∷ []) ≡ follow p No (failure_of p (y ∷ u)) x
      on goes_on =
          elim (cases_Bool (is_cut p (y ∷ u ++ x ∷ []))) [
            | inr uncut ↦ failure_of-push p y u x uncut
            | inl cut ↦
                (let own = ends_here-false (y ∷ u ++ x ∷ []) (is_cut-true p (y ∷ u ++ x ∷ []) cut).0 goes_on in
                let before : is_cut p (y ∷ u) ≡ true = is_cut-last (y ∷ u) x cut own in
                dead cut ∙ sym (ap (λ (s : Option (List ℕ)). follow p No s x) (cond-true (is_cut p (y ∷ u)) None (state_after p u) before)))
          ]

  -- a node's list: its own patterns, then those of its failure link
  pub matches-root : matches_of p (Some []) ≡ own_matches p []
  matches-root = same (is_leftmost p.kind) (own_matches p [])
    where
      same : (b : Bool) (xs : List ℕ) → cond b xs xs ≡ xs
      same true xs = refl
      same false xs = refl

  -- for a longer node
  pub matches-next : (y : ℕ) (u : List ℕ) → matches_of p (Some (y ∷ u)) ≡ own_matches p (y ∷ u) ++ matches_of p (failure_of p (y ∷ u))
  matches-next y u =
      elim (cases_Bool (is_leftmost p.kind)) [
        | inl leftmost ↦
            cond-true (is_leftmost p.kind) (leftmost_matches p (y ∷ u)) (suffix_matches p (y ∷ u)) leftmost
            ∙ elim (cases_Bool (is_cut p (y ∷ u))) [
              | inl cut ↦
                  cond-true (is_cut p (y ∷ u)) (own_matches p (y ∷ u)) (leftmost_matches p u) cut
                  ∙ sym (ap (λ (s : Option (List ℕ)). own_matches p (y ∷ u) ++ matches_of p s) (cond-true (is_cut p (y ∷ u)) None (state_after p u) cut) ∙ append-nil (own_matches p (y ∷ u)))
              | inr uncut ↦
                  cond-false (is_cut p (y ∷ u)) (own_matches p (y ∷ u)) (leftmost_matches p u) uncut
                  ∙ sym (cond-true (is_leftmost p.kind) (leftmost_matches p u) (suffix_matches p u) leftmost)
                  ∙ sym (matches_of-state_after p u)
                  ∙ sym (ap (λ (s : Option (List ℕ)). own_matches p (y ∷ u) ++ matches_of p s) (cond-false (is_cut p (y ∷ u)) None (state_after p u) uncut)
                  ∙ ap (λ (xs : List ℕ). xs ++ matches_of p (state_after p u)) (own_of_uncut p (y ∷ u) leftmost uncut))
            ]
        | inr standard ↦
            cond-false (is_leftmost p.kind) (leftmost_matches p (y ∷ u)) (suffix_matches p (y ∷ u)) standard
            ∙ ap (λ (xs : List ℕ). own_matches p (y ∷ u) ++ xs) (sym (cond-false (is_leftmost p.kind) (leftmost_matches p u) (suffix_matches p u) standard) ∙ sym (matches_of-state_after p u))
            ∙ sym (ap (λ (s : Option (List ℕ)). own_matches p (y ∷ u) ++ matches_of p s) (cond-false (is_cut p (y ∷ u)) None (state_after p u) (never_cut p (y ∷ u) standard)))
      ]

  -- a failure link leads to a shorter node
  pub failure-is_node : (y : ℕ) (u v : List ℕ) → failure_of p (y ∷ u) ≡ Some v → (is_node p v ≡ true) × (length v ≤ length u)
  failure-is_node y u v e =
      elim (cases_Bool (is_cut p (y ∷ u))) [
        | inl cut ↦ (let clash : None ≡ Some v = sym (cond-true (is_cut p (y ∷ u)) None (state_after p u) cut) ∙ e in cc)
        | inr uncut ↦
            (let state : state_after p u ≡ Some v = sym (cond-false (is_cut p (y ∷ u)) None (state_after p u) uncut) ∙ e in
            (state-is_node p u v state, omega (arith, depth-state_after p u, ap depth_of state)))
      ]

  -- so under a leftmost kind a node with patterns of its own lists these alone, and another what its failure link does
  pub matches-own : (y : ℕ) (u : List ℕ) (k : ℕ) (ks : List ℕ) → is_leftmost p.kind ≡ true → own_matches p (y ∷ u) ≡ k ∷ ks → matches_of p (Some (y ∷ u)) ≡ own_matches p (y ∷ u)
  matches-own y u k ks leftmost own =
      matches-next y u
      ∙ ap (λ (s : Option (List ℕ)). own_matches p (y ∷ u) ++ matches_of p s) (cond-true (is_cut p (y ∷ u)) None (state_after p u) (own-cut (y ∷ u) k ks leftmost own))
      ∙ append-nil (own_matches p (y ∷ u))

  -- and a node with none lists what its failure link does
  pub matches-linked : (y : ℕ) (u : List ℕ) → own_matches p (y ∷ u) ≡ [] → matches_of p (Some (y ∷ u)) ≡ matches_of p (failure_of p (y ∷ u))
  matches-linked y u own = matches-next y u ∙ ap (λ (xs : List ℕ). xs ++ matches_of p (failure_of p (y ∷ u))) own
