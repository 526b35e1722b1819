-- What the tests on words say: which patterns are kept, which words are nodes or cut, and what a word's own patterns are.
use Rattle.std.proofs.Common.{◌≡◌, ◌≢◌, ◌↔◌, ◌⊎◌, inl, inr, ℕ, zero, suc, ◌<◌, ◌≤◌, true, false, ◌&&◌, List, [], ◌∷◌, ◌++◌, length, ltb, refl, sym, ◌∙◌, ap, subst, arith}
use Rattle.std.specs.List.{list_any, All}
use Rattle.std.proofs.lemmas.Bool.{cases_Bool, cases_lt, and_parts, and_from, lt-ltb, ltb-true, not-false, not-true, false_from_ne_true}
use Rattle.std.proofs.lemmas.List.{append-nil, length_push as length-push}
use Rattle.aho_core.specs.declared.search.MatchKind.{MatchKind}
use Rattle.aho_core.specs.declared.search.MatchKind.TheVariants.{Standard, LeftmostFirst, LeftmostLongest}
use Rattle.aho_laws.proofs.Begins.{Begins, begins-true, begins-from, begins_trans, begins_shorter, is_word-true, is_word-from, any-true, any-from, first_passing, none_passing, all_passing}
use Rattle.aho_core.specs.Failure.{is_cut, is_leftmost}
use Rattle.aho_core.specs.MatchList.{own_matches}
use Rattle.aho_core.specs.Patterns.{Patterns, numbers}
use Rattle.aho_core.specs.Trie.{begins, is_kept, is_node, is_word, kept_by, pattern_word}
use Rattle.aho_laws.specs.TrieLaws.{BeginsKept, IsBegun}

-- the kinds, by the test of the leftmost ones
pub leftmost_kinds : (kind : MatchKind) → is_leftmost kind ≡ true → (kind ≡ LeftmostFirst) ⊎ (kind ≡ LeftmostLongest)
leftmost_kinds Standard h = cc
leftmost_kinds LeftmostFirst h = inl refl
leftmost_kinds LeftmostLongest h = inr refl

pub other_than_standard : (kind : MatchKind) → kind ≢ Standard → is_leftmost kind ≡ true
other_than_standard Standard h = absurd (h refl)
other_than_standard LeftmostFirst h = refl
other_than_standard LeftmostLongest h = refl

pub standard_only : (kind : MatchKind) → is_leftmost kind ≡ true → kind ≢ Standard
standard_only kind h e = let clash : true ≡ false = sym h ∙ ap is_leftmost e in cc

module _ (p : Patterns) where
  -- LeftmostFirst keeps a pattern only where no earlier, shorter one begins it
  begins_first : (kind : MatchKind) → kind ≡ LeftmostFirst → (j k : ℕ) → kept_by kind p k ≡ true → j < k → Begins (pattern_word p j) (pattern_word p k) → length (pattern_word p k) ≤ length (pattern_word p j)
  begins_first Standard is j k h lt b = cc
  begins_first LeftmostLongest is j k h lt b = cc
  begins_first LeftmostFirst is j k h lt b =
      elim (cases_lt (length (pattern_word p j)) (length (pattern_word p k))) [
        | inl shorter ↦
            (let found = any-from (λ i. ltb (length (pattern_word p i)) (length (pattern_word p k)) && begins (pattern_word p i) (pattern_word p k)) 0 k j (omega arith) (omega arith)
            (and_from (ltb (length (pattern_word p j)) (length (pattern_word p k))) (begins (pattern_word p j) (pattern_word p k)) (lt-ltb _ _ shorter) (begins-from (pattern_word p j) b.0 (pattern_word p k) b.1)) in
            let clash : true ≡ false = sym found ∙ not-true _ h in
            cc)
        | inr ge ↦ ge
      ]

  -- and what is left out is begun by an earlier, shorter one
  unkept : (kind : MatchKind) (k : ℕ) → kept_by kind p k ≡ false
      → (kind ≡ LeftmostFirst) × ((j : ℕ) × (j < k) × Begins (pattern_word p j) (pattern_word p k) × (length (pattern_word p j) < length (pattern_word p k)))
  unkept Standard k h = cc
  unkept LeftmostLongest k h = cc
  unkept LeftmostFirst k h =
      let found = any-true (λ i. ltb (length (pattern_word p i)) (length (pattern_word p k)) && begins (pattern_word p i) (pattern_word p k)) 0 k (not-false _ h) in
      let both = and_parts (ltb (length (pattern_word p found.0)) (length (pattern_word p k))) (begins (pattern_word p found.0) (pattern_word p k)) found.3 in
      (refl, (found.0, omega (arith, found.2), begins-true (pattern_word p found.0) (pattern_word p k) both.1, ltb-true _ _ both.0))

  -- what an earlier pattern begins, and is kept, is no longer than that pattern
  pub kept-no_longer : (j k : ℕ) → p.kind ≡ LeftmostFirst → is_kept p k ≡ true → j < k → Begins (pattern_word p j) (pattern_word p k) → length (pattern_word p k) ≤ length (pattern_word p j)
  unfolding is_kept
  kept-no_longer j k is h lt b = begins_first p.kind is j k h lt b

  -- who begins a pattern and is kept: the pattern itself, or an earlier, shorter one
  pub record Keeper (k : ℕ) : Type 0 where
    pub who : ℕ
    pub kept : is_kept p who ≡ true
    pub begins_it : Begins (pattern_word p who) (pattern_word p k)
    pub which : (who ≡ k) ⊎ ((p.kind ≡ LeftmostFirst) × (who < k) × (length (pattern_word p who) < length (pattern_word p k)))

  -- a kept pattern is its own keeper; one that is left out has the keeper of the pattern that begins it
  keeps_itself : (k : ℕ) → is_kept p k ≡ true → Keeper k
  keeps_itself k kept = record { who = k; kept = kept; begins_it = ([], append-nil (pattern_word p k)); which = inl refl }

  keeps_for : (j k : ℕ) → p.kind ≡ LeftmostFirst → j < k → Begins (pattern_word p j) (pattern_word p k) → length (pattern_word p j) < length (pattern_word p k) → Keeper j → Keeper k
  keeps_for j k is lt b short t = record {
    who = t.who;
    kept = t.kept;
    begins_it = begins_trans (pattern_word p t.who) (pattern_word p j) (pattern_word p k) t.begins_it b;
    which = inr (
      is,
      elim t.which [ inl e ↦ omega arith | inr m ↦ omega (arith, m.1) ],
      elim t.which [ inl e ↦ (let same : length (pattern_word p t.who) ≡ length (pattern_word p j) = ap (λ (i : ℕ). length (pattern_word p i)) e in omega arith) | inr m ↦ omega (arith, m.2) ],
    );
  }

  -- each pattern has one: that of a pattern left out has a lesser number
  keeper_within : (n k : ℕ) → k ≤ n → Keeper k
  unfolding is_kept
  keeper_within zero k le =
      elim (cases_Bool (is_kept p k)) [ inl kept ↦ keeps_itself k kept | inr other ↦ absurd (omega (arith, (unkept p.kind k other).1.1)) ]
  keeper_within (suc n) k le =
      elim (cases_Bool (is_kept p k)) [
        | inl kept ↦ keeps_itself k kept
        | inr other ↦ (let u = unkept p.kind k other in keeps_for u.1.0 k u.0 u.1.1 u.1.2 u.1.3 (keeper_within n u.1.0 (omega (arith, u.1.1))))
      ]

  pub keeper : (k : ℕ) → Keeper k
  keeper k = keeper_within k k (omega arith)

  keeper_inside : (k : ℕ) (t : Keeper k) → k < length p.words → t.who < length p.words
  keeper_inside k t lt = elim t.which [ inl e ↦ omega arith | inr m ↦ omega (arith, m.1) ]

  -- a pattern that is kept and begins with a word makes that word a node
  pub is_node-from : (v : List ℕ) (k : ℕ) → k < length p.words → is_kept p k ≡ true → Begins v (pattern_word p k) → is_node p v ≡ true
  unfolding is_node
  is_node-from [] k lt kept b = refl
  is_node-from (x ∷ v) k lt kept b =
      any-from (λ i. is_kept p i && begins (x ∷ v) (pattern_word p i)) 0 (length p.words) k (omega arith) (omega arith)
      (and_from (is_kept p k) (begins (x ∷ v) (pattern_word p k)) kept (begins-from (x ∷ v) b.0 (pattern_word p k) b.1))

  -- the root is a node
  pub is_node-root : is_node p [] ≡ true
  unfolding is_node
  is_node-root = refl

  -- and another node begins a kept pattern
  pub is_node-true : (x : ℕ) (v : List ℕ) → is_node p (x ∷ v) ≡ true → (k : ℕ) × (k < length p.words) × (is_kept p k ≡ true) × Begins (x ∷ v) (pattern_word p k)
  unfolding is_node
  is_node-true x v h =
      let found = any-true (λ i. is_kept p i && begins (x ∷ v) (pattern_word p i)) 0 (length p.words) h in
      let both = and_parts (is_kept p found.0) (begins (x ∷ v) (pattern_word p found.0)) found.3 in
      (found.0, omega (arith, found.2), both.0, begins-true (x ∷ v) (pattern_word p found.0) both.1)

  -- what begins a node is one
  pub is_node-front : (u v : List ℕ) → is_node p (u ++ v) ≡ true → is_node p u ≡ true
  is_node-front [] v h = is_node-root
  is_node-front (x ∷ u) v h =
      let t = is_node-true x (u ++ v) h in
      is_node-from (x ∷ u) t.0 t.1 t.2 (begins_trans (x ∷ u) (x ∷ (u ++ v)) (pattern_word p t.0) (v, refl) t.3)

  -- a word is cut under a leftmost kind where a pattern begins it
  pub is_cut-from : (v : List ℕ) (k : ℕ) → is_leftmost p.kind ≡ true → k < length p.words → Begins (pattern_word p k) v → is_cut p v ≡ true
  unfolding is_cut
  is_cut-from v k leftmost lt b =
      and_from (is_leftmost p.kind) (list_any (λ i. begins (pattern_word p i) v) (numbers p)) leftmost
      (any-from (λ i. begins (pattern_word p i) v) 0 (length p.words) k (omega arith) (omega arith) (begins-from (pattern_word p k) b.0 v b.1))

  pub is_cut-true : (v : List ℕ) → is_cut p v ≡ true → (is_leftmost p.kind ≡ true) × ((k : ℕ) × (k < length p.words) × Begins (pattern_word p k) v)
  unfolding is_cut
  is_cut-true v h =
      let both = and_parts (is_leftmost p.kind) (list_any (λ i. begins (pattern_word p i) v) (numbers p)) h in
      let found = any-true (λ i. begins (pattern_word p i) v) 0 (length p.words) both.1 in
      (both.0, (found.0, omega (arith, found.2), begins-true (pattern_word p found.0) v found.3))

  -- what a cut word begins is cut
  pub is_cut-more : (u v : List ℕ) → is_cut p u ≡ true → is_cut p (u ++ v) ≡ true
  is_cut-more u v h =
      let t = is_cut-true u h in
      is_cut-from (u ++ v) t.1.0 t.0 t.1.1 (begins_trans (pattern_word p t.1.0) u (u ++ v) t.1.2 (v, refl))

  -- a pattern that stands at a word's start, whole or in part: the word is cut, or a node
  pub starts_here : (v y : List ℕ) (k : ℕ) → is_leftmost p.kind ≡ true → k < length p.words → Begins (pattern_word p k) (v ++ y) → (is_cut p v ≡ true) ⊎ (is_node p v ≡ true)
  starts_here v y k leftmost lt b =
      let t = keeper k in
      let stands : Begins (pattern_word p t.who) (v ++ y) = begins_trans (pattern_word p t.who) (pattern_word p k) (v ++ y) t.begins_it b in
      let inside : t.who < length p.words = elim t.which [ inl e ↦ omega arith | inr m ↦ omega (arith, m.1) ] in
      elim (cases_lt (length v) (length (pattern_word p t.who))) [
        | inl long ↦ inr (is_node-from v t.who inside t.kept (begins_shorter v (pattern_word p t.who) (v ++ y) (y, refl) stands (omega arith)))
        | inr short ↦ inl (is_cut-from v t.who leftmost inside (begins_shorter (pattern_word p t.who) v (v ++ y) stands (y, refl) short))
      ]

  -- so what is not a node is cut only where it was cut before its last byte
  pub is_cut-before : (u : List ℕ) (x : ℕ) → is_cut p (u ++ x ∷ []) ≡ true → is_node p (u ++ x ∷ []) ≡ false → is_cut p u ≡ true
  is_cut-before u x h other =
      let c = is_cut-true (u ++ x ∷ []) h in
      let k = c.1.0 in
      let t = keeper k in
      let stands : Begins (pattern_word p t.who) (u ++ x ∷ []) = begins_trans (pattern_word p t.who) (pattern_word p k) (u ++ x ∷ []) t.begins_it c.1.2 in
      let inside : t.who < length p.words = elim t.which [ inl e ↦ omega (arith, c.1.1) | inr m ↦ omega (arith, m.1, c.1.1) ] in
      elim (cases_lt (length u) (length (pattern_word p t.who))) [
        | inl long ↦
            (let whole : Begins (u ++ x ∷ []) (pattern_word p t.who) = begins_shorter (u ++ x ∷ []) (pattern_word p t.who) (u ++ x ∷ []) ([], append-nil (u ++ x ∷ [])) stands (omega (arith, length-push u x)) in
            let clash : true ≡ false = sym (is_node-from (u ++ x ∷ []) t.who inside t.kept whole) ∙ other in
            cc)
        | inr short ↦ is_cut-from u t.who c.0 inside (begins_shorter (pattern_word p t.who) u (u ++ x ∷ []) stands (x ∷ [], refl) short)
      ]

  -- the first of a word's own patterns
  pub own-first : (v : List ℕ) (k : ℕ) (ks : List ℕ) → own_matches p v ≡ k ∷ ks
      → (k < length p.words) × (is_kept p k ≡ true) × (pattern_word p k ≡ v) × ((j : ℕ) → j < length p.words → is_kept p j ≡ true → pattern_word p j ≡ v → k ≤ j)
  unfolding own_matches
  own-first v k ks h =
      let t = first_passing (λ i. is_kept p i && is_word (pattern_word p i) v) 0 (length p.words) k ks h in
      let both = and_parts (is_kept p k) (is_word (pattern_word p k) v) t.2 in
      (omega (arith, t.1), both.0, is_word-true (pattern_word p k) v both.1, λ j lt kept e. t.3 j (omega arith) (omega arith) (and_from (is_kept p j) (is_word (pattern_word p j) v) kept (is_word-from (pattern_word p j) v e)))

  -- no pattern that is kept is a word with none of its own
  pub own-none : (v : List ℕ) → own_matches p v ≡ [] → (j : ℕ) → j < length p.words → is_kept p j ≡ true → pattern_word p j ≡ v → ⊥
  unfolding own_matches
  own-none v h j lt kept e =
      none_passing (λ i. is_kept p i && is_word (pattern_word p i) v) 0 (length p.words) h j (omega arith) (omega arith) (and_from (is_kept p j) (is_word (pattern_word p j) v) kept (is_word-from (pattern_word p j) v e))

  -- what holds of each kept pattern that is the word holds of all its own
  pub own-all : (P : ℕ → Type 0) (v : List ℕ) → ((k : ℕ) → k < length p.words → is_kept p k ≡ true → pattern_word p k ≡ v → P k) → All P (own_matches p v)
  unfolding own_matches
  own-all P v each =
      all_passing P (λ i. is_kept p i && is_word (pattern_word p i) v) 0 (length p.words)
      (λ k low high t. let both = and_parts (is_kept p k) (is_word (pattern_word p k) v) t in each k (omega arith) both.0 (is_word-true (pattern_word p k) v both.1))

  -- only a node has patterns of its own
  pub own-not_node : (v : List ℕ) → is_node p v ≡ false → own_matches p v ≡ []
  own-not_node v other = by_list (own_matches p v) refl
    where
      by_list : (ks : List ℕ) → own_matches p v ≡ ks → own_matches p v ≡ []
      by_list [] e = e
      by_list (k ∷ ks) e =
          let t = own-first v k ks e in
          let clash : true ≡ false = sym (is_node-from v k t.0 t.1 ([], append-nil v ∙ sym t.2)) ∙ other in
          cc

  -- a kind other than LeftmostFirst keeps every pattern
  pub all_kept : (k : ℕ) → (p.kind ≡ LeftmostFirst → ⊥) → is_kept p k ≡ true
  all_kept k other = let t = keeper k in elim t.which [ inl e ↦ subst (λ (i : ℕ). is_kept p i ≡ true) e t.kept | inr m ↦ absurd (other m.0) ]

  -- Standard keeps every pattern
  pub every_kept : is_leftmost p.kind ≡ false → (k : ℕ) → is_kept p k ≡ true
  every_kept standard k = all_kept k (λ e. let clash : false ≡ true = sym standard ∙ ap is_leftmost e in cc)

  -- a pattern that is the word, where the word has none of its own, is left out for an earlier, shorter one
  pub left_out : (v : List ℕ) (j : ℕ) → own_matches p v ≡ [] → j < length p.words → pattern_word p j ≡ v
      → (p.kind ≡ LeftmostFirst) × ((i : ℕ) × (i < j) × Begins (pattern_word p i) v × (length (pattern_word p i) < length v))
  left_out v j own lt whole =
      let t = keeper j in
      elim t.which [
        | inl e ↦ absurd (own-none v own j lt (subst (λ (i : ℕ). is_kept p i ≡ true) e t.kept) whole)
        | inr m ↦ (m.0, (t.who, m.1, subst (λ (w : List ℕ). Begins (pattern_word p t.who) w) whole t.begins_it, omega (arith, m.2, ap length whole)))
      ]

  -- a pattern that begins no node and reaches past it is left out for an earlier one that lies within
  pub past_dead : (v y : List ℕ) (j : ℕ) → is_node p v ≡ false → j < length p.words → Begins (pattern_word p j) (v ++ y) → length v < length (pattern_word p j)
      → (p.kind ≡ LeftmostFirst) × ((i : ℕ) × (i < j) × Begins (pattern_word p i) v)
  past_dead v y j other lt b long =
      let t = keeper j in
      let stands : Begins (pattern_word p t.who) (v ++ y) = begins_trans (pattern_word p t.who) (pattern_word p j) (v ++ y) t.begins_it b in
      elim (cases_lt (length v) (length (pattern_word p t.who))) [
        | inl past ↦
            (let clash : true ≡ false = sym (is_node-from v t.who (keeper_inside j t lt) t.kept (begins_shorter v (pattern_word p t.who) (v ++ y) (y, refl) stands (omega arith))) ∙ other in
            cc)
        | inr within ↦
            elim t.which [
              | inl e ↦ absurd (omega (arith, ap (λ (i : ℕ). length (pattern_word p i)) e))
              | inr m ↦ (m.0, (t.who, m.1, begins_shorter (pattern_word p t.who) v (v ++ y) stands (y, refl) within))
            ]
      ]

  -- a node, said by the patterns
  pub is_node-reads : (v : List ℕ) → (is_node p v ≡ true) ↔ ((v ≡ []) ⊎ BeginsKept p v)
  is_node-reads [] = ((λ h. inl refl), (λ h. is_node-root))
  is_node-reads (x ∷ v) = (
    (λ h. let t = is_node-true x v h in inr (record { number = t.0; numbered = t.1; kept = t.2; rest = t.3.0; whole = t.3.1 })),
    (λ h. elim h [ inl e ↦ cc | inr b ↦ is_node-from (x ∷ v) b.number b.numbered b.kept (b.rest, b.whole) ]),
  )

  -- what is left out
  pub is_kept-reads : (k : ℕ) → (is_kept p k ≡ false) ↔ ((p.kind ≡ LeftmostFirst) × IsBegun p k)
  is_kept-reads k = (
    (λ h.
        let t = keeper k in
        elim t.which [
          | inl e ↦ (let clash : true ≡ false = sym (subst (λ (i : ℕ). is_kept p i ≡ true) e t.kept) ∙ h in cc)
          | inr m ↦ (m.0, record { earlier = t.who; before = m.1; shorter = m.2; rest = t.begins_it.0; whole = t.begins_it.1 })
        ]),
    (λ h. false_from_ne_true (is_kept p k) (λ kept. omega (arith, kept-no_longer h.1.earlier k h.0 kept h.1.before (h.1.rest, h.1.whole), h.1.shorter))),
  )
