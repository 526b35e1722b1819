-- What a word's state lists.
use Rattle.std.proofs.Common.{◌≡◌, ◌⊎◌, inl, inr, ℕ, zero, suc, ◌+◌, ◌<◌, ◌≤◌, Bool, true, false, ◌&&◌, List, [], ◌∷◌, ◌++◌, length, refl, sym, ◌∙◌, ap, subst, arith, length-append}
use Rattle.std.specs.Prelude.{Option, filter}
use Rattle.std.specs.List.{range_with_len, All}
use Rattle.std.proofs.lemmas.Bool.{cases_Bool, cases_eq, cond-true, cond-false, and_parts, and_from}
use Rattle.std.proofs.lemmas.List.{append-nil}
use Rattle.std.proofs.lemmas.List.Elements.{All-nil, All-append, All-weaker}
use Rattle.aho_laws.proofs.Begins.{is_word-true, is_word-from}
use Rattle.aho_laws.proofs.Kept.{is_cut-true, is_cut-from, own-all, own-not_node, all_kept}
use Rattle.aho_laws.proofs.StepLaw.{state-node, state-cut, state-shorter}
use Rattle.aho_core.specs.Failure.{is_cut, is_leftmost, state_after}
use Rattle.aho_core.specs.Listing.{IsListedBy, IsMember}
use Rattle.aho_core.specs.MatchList.{leftmost_matches, matches_of, matches_of_word, own_matches, suffix_matches}
use Rattle.aho_core.specs.Patterns.{Patterns}
use Rattle.aho_core.specs.Trie.{is_kept, is_node, is_word, pattern_word}

-- a word that ends another
abbrev pub Ends : List ℕ → List ℕ → Type 0
Ends xs ys = (front : List ℕ) × (front ++ xs ≡ ys)

-- members of two lists, one after the other
pub member-left : {X : Type 0} (xs ys : List X) (x : X) → IsMember xs x → IsMember (xs ++ ys) x
member-left [] ys x h = absurd h
member-left (y ∷ xs) ys x h = elim h [ inl e ↦ inl e | inr m ↦ inr (member-left xs ys x m) ]

pub member-right : {X : Type 0} (xs ys : List X) (x : X) → IsMember ys x → IsMember (xs ++ ys) x
member-right [] ys x h = h
member-right (y ∷ xs) ys x h = inr (member-right xs ys x h)

pub member-of_append : {X : Type 0} (xs ys : List X) (x : X) → IsMember (xs ++ ys) x → IsMember xs x ⊎ IsMember ys x
member-of_append [] ys x h = inr h
member-of_append (y ∷ xs) ys x h = elim h [ inl e ↦ inl (inl e) | inr m ↦ elim (member-of_append xs ys x m) [ inl a ↦ inl (inr a) | inr b ↦ inr b ] ]

-- two ordered lists, one after the other, where the first is before the second
pub listed-append : {X : Type 0} (Before : X → X → Type 0) (xs ys : List X) → IsListedBy Before xs → IsListedBy Before ys
    → ((x y : X) → IsMember xs x → IsMember ys y → Before x y) → IsListedBy Before (xs ++ ys)
listed-append Before [] ys p q across = q
listed-append Before (x ∷ xs) ys p q across = (
  (λ later m. elim (member-of_append xs ys later m) [ inl a ↦ p.0 later a | inr b ↦ across x later (inl refl) b ]),
  listed-append Before xs ys p.1 q (λ a b in_xs in_ys. across a b (inr in_xs) in_ys),
)

-- the numbers of a range that pass a test
passing-member : (f : ℕ → Bool) (a n k : ℕ) → IsMember (filter f (range_with_len a n)) k → (a ≤ k) × (k < a + n) × (f k ≡ true)
passing-member f a zero k h = absurd h
passing-member f a (suc n) k h =
    let rest = filter f (range_with_len (a + 1) n) in
    elim (cases_Bool (f a)) [
      | inl t ↦
          (let m : IsMember (a ∷ rest) k = subst (λ (xs : List ℕ). IsMember xs k) (cond-true (f a) (a ∷ rest) rest t) h in
          elim m [
            | inl e ↦ (omega arith, omega arith, ap f e ∙ t)
            | inr later ↦ (let s = passing-member f (a + 1) n k later in (omega (arith, s.0), omega (arith, s.1), s.2))
          ])
      | inr t ↦
          (let m : IsMember rest k = subst (λ (xs : List ℕ). IsMember xs k) (cond-false (f a) (a ∷ rest) rest t) h in
          let s = passing-member f (a + 1) n k m in
          (omega (arith, s.0), omega (arith, s.1), s.2))
    ]

-- each that passes is among them
passing-has : (f : ℕ → Bool) (a n k : ℕ) → a ≤ k → k < a + n → f k ≡ true → IsMember (filter f (range_with_len a n)) k
passing-has f a zero k low high h = absurd (omega arith)
passing-has f a (suc n) k low high h =
    let rest = filter f (range_with_len (a + 1) n) in
    elim (cases_eq k a) [
      | inl e ↦ subst (λ (xs : List ℕ). IsMember xs k) (sym (cond-true (f a) (a ∷ rest) rest (ap f (sym e) ∙ h))) (inl e)
      | inr apart ↦
          (let m : IsMember rest k = passing-has f (a + 1) n k (omega arith) (omega arith) h in
          elim (cases_Bool (f a)) [
            | inl t ↦ subst (λ (xs : List ℕ). IsMember xs k) (sym (cond-true (f a) (a ∷ rest) rest t)) (inr m)
            | inr t ↦ subst (λ (xs : List ℕ). IsMember xs k) (sym (cond-false (f a) (a ∷ rest) rest t)) m
          ])
    ]

-- and they rise
passing-listed : (f : ℕ → Bool) (a n : ℕ) → IsListedBy (λ j k. j < k) (filter f (range_with_len a n))
passing-listed f a zero = tt
passing-listed f a (suc n) =
    let rest = filter f (range_with_len (a + 1) n) in
    elim (cases_Bool (f a)) [
      | inl t ↦ subst (IsListedBy (λ j k. j < k)) (sym (cond-true (f a) (a ∷ rest) rest t)) ((λ later m. omega (arith, (passing-member f (a + 1) n later m).0)), passing-listed f (a + 1) n)
      | inr t ↦ subst (IsListedBy (λ j k. j < k)) (sym (cond-false (f a) (a ∷ rest) rest t)) (passing-listed f (a + 1) n)
    ]

-- an order that says less
pub listed-weaker : {X : Type 0} (A B : X → X → Type 0) (xs : List X) → ((x y : X) → IsMember xs x → IsMember xs y → A x y → B x y) → IsListedBy A xs → IsListedBy B xs
listed-weaker A B [] weaker h = tt
listed-weaker A B (x ∷ xs) weaker h = ((λ later m. weaker x later (inl refl) (inr m) (h.0 later m)), listed-weaker A B xs (λ y z in_y in_z. weaker y z (inr in_y) (inr in_z)) h.1)

-- the longer pattern first, then the lesser number
abbrev pub ListedBefore : Patterns → ℕ → ℕ → Type 0
ListedBefore p j k = (length (pattern_word p k) < length (pattern_word p j)) ⊎ ((length (pattern_word p j) ≡ length (pattern_word p k)) × (j < k))

module _ (p : Patterns) where
  -- a word's own patterns are those that are kept and are the word, by number
  pub own-member : (v : List ℕ) (k : ℕ) → IsMember (own_matches p v) k → (k < length p.words) × (is_kept p k ≡ true) × (pattern_word p k ≡ v)
  unfolding own_matches
  own-member v k h =
      let t = passing-member (λ i. is_kept p i && is_word (pattern_word p i) v) 0 (length p.words) k h in
      let both = and_parts (is_kept p k) (is_word (pattern_word p k) v) t.2 in
      (omega (arith, t.1), both.0, is_word-true (pattern_word p k) v both.1)

  pub own-has : (v : List ℕ) (k : ℕ) → k < length p.words → is_kept p k ≡ true → pattern_word p k ≡ v → IsMember (own_matches p v) k
  unfolding own_matches
  own-has v k lt kept e =
      passing-has (λ i. is_kept p i && is_word (pattern_word p i) v) 0 (length p.words) k (omega arith) (omega arith)
      (and_from (is_kept p k) (is_word (pattern_word p k) v) kept (is_word-from (pattern_word p k) v e))

  pub own-listed : (v : List ℕ) → IsListedBy (λ j k. j < k) (own_matches p v)
  unfolding own_matches
  own-listed v = passing-listed (λ i. is_kept p i && is_word (pattern_word p i) v) 0 (length p.words)

  own-listed_before : (v : List ℕ) → IsListedBy (ListedBefore p) (own_matches p v)
  own-listed_before v =
      listed-weaker (λ j k. j < k) (ListedBefore p) (own_matches p v) (λ j k in_j in_k lt. inr (ap length ((own-member v j in_j).2 ∙ sym (own-member v k in_k).2), lt)) (own-listed v)

  -- Standard lists each pattern that ends the word, and nothing else
  pub suffix-member : (w : List ℕ) (k : ℕ) → IsMember (suffix_matches p w) k → (k < length p.words) × Ends (pattern_word p k) w
  suffix-member [] k h = let t = own-member [] k h in (t.0, ([], t.2))
  suffix-member (x ∷ w) k h =
      elim (member-of_append (own_matches p (x ∷ w)) (suffix_matches p w) k h) [
        | inl own ↦ (let t = own-member (x ∷ w) k own in (t.0, ([], t.2)))
        | inr m ↦ (let t = suffix-member w k m in (t.0, (x ∷ t.1.0, ap (λ (v : List ℕ). x ∷ v) t.1.1)))
      ]

  -- every pattern that ends the word is there
  pub suffix-has : (w : List ℕ) (k : ℕ) → is_leftmost p.kind ≡ false → k < length p.words → Ends (pattern_word p k) w → IsMember (suffix_matches p w) k
  suffix-has w k standard lt ends = by_front w ends.0 ends.1
    where
      kept_one : is_kept p k ≡ true
      kept_one = all_kept p k (λ e. let clash : false ≡ true = sym standard ∙ ap is_leftmost e in cc)

      by_front : (w front : List ℕ) → front ++ pattern_word p k ≡ w → IsMember (suffix_matches p w) k
      by_front [] [] e = own-has [] k lt kept_one e
      by_front [] (y ∷ front) e = cc
      by_front (x ∷ w) [] e = member-left (own_matches p (x ∷ w)) (suffix_matches p w) k (own-has (x ∷ w) k lt kept_one e)
      by_front (x ∷ w) (y ∷ front) e = member-right (own_matches p (x ∷ w)) (suffix_matches p w) k (by_front w front (cc))

  -- by length, the longest first, then by number
  pub suffix-listed : (w : List ℕ) → IsListedBy (ListedBefore p) (suffix_matches p w)
  suffix-listed [] = own-listed_before []
  suffix-listed (x ∷ w) =
      listed-append (ListedBefore p) (own_matches p (x ∷ w)) (suffix_matches p w) (own-listed_before (x ∷ w)) (suffix-listed w)
      (λ j k in_own in_rest.
      let whole : length (pattern_word p j) ≡ length (x ∷ w) = ap length (own-member (x ∷ w) j in_own).2 in
      let e = (suffix-member w k in_rest).1 in
      inl (omega (arith, ap length e.1, length-append e.0 (pattern_word p k))))

  -- a pattern listed is there, and no longer than the word
  abbrev pub FitsWord : ℕ → ℕ → Type 0
  FitsWord n k = (k < length p.words) × (length (pattern_word p k) ≤ n)

  -- so each list fits the word
  own-fits : (v : List ℕ) (n : ℕ) → length v ≤ n → All (FitsWord n) (own_matches p v)
  own-fits v n le = own-all p (FitsWord n) v (λ k lt kept e. (lt, omega (arith, ap length e)))

  pub suffix-fits : (w : List ℕ) (n : ℕ) → length w ≤ n → All (FitsWord n) (suffix_matches p w)
  suffix-fits [] n le = own-fits [] n le
  suffix-fits (x ∷ w) n le = All-append (FitsWord n) (own_matches p (x ∷ w)) (suffix_matches p w) (own-fits (x ∷ w) n le) (suffix-fits w n (omega arith))

  pub leftmost-fits : (w : List ℕ) (n : ℕ) → length w ≤ n → All (FitsWord n) (leftmost_matches p w)
  leftmost-fits [] n le = own-fits [] n le
  leftmost-fits (x ∷ w) n le =
      elim (cases_Bool (is_cut p (x ∷ w))) [
        | inl cut ↦ subst (All (FitsWord n)) (sym (cond-true (is_cut p (x ∷ w)) (own_matches p (x ∷ w)) (leftmost_matches p w) cut)) (own-fits (x ∷ w) n le)
        | inr uncut ↦ subst (All (FitsWord n)) (sym (cond-false (is_cut p (x ∷ w)) (own_matches p (x ∷ w)) (leftmost_matches p w) uncut)) (leftmost-fits w n (omega arith))
      ]

  pub matches-fit : (w : List ℕ) (n : ℕ) → length w ≤ n → All (FitsWord n) (matches_of_word p w)
  matches-fit w n le =
      elim (cases_Bool (is_leftmost p.kind)) [
        | inl leftmost ↦ subst (All (FitsWord n)) (sym (cond-true (is_leftmost p.kind) (leftmost_matches p w) (suffix_matches p w) leftmost)) (leftmost-fits w n le)
        | inr standard ↦ subst (All (FitsWord n)) (sym (cond-false (is_leftmost p.kind) (leftmost_matches p w) (suffix_matches p w) standard)) (suffix-fits w n le)
      ]

  -- Standard cuts no word
  pub never_cut : (w : List ℕ) → is_leftmost p.kind ≡ false → is_cut p w ≡ false
  never_cut w standard = elim (cases_Bool (is_cut p w)) [ inl cut ↦ (let clash : true ≡ false = sym (is_cut-true p w cut).0 ∙ standard in cc) | inr uncut ↦ uncut ]

  -- the state after a word lists what the word does
  pub suffix-state : (w : List ℕ) → is_leftmost p.kind ≡ false → (s : Option (List ℕ)) → s ≡ state_after p w → matches_of p s ≡ suffix_matches p w
  suffix-state [] standard s e = ap (matches_of p) e ∙ cond-false (is_leftmost p.kind) (leftmost_matches p []) (suffix_matches p []) standard
  suffix-state (x ∷ w) standard s e =
      elim (cases_Bool (is_node p (x ∷ w))) [
        | inl node ↦ ap (matches_of p) (e ∙ state-node p x w node) ∙ cond-false (is_leftmost p.kind) (leftmost_matches p (x ∷ w)) (suffix_matches p (x ∷ w)) standard
        | inr other ↦
            suffix-state w standard s (e ∙ state-shorter p x w other (never_cut (x ∷ w) standard))
            ∙ sym (ap (λ (xs : List ℕ). xs ++ suffix_matches p w) (own-not_node p (x ∷ w) other))
      ]

  -- and under a leftmost kind
  leftmost-state : (w : List ℕ) → is_leftmost p.kind ≡ true → (s : Option (List ℕ)) → s ≡ state_after p w → matches_of p s ≡ leftmost_matches p w
  leftmost-state [] leftmost s e = ap (matches_of p) e ∙ cond-true (is_leftmost p.kind) (leftmost_matches p []) (suffix_matches p []) leftmost
  leftmost-state (x ∷ w) leftmost s e =
      elim (cases_Bool (is_node p (x ∷ w))) [
        | inl node ↦ ap (matches_of p) (e ∙ state-node p x w node) ∙ cond-true (is_leftmost p.kind) (leftmost_matches p (x ∷ w)) (suffix_matches p (x ∷ w)) leftmost
        | inr other ↦
            elim (cases_Bool (is_cut p (x ∷ w))) [
              | inl cut ↦ ap (matches_of p) (e ∙ state-cut p x w other cut) ∙ sym (cond-true (is_cut p (x ∷ w)) (own_matches p (x ∷ w)) (leftmost_matches p w) cut ∙ own-not_node p (x ∷ w) other)
              | inr uncut ↦
                  leftmost-state w leftmost s (e ∙ state-shorter p x w other uncut)
                  ∙ sym (cond-false (is_cut p (x ∷ w)) (own_matches p (x ∷ w)) (leftmost_matches p w) uncut)
            ]
      ]

  -- for all kinds
  pub matches_of-state_after : (w : List ℕ) → matches_of p (state_after p w) ≡ matches_of_word p w
  matches_of-state_after w =
      elim (cases_Bool (is_leftmost p.kind)) [
        | inl leftmost ↦ leftmost-state w leftmost (state_after p w) refl ∙ sym (cond-true (is_leftmost p.kind) (leftmost_matches p w) (suffix_matches p w) leftmost)
        | inr standard ↦ suffix-state w standard (state_after p w) refl ∙ sym (cond-false (is_leftmost p.kind) (leftmost_matches p w) (suffix_matches p w) standard)
      ]

  -- a word lists its own patterns, and then shorter ones
  abbrev pub IsShorter : ℕ → ℕ → Type 0
  IsShorter n k = (k < length p.words) × (length (pattern_word p k) < n)

  -- a word that is not cut has no pattern of its own
  pub own_of_uncut : (v : List ℕ) → is_leftmost p.kind ≡ true → is_cut p v ≡ false → own_matches p v ≡ []
  own_of_uncut v leftmost uncut = by_list (own_matches p v) (λ k m. own-member v k m)
    where
      by_list : (ks : List ℕ) → ((k : ℕ) → IsMember ks k → (k < length p.words) × (is_kept p k ≡ true) × (pattern_word p k ≡ v)) → ks ≡ []
      by_list [] each = refl
      by_list (k ∷ ks) each =
          let t = each k (inl refl) in
          let clash : true ≡ false = sym (is_cut-from p v k leftmost t.0 ([], append-nil (pattern_word p k) ∙ t.2)) ∙ uncut in
          cc

  -- the own patterns, then shorter ones
  pub matches-own_first : (w : List ℕ) → (rest : List ℕ) × (matches_of_word p w ≡ own_matches p w ++ rest) × All (IsShorter (length w)) rest
  matches-own_first w =
      elim (cases_Bool (is_leftmost p.kind)) [
        | inl leftmost ↦ (let t = of_leftmost w leftmost in (t.0, cond-true (is_leftmost p.kind) (leftmost_matches p w) (suffix_matches p w) leftmost ∙ t.1, t.2))
        | inr standard ↦ (let t = of_standard w in (t.0, cond-false (is_leftmost p.kind) (leftmost_matches p w) (suffix_matches p w) standard ∙ t.1, t.2))
      ]
    where
      of_standard : (w : List ℕ) → (rest : List ℕ) × (suffix_matches p w ≡ own_matches p w ++ rest) × All (IsShorter (length w)) rest
      of_standard [] = ([], sym (append-nil (own_matches p [])), All-nil (IsShorter 0))
      of_standard (x ∷ w) = (suffix_matches p w, refl, All-weaker (FitsWord (length w)) (IsShorter (length (x ∷ w))) (λ k h. (h.0, omega (arith, h.1))) (suffix_matches p w) (suffix-fits w (length w) (omega arith)))

      of_leftmost : (w : List ℕ) → is_leftmost p.kind ≡ true → (rest : List ℕ) × (leftmost_matches p w ≡ own_matches p w ++ rest) × All (IsShorter (length w)) rest
      of_leftmost [] leftmost = ([], sym (append-nil (own_matches p [])), All-nil (IsShorter 0))
      of_leftmost (x ∷ w) leftmost =
          elim (cases_Bool (is_cut p (x ∷ w))) [
            | inl cut ↦ ([], cond-true (is_cut p (x ∷ w)) (own_matches p (x ∷ w)) (leftmost_matches p w) cut ∙ sym (append-nil (own_matches p (x ∷ w))), All-nil (IsShorter (length (x ∷ w))))
            | inr uncut ↦ (
              leftmost_matches p w,
              cond-false (is_cut p (x ∷ w)) (own_matches p (x ∷ w)) (leftmost_matches p w) uncut ∙ sym (ap (λ (xs : List ℕ). xs ++ leftmost_matches p w) (own_of_uncut (x ∷ w) leftmost uncut)),
              All-weaker (FitsWord (length w)) (IsShorter (length (x ∷ w))) (λ k h. (h.0, omega (arith, h.1))) (leftmost_matches p w) (leftmost-fits w (length w) (omega arith)),
            )
          ]
