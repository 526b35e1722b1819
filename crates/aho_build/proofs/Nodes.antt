-- Which words are nodes, pattern by pattern and byte by byte.
use Rattle.std.proofs.Common.{◌≡◌, ℕ, suc, ◌+◌, ◌<◌, Bool, true, false, ◌&&◌, ◌||◌, cond, List, [], ◌∷◌, ◌++◌, length, refl, sym, ap, ◌∙◌, inl, inr, arith, append_assoc}
use Rattle.std.proofs.Math.Bool.{or-false}
use Rattle.std.proofs.lemmas.Bool.{cases_lt, and_parts, and_from, or_cases, or_left, or_right}
use Rattle.std.proofs.lemmas.List.{length_push, length-append, append-nil}
use Rattle.std.specs.Prelude.{bytes_eq}
use Rattle.std.proofs.lemmas.Slice.Eq.{bytes_eq-Decides}
use Rattle.aho_core.specs.Patterns.{Patterns}
use Rattle.aho_core.specs.Trie.{begins, is_kept, is_word, pattern_word}
use Rattle.aho_core.specs.Among.{is_node_among, own_among}
use Rattle.aho_laws.proofs.Inserted.{is_node_among-more, own_among-more}
use Rattle.aho_laws.proofs.Begins.{begins-true, begins-from, begins_trans, two_cuts, is_word-true, any-true, any-from, first_passing}
use Rattle.aho_build.proofs.OneWordMore.{also}

both_ways : (a b : Bool) → (a ≡ true → b ≡ true) → (b ≡ true → a ≡ true) → a ≡ b
both_ways true b f g = sym (f refl)
both_ways false true f g = g refl
both_ways false false f g = refl

-- what begins a word with one more byte begins the word, or is it
pub begins-more : (word prefix : List ℕ) (byte : ℕ) → begins prefix (word ++ byte ∷ []) ≡ also (λ w. begins w word) (word ++ byte ∷ []) prefix
begins-more word prefix byte =
    both_ways (begins prefix (word ++ byte ∷ [])) (begins prefix word || bytes_eq prefix (word ++ byte ∷ []))
    (λ h.
    let front = begins-true prefix (word ++ byte ∷ []) h in
    elim (cases_lt (length word) (length prefix)) [
      | inl long ↦
          or_right (begins prefix word) (bytes_eq prefix (word ++ byte ∷ []))
          ((bytes_eq-Decides prefix (word ++ byte ∷ [])).1
          (sym (append-nil prefix)
          ∙ ap (λ (l : List ℕ). prefix ++ l) (sym (none front.0 (omega (arith, long, ap length front.1, length-append prefix front.0, length_push word byte))))
          ∙ front.1))
      | inr short ↦
          (let cut = two_cuts prefix front.0 word (byte ∷ []) front.1 short in
          or_left (begins prefix word) (bytes_eq prefix (word ++ byte ∷ [])) (begins-from prefix cut.0 word (sym cut.1)))
    ])
    (λ h.
    elim (or_cases (begins prefix word) (bytes_eq prefix (word ++ byte ∷ [])) h) [
      | inl within ↦
          (let front = begins-true prefix word within in
          begins-from prefix (front.0 ++ byte ∷ []) (word ++ byte ∷ []) (sym (append_assoc prefix front.0 (byte ∷ [])) ∙ ap (λ (l : List ℕ). l ++ byte ∷ []) front.1))
      | inr same ↦ begins-from prefix [] (word ++ byte ∷ []) (append-nil prefix ∙ (bytes_eq-Decides prefix (word ++ byte ∷ [])).0 same)
    ])
  where
    none : (xs : List ℕ) → length xs < 1 → xs ≡ []
    none [] less = refl
    none (x ∷ xs) less = absurd (omega arith)

module _ (p : Patterns) where
  pub is_node_among-root : (number : ℕ) → is_node_among p number [] ≡ true
  unfolding is_node_among
  is_node_among-root number = refl

  -- the nodes of one more pattern are what begins it
  pub is_node_among-kept : (number : ℕ) (word : List ℕ) → is_kept p number ≡ true
      → (is_node_among p number word || begins word (pattern_word p number)) ≡ is_node_among p (number + 1) word
  is_node_among-kept number [] kept = ap (λ (b : Bool). b || begins [] (pattern_word p number)) (is_node_among-root number) ∙ sym (is_node_among-root (number + 1))
  is_node_among-kept number (x ∷ word) kept =
      let count : suc number ≡ number + 1 = omega arith in
      sym
      (ap (λ (n : ℕ). is_node_among p n (x ∷ word)) (sym count) ∙ is_node_among-more p number x word
      ∙ ap (λ (b : Bool). is_node_among p number (x ∷ word) || (b && begins (x ∷ word) (pattern_word p number))) kept)

  -- a pattern that is left out adds none
  pub is_node_among-left_out : (number : ℕ) (word : List ℕ) → is_kept p number ≡ false → is_node_among p number word ≡ is_node_among p (number + 1) word
  is_node_among-left_out number [] left = is_node_among-root number ∙ sym (is_node_among-root (number + 1))
  is_node_among-left_out number (x ∷ word) left =
      let count : suc number ≡ number + 1 = omega arith in
      sym
      (ap (λ (n : ℕ). is_node_among p n (x ∷ word)) (sym count) ∙ is_node_among-more p number x word
      ∙ ap (λ (b : Bool). is_node_among p number (x ∷ word) || (b && begins (x ∷ word) (pattern_word p number))) left
      ∙ or-false (is_node_among p number (x ∷ word)))

  -- the first bytes of a pattern: none are there at first
  pub is_node_among-start : (number : ℕ) (word : List ℕ) → (is_node_among p number word || begins word []) ≡ is_node_among p number word
  is_node_among-start number word =
      both_ways (is_node_among p number word || begins word []) (is_node_among p number word)
      (λ h. elim (or_cases (is_node_among p number word) (begins word []) h) [ inl there ↦ there | inr front ↦ ap (is_node_among p number) (nothing word (begins-true word [] front).0 (begins-true word [] front).1) ∙ is_node_among-root number ])
      (λ h. or_left (is_node_among p number word) (begins word []) h)
    where
      nothing : (xs rest : List ℕ) → xs ++ rest ≡ [] → xs ≡ []
      nothing [] rest e = refl
      nothing (x ∷ xs) rest e = cc

  -- a word that is the pattern has one more own pattern, and no other word has
  pub own_among-same : (number : ℕ) (word : List ℕ) → is_kept p number ≡ true → is_word (pattern_word p number) word ≡ true
      → own_among p (number + 1) word ≡ own_among p number word ++ number ∷ []
  own_among-same number word kept same =
      let count : suc number ≡ number + 1 = omega arith in
      ap (λ (n : ℕ). own_among p n word) (sym count) ∙ own_among-more p number word
      ∙ ap (λ (b : Bool). own_among p number word ++ cond b (number ∷ []) []) (and_from (is_kept p number) (is_word (pattern_word p number) word) kept same)

  pub own_among-other : (number : ℕ) (word : List ℕ) → (is_kept p number && is_word (pattern_word p number) word) ≡ false
      → own_among p (number + 1) word ≡ own_among p number word
  own_among-other number word other =
      let count : suc number ≡ number + 1 = omega arith in
      ap (λ (n : ℕ). own_among p n word) (sym count) ∙ own_among-more p number word
      ∙ ap (λ (b : Bool). own_among p number word ++ cond b (number ∷ []) []) other ∙ append-nil (own_among p number word)

  -- what is no node is no pattern
  pub own_among-absent : (number : ℕ) (word : List ℕ) → is_node_among p number word ≡ false → own_among p number word ≡ []
  unfolding is_node_among own_among
  own_among-absent number [] none = let clash : true ≡ false = sym (is_node_among-root number) ∙ none in cc
  own_among-absent number (x ∷ word) none = by_own (own_among p number (x ∷ word)) refl
    where
      by_own : (own : List ℕ) → own_among p number (x ∷ word) ≡ own → own_among p number (x ∷ word) ≡ []
      by_own [] e = e
      by_own (k ∷ ks) e =
          let first = first_passing (λ i. is_kept p i && is_word (pattern_word p i) (x ∷ word)) 0 number k ks e in
          let both = and_parts (is_kept p k) (is_word (pattern_word p k) (x ∷ word)) first.2 in
          let there : is_node_among p number (x ∷ word) ≡ true =
          any-from (λ i. is_kept p i && begins (x ∷ word) (pattern_word p i)) 0 number k (omega arith) first.1
          (and_from (is_kept p k) (begins (x ∷ word) (pattern_word p k)) both.0
          (begins-from (x ∷ word) [] (pattern_word p k) (append-nil (x ∷ word) ∙ sym (is_word-true (pattern_word p k) (x ∷ word) both.1)))) in
          let clash : true ≡ false = sym there ∙ none in
          cc

  -- what begins a node is a node
  pub is_node_among-front : (number : ℕ) (word more : List ℕ) → is_node_among p number more ≡ true → begins word more ≡ true → is_node_among p number word ≡ true
  unfolding is_node_among
  is_node_among-front number [] more node front = refl
  is_node_among-front number (x ∷ word) [] node front = let b = begins-true (x ∷ word) [] front in let e : x ∷ (word ++ b.0) ≡ [] = b.1 in cc
  is_node_among-front number (x ∷ word) (y ∷ more) node front =
      let found = any-true (λ i. is_kept p i && begins (y ∷ more) (pattern_word p i)) 0 number node in
      let both = and_parts (is_kept p found.0) (begins (y ∷ more) (pattern_word p found.0)) found.3 in
      let whole = begins_trans (x ∷ word) (y ∷ more) (pattern_word p found.0) (begins-true (x ∷ word) (y ∷ more) front) (begins-true (y ∷ more) (pattern_word p found.0) both.1) in
      any-from (λ i. is_kept p i && begins (x ∷ word) (pattern_word p i)) 0 number found.0 found.1 found.2
      (and_from (is_kept p found.0) (begins (x ∷ word) (pattern_word p found.0)) both.0 (begins-from (x ∷ word) whole.0 (pattern_word p found.0) whole.1))
