-- The trie of the first patterns, and what one pattern more adds.
use Rattle.std.proofs.Math.Bool.{or-false}
use Rattle.std.proofs.Common.{◌≡◌, ◌≢◌, ℕ, zero, suc, ◌+◌, ◌<◌, Bool, true, false, cond, ◌&&◌, ◌||◌, List, [], ◌∷◌, ◌++◌, length, refl, ◌∙◌, ap, arith}
use Rattle.std.specs.Prelude.{filter}
use Rattle.std.specs.List.{list_any, range_with_len}
use Rattle.std.proofs.lemmas.Bool.{and_parts, and_from}
use Rattle.aho_core.specs.declared.search.MatchKind.TheVariants.{LeftmostFirst}
use Rattle.aho_laws.proofs.Begins.{is_word-true, is_word-from, first_passing, none_passing}
use Rattle.aho_laws.proofs.ByLinks.{left_out_by_kept, left_out_from}
use Rattle.aho_core.specs.Among.{own_among, is_node_among}
use Rattle.aho_core.specs.MatchList.{own_matches}
use Rattle.aho_core.specs.Patterns.{Patterns}
use Rattle.aho_core.specs.Trie.{begins, is_kept, is_node, is_word, pattern_word}

-- one number more in a range
filter-range_more : (f : ℕ → Bool) (a n k : ℕ) → a + n ≡ k → filter f (range_with_len a (suc n)) ≡ filter f (range_with_len a n) ++ cond (f k) (k ∷ []) []
filter-range_more f a zero k e = let same : a ≡ k = omega arith in ap (λ (i : ℕ). cond (f i) (i ∷ []) []) same
filter-range_more f a (suc n) k e =
    let further = filter-range_more f (a + 1) n k (omega arith) in
    let rest = filter f (range_with_len (a + 1) n) in
    ap (λ (xs : List ℕ). cond (f a) (a ∷ xs) xs) further ∙ split (f a) a rest (cond (f k) (k ∷ []) [])
  where
    split : (b : Bool) (a : ℕ) (xs ys : List ℕ) → cond b (a ∷ (xs ++ ys)) (xs ++ ys) ≡ cond b (a ∷ xs) xs ++ ys
    split true a xs ys = refl
    split false a xs ys = refl

any-range_more : (f : ℕ → Bool) (a n k : ℕ) → a + n ≡ k → list_any f (range_with_len a (suc n)) ≡ (list_any f (range_with_len a n) || f k)
any-range_more f a zero k e = let same : a ≡ k = omega arith in or-false (f a) ∙ ap f same
any-range_more f a (suc n) k e = ap (λ (b : Bool). f a || b) (any-range_more f (a + 1) n k (omega arith)) ∙ assoc (f a) (list_any f (range_with_len (a + 1) n)) (f k)
  where
    assoc : (x y z : Bool) → (x || (y || z)) ≡ ((x || y) || z)
    assoc true y z = refl
    assoc false y z = refl

module _ (p : Patterns) where
  -- a word's own patterns among the first: none, all, one more
  pub own_among-none : (v : List ℕ) → own_among p 0 v ≡ []
  unfolding own_among
  own_among-none v = refl

  pub own_among-all : (v : List ℕ) → own_among p (length p.words) v ≡ own_matches p v
  unfolding own_among own_matches
  own_among-all v = refl

  pub own_among-more : (k : ℕ) (v : List ℕ) → own_among p (suc k) v ≡ own_among p k v ++ cond (is_kept p k && is_word (pattern_word p k) v) (k ∷ []) []
  unfolding own_among
  own_among-more k v = filter-range_more (λ i. is_kept p i && is_word (pattern_word p i) v) 0 k k (omega arith)

  -- the nodes by the first patterns: none but the root, all, one more
  pub is_node_among-none : (x : ℕ) (v : List ℕ) → is_node_among p 0 (x ∷ v) ≡ false
  unfolding is_node_among
  is_node_among-none x v = refl

  pub is_node_among-all : (v : List ℕ) → is_node_among p (length p.words) v ≡ is_node p v
  unfolding is_node_among is_node
  is_node_among-all [] = refl
  is_node_among-all (x ∷ v) = refl

  pub is_node_among-more : (k x : ℕ) (v : List ℕ) → is_node_among p (suc k) (x ∷ v) ≡ (is_node_among p k (x ∷ v) || (is_kept p k && begins (x ∷ v) (pattern_word p k)))
  unfolding is_node_among
  is_node_among-more k x v = any-range_more (λ i. is_kept p i && begins (x ∷ v) (pattern_word p i)) 0 k k (omega arith)

  -- a pattern is left out exactly where the walk along it meets, before its end, a word with a pattern of its own
  pub left_out-walk : (k : ℕ) → is_kept p k ≡ false → (p.kind ≡ LeftmostFirst) × ((u rest : List ℕ) × (u ++ rest ≡ pattern_word p k) × (length u < length (pattern_word p k)) × (own_among p k u ≢ []))
  unfolding own_among
  left_out-walk k unkept =
      let t = left_out_by_kept p k unkept in
      let i = t.1.0 in (
        t.0,
        (
          pattern_word p i,
          t.1.3.0,
          t.1.3.1,
          t.1.4,
          λ none.
              none_passing (λ j. is_kept p j && is_word (pattern_word p j) (pattern_word p i)) 0 k none i (omega arith) (omega (arith, t.1.1))
              (and_from (is_kept p i) (is_word (pattern_word p i) (pattern_word p i)) t.1.2 (is_word-from (pattern_word p i) (pattern_word p i) refl)),
        ),
      )

  -- and where the walk meets such a node the pattern is left out
  pub walk-left_out : (k : ℕ) (u rest : List ℕ) → p.kind ≡ LeftmostFirst → u ++ rest ≡ pattern_word p k → length u < length (pattern_word p k) → own_among p k u ≢ [] → is_kept p k ≡ false
  unfolding own_among
  walk-left_out k u rest is front short some = by_own (own_among p k u) refl
    where
      by_own : (is_own : List ℕ) → own_among p k u ≡ is_own → is_kept p k ≡ false
      by_own [] e = absurd (some e)
      by_own (i ∷ is_own) e =
          let t = first_passing (λ j. is_kept p j && is_word (pattern_word p j) u) 0 k i is_own e in
          let both = and_parts (is_kept p i) (is_word (pattern_word p i) u) t.2 in
          let same : pattern_word p i ≡ u = is_word-true (pattern_word p i) u both.1 in
          left_out_from p i k is (omega (arith, t.1)) (rest, ap (λ (w : List ℕ). w ++ rest) same ∙ front) (omega (arith, ap length same))
