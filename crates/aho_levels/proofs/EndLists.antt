-- The patterns that end at a state, of all that have ended: those of its word, by number.
use Rattle.std.proofs.Common.{◌≡◌, ◌≢◌, ◌⊎◌, ◌∙◌, sym, refl, ap, subst, inl, inr, ℕ, zero, suc, ◌+◌, ◌<◌, ◌≤◌, Bool, true, false, ◌&&◌, List, [], ◌∷◌, length, map, get_or, arith, nat_eq, eqb-true}
use Rattle.std.specs.Prelude.{Option, Some, None, filter}
use Rattle.std.specs.List.{All, AllPairs, Contains, range_with_len}
use Rattle.std.proofs.lemmas.Bool.{and_from, and_parts, cases_Bool, cond-true, cond-false, eq-eqb}
use Rattle.std.proofs.lemmas.List.Elements.{All-cons, All-head, All-nil, All-tail, All-weaker}
use Rattle.aho_core.specs.MatchList.{own_matches}
use Rattle.aho_core.specs.Patterns.{Patterns}
use Rattle.aho_core.specs.Trie.{is_kept, is_word, pattern_word}
use Rattle.aho_laws.proofs.Begins.{is_word-from, is_word-true}
use Rattle.aho_levels.proofs.Settling.{one-state}
use Rattle.aho_levels.specs.Building.{AreOwns, owns_at}
use Rattle.aho_levels.specs.Growing.{AreEnds, IsOwnBefore, IsOwnOf, IsTree, own_numbers}
use Rattle.aho_levels.specs.Meaning.{named_word}
use Rattle.aho_levels.specs.declared.tree.Tree.{Tree}
use Rattle.aho_levels.specs.declared.trie.Ends.{Ends}
use Rattle.aho_levels.specs.declared.trie.Own.{Own}

-- the numbers rise from this one on
abbrev Rises : ℕ → List ℕ → Type 0
Rises low [] = Unit {0}
Rises low (x ∷ xs) = (low ≤ x) × Rises (x + 1) xs

contains-cases : (x : ℕ) (xs : List ℕ) (k : ℕ) → Contains (x ∷ xs) k → (x ≡ k) ⊎ Contains xs k
contains-cases x xs k c = by c.0 c.1 c.2
  where
    by : (i : ℕ) → i < length (x ∷ xs) → get_or (x ∷ xs) i k ≡ k → (x ≡ k) ⊎ Contains xs k
    by zero lt e = inl e
    by (suc i) lt e = inr (i, omega (arith, lt), e)

contains-later : (x : ℕ) (xs : List ℕ) (k : ℕ) → Contains xs k → Contains (x ∷ xs) k
contains-later x xs k c = (suc c.0, omega (arith, c.1), c.2)

contains-first : (x : ℕ) (xs : List ℕ) (k : ℕ) → x ≡ k → Contains (x ∷ xs) k
contains-first x xs k e = (0, omega arith, e)

rises-above : (low : ℕ) (xs : List ℕ) (k : ℕ) → Rises low xs → Contains xs k → low ≤ k
rises-above low [] k rises c = absurd (omega (arith, c.1))
rises-above low (x ∷ xs) k rises c =
    elim (contains-cases x xs k c) [
      | inl e ↦ omega (arith, rises.0, e)
      | inr later ↦ omega (arith, rises.0, rises-above (x + 1) xs k rises.1 later)
    ]

-- numbers that rise, and are just those of a range that pass a test
ranged : (n a : ℕ) (f : ℕ → Bool) (xs : List ℕ) → Rises a xs → All (λ (k : ℕ). (k < a + n) × (f k ≡ true)) xs → ((k : ℕ) → a ≤ k → k < a + n → f k ≡ true → Contains xs k) → xs ≡ filter f (range_with_len a n)
ranged zero a f [] rises all has = refl
ranged zero a f (x ∷ xs) rises all has = absurd (omega (arith, rises.0, (all 0 0 (omega arith)).0))
ranged (suc n) a f [] rises all has =
    elim (cases_Bool (f a)) [
      | inl passes ↦ absurd (omega (arith, (has a (omega arith) (omega arith) passes).1))
      | inr fails ↦
          ranged n (a + 1) f [] tt (All-nil _) (λ k low high passes. has k (omega (arith, low)) (omega (arith, high)) passes)
          ∙ sym (cond-false (f a) (a ∷ filter f (range_with_len (a + 1) n)) (filter f (range_with_len (a + 1) n)) fails)
    ]
ranged (suc n) a f (x ∷ xs) rises all has =
    elim (cases_Bool (f a)) [
      | inl passes ↦
          (let first : x ≡ a =
          elim (contains-cases x xs a (has a (omega arith) (omega arith) passes)) [
            | inl e ↦ e
            | inr later ↦ absurd (omega (arith, rises.0, rises-above (x + 1) xs a rises.1 later))
          ] in
          let rest = ranged n (a + 1) f xs (subst (λ (m : ℕ). Rises (m + 1) xs) first rises.1)
          (All-weaker (λ (k : ℕ). (k < a + suc n) × (f k ≡ true)) (λ (k : ℕ). (k < a + 1 + n) × (f k ≡ true)) (λ k t. (omega (arith, t.0), t.1)) xs (All-tail (λ (k : ℕ). (k < a + suc n) × (f k ≡ true)) x xs all))
          (λ k low high good.
          elim (contains-cases x xs k (has k (omega (arith, low)) (omega (arith, high)) good)) [
            | inl e ↦ absurd (omega (arith, e, first, low))
            | inr later ↦ later
          ]) in
          ap (λ (m : ℕ). m ∷ xs) first
          ∙ ap (λ (l : List ℕ). a ∷ l) rest
          ∙ sym (cond-true (f a) (a ∷ filter f (range_with_len (a + 1) n)) (filter f (range_with_len (a + 1) n)) passes))
      | inr fails ↦
          (let other : x ≢ a = (λ e. let clash : true ≡ false = sym (all 0 0 (omega arith)).1 ∙ ap f e ∙ fails in cc) in
          ranged n (a + 1) f (x ∷ xs) (omega (arith, rises.0, other), rises.1)
          (All-weaker (λ (k : ℕ). (k < a + suc n) × (f k ≡ true)) (λ (k : ℕ). (k < a + 1 + n) × (f k ≡ true)) (λ k t. (omega (arith, t.0), t.1)) (x ∷ xs) all)
          (λ k low high good. has k (omega (arith, low)) (omega (arith, high)) good)
          ∙ sym (cond-false (f a) (a ∷ filter f (range_with_len (a + 1) n)) (filter f (range_with_len (a + 1) n)) fails))
    ]

-- those of one state, where the first is of it or is not
at-this : (o : Own) (os : List Own) (sid : ℕ) → nat_eq o.state sid ≡ true → owns_at (o ∷ os) sid ≡ o.number ∷ owns_at os sid
at-this o os sid here =
    ap (map (λ (own : Own). own.number)) (cond-true (nat_eq o.state sid) (o ∷ filter (λ (own : Own). nat_eq own.state sid) os) (filter (λ (own : Own). nat_eq own.state sid) os) here)

at-other : (o : Own) (os : List Own) (sid : ℕ) → nat_eq o.state sid ≡ false → owns_at (o ∷ os) sid ≡ owns_at os sid
at-other o os sid other =
    ap (map (λ (own : Own). own.number)) (cond-false (nat_eq o.state sid) (o ∷ filter (λ (own : Own). nat_eq own.state sid) os) (filter (λ (own : Own). nat_eq own.state sid) os) other)

at-rises : (owns : List Own) (sid low : ℕ) → AllPairs IsOwnBefore owns → All (λ (own : Own). own.state ≡ sid → low ≤ own.number) owns → Rises low (owns_at owns sid)
at-rises [] sid low pairs above = tt
at-rises (o ∷ os) sid low pairs above =
    elim (cases_Bool (nat_eq o.state sid)) [
      | inl here ↦
          subst (Rises low) (sym (at-this o os sid here)) (
            All-head (λ (own : Own). own.state ≡ sid → low ≤ own.number) o os above (eqb-true o.state sid here),
            at-rises os sid (o.number + 1) (λ i j d less within. pairs (suc i) (suc j) d (omega (arith, less)) (omega (arith, within)))
                (λ k d lt same.
                elim (pairs 0 (suc k) d (omega arith) (omega (arith, lt))) [
                  | inl less ↦ absurd (omega (arith, less, same, eqb-true o.state sid here))
                  | inr more ↦ omega (arith, more.1)
                ]),
          )
      | inr other ↦
          subst (Rises low) (sym (at-other o os sid other))
          (at-rises os sid low (λ i j d less within. pairs (suc i) (suc j) d (omega (arith, less)) (omega (arith, within))) (All-tail (λ (own : Own). own.state ≡ sid → low ≤ own.number) o os above))
    ]

at-all : (P : ℕ → Type 0) (owns : List Own) (sid : ℕ) → All (λ (own : Own). own.state ≡ sid → P own.number) owns → All P (owns_at owns sid)
at-all P [] sid all = All-nil P
at-all P (o ∷ os) sid all =
    elim (cases_Bool (nat_eq o.state sid)) [
      | inl here ↦
          subst (All P) (sym (at-this o os sid here))
          (All-cons P o.number (owns_at os sid) (All-head (λ (own : Own). own.state ≡ sid → P own.number) o os all (eqb-true o.state sid here)) (at-all P os sid (All-tail (λ (own : Own). own.state ≡ sid → P own.number) o os all)))
      | inr other ↦ subst (All P) (sym (at-other o os sid other)) (at-all P os sid (All-tail (λ (own : Own). own.state ≡ sid → P own.number) o os all))
    ]

at-has : (owns : List Own) (sid k : ℕ) → All (λ (own : Own). own.number ≡ k → own.state ≡ sid) owns → Contains (own_numbers owns) k → Contains (owns_at owns sid) k
at-has [] sid k all c = absurd (omega (arith, c.1))
at-has (o ∷ os) sid k all c =
    elim (contains-cases o.number (own_numbers os) k c) [
      | inl e ↦
          subst (λ (xs : List ℕ). Contains xs k) (sym (at-this o os sid (eq-eqb o.state sid (All-head (λ (own : Own). own.number ≡ k → own.state ≡ sid) o os all e))))
          (contains-first o.number (owns_at os sid) k e)
      | inr later ↦
          (let rest = at-has os sid k (All-tail (λ (own : Own). own.number ≡ k → own.state ≡ sid) o os all) later in
          elim (cases_Bool (nat_eq o.state sid)) [
            | inl here ↦ subst (λ (xs : List ℕ). Contains xs k) (sym (at-this o os sid here)) (contains-later o.number (owns_at os sid) k rest)
            | inr other ↦ subst (λ (xs : List ℕ). Contains xs k) (sym (at-other o os sid other)) rest
          ])
    ]

-- once all kept patterns have ended
module _ (p : Patterns) (names : List (Option (List ℕ))) (tree : Tree) (ends : Ends) (is : IsTree names tree) (are : AreEnds ends) (owns_are : All (IsOwnOf p names) ends.owns.items)
    (all : (k : ℕ) → k < length p.words → is_kept p k ≡ true → Contains (own_numbers ends.owns.items) k) where
  own-list : (i : ℕ) (w : List ℕ) → named_word names i ≡ Some w → owns_at ends.owns.items i ≡ own_matches p w
  unfolding own_matches
  own-list i w named =
      ranged (length p.words) 0 (λ (k : ℕ). is_kept p k && is_word (pattern_word p k) w) (owns_at ends.owns.items i)
      (at-rises ends.owns.items i 0 are.rising (λ k d lt same. omega arith))
      (at-all (λ (k : ℕ). (k < 0 + length p.words) × (is_kept p k && is_word (pattern_word p k) w ≡ true)) ends.owns.items i
      (λ k d lt same.
      let own = owns_are k d lt in
      let words : Some (pattern_word p (get_or ends.owns.items k d).number) ≡ Some w = sym own.named ∙ ap (named_word names) same ∙ named in
      (omega (arith, own.numbered), and_from (is_kept p (get_or ends.owns.items k d).number) (is_word (pattern_word p (get_or ends.owns.items k d).number) w) own.kept (is_word-from (pattern_word p (get_or ends.owns.items k d).number) w (let word : pattern_word p (get_or ends.owns.items k d).number ≡ w = cc in word)))))
      (λ k low high passes.
      let both = and_parts (is_kept p k) (is_word (pattern_word p k) w) passes in
      at-has ends.owns.items i k
      (λ n d lt same.
      let own = owns_are n d lt in
      one-state names tree is (get_or ends.owns.items n d).state i w (own.named ∙ ap (λ (m : ℕ). Some (pattern_word p m)) same ∙ ap Some (is_word-true (pattern_word p k) w both.1)) named)
      (all k (omega (arith, high)) both.0))

  pub own-lists : AreOwns p names ends.owns.items
  own-lists = record {
    own = own-list;
    rising = λ i j d less within. elim (are.rising i j d less within) [ inl lower ↦ omega (arith, lower) | inr same ↦ omega (arith, same.0) ];
    alive = λ i d within. alive i d within;
  }
    where
      alive : (i : ℕ) (d : Own) → i < length ends.owns.items → 0 < (get_or ends.owns.items i d).state
      alive i d within =
          let own = owns_are i d within in
          let not_dead : (get_or ends.owns.items i d).state ≢ 0 =
          (λ e. let clash : None ≡ Some (pattern_word p (get_or ends.owns.items i d).number) = sym is.dead ∙ ap (named_word names) (sym e) ∙ own.named in cc) in
          omega (arith, not_dead)
