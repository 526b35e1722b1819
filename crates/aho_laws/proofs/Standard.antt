-- What a byte does to the best: Standard, and any kind at the start of an anchored search.
use Rattle.std.proofs.Common.{◌≡◌, ◌⊎◌, inl, inr, ℕ, ◌+◌, ◌-◌, ◌<◌, ◌≤◌, true, false, List, [], ◌∷◌, ◌++◌, length, refl, sym, ◌∙◌, ap, subst, arith, length-append}
use Rattle.std.specs.Prelude.{Option, Some, None}
use Rattle.std.proofs.lemmas.Bool.{cases_lt, cases_eq}
use Rattle.std.proofs.lemmas.List.{append-nil, length_push, nil_from_length}
use Rattle.aho_core.specs.declared.search.Anchored.{Anchored}
use Rattle.aho_core.specs.declared.search.Anchored.TheVariants.{No, Yes}
use Rattle.aho_core.specs.declared.search.MatchKind.{MatchKind}
use Rattle.aho_core.specs.declared.search.MatchKind.TheVariants.{Standard, LeftmostFirst, LeftmostLongest}
use Rattle.aho_laws.proofs.Begins.{begins_whole}
use Rattle.aho_laws.proofs.Kept.{keeper, own-first, own-none, every_kept}
use Rattle.aho_laws.proofs.Orders.{same_occurrence}
use Rattle.aho_laws.proofs.Stands.{Stands, BestIn, stands_length, stands_more, stands_less, stands_at, begins_at}
use Rattle.aho_laws.proofs.Leftmost.{told_at}
use Rattle.aho_laws.proofs.Listed.{Ends, ListedBefore, suffix-member, suffix-has, suffix-listed}
use Rattle.aho_core.specs.Failure.{is_leftmost}
use Rattle.aho_core.specs.Laws.{first_of_two}
use Rattle.aho_core.specs.Listing.{IsListedBy, IsMember}
use Rattle.aho_core.specs.MatchList.{own_matches, suffix_matches}
use Rattle.aho_core.specs.Occurrence.{Occurrence}
use Rattle.aho_core.specs.Order.{IsBefore}
use Rattle.aho_core.specs.Patterns.{Patterns}
use Rattle.aho_core.specs.Trie.{is_kept, pattern_word}

-- of two it prefers the one that ends first, and at one end the one that starts first, then the lesser number
pub before_end : (kind : MatchKind) (m n : Occurrence) → is_leftmost kind ≡ false → m.end < n.end → IsBefore kind m n
before_end Standard m n h lt = inl lt
before_end LeftmostFirst m n h lt = cc
before_end LeftmostLongest m n h lt = cc

before_start : (kind : MatchKind) (m n : Occurrence) → is_leftmost kind ≡ false → m.end ≡ n.end → (m.start < n.start) ⊎ ((m.start ≡ n.start) × (m.pattern < n.pattern)) → IsBefore kind m n
before_start Standard m n h e rest = inr (e, rest)
before_start LeftmostFirst m n h e rest = cc
before_start LeftmostLongest m n h e rest = cc

-- of two at one range the lesser number is preferred by each kind
pub before_tie : (kind : MatchKind) (m n : Occurrence) → m.start ≡ n.start → m.end ≡ n.end → m.pattern < n.pattern → IsBefore kind m n
before_tie Standard m n a b lt = inr (b, inr (a, lt))
before_tie LeftmostFirst m n a b lt = inr (a, lt)
before_tie LeftmostLongest m n a b lt = inr (a, inr (b, lt))

-- the match that a list's first pattern tells at the end of a word
abbrev pub told_ending : Patterns → ℕ → List ℕ → Option Occurrence
told_ending p end [] = None
told_ending p end (k ∷ ks) = Some (record { pattern = k; start = end - length (pattern_word p k); end = end })

module _ (p : Patterns) (anchored : Anchored) where
  -- at the start of an anchored search, and before the first byte: if nothing shorter than the word occurs, the first of
  -- its own patterns is the best
  pub best_whole : (z : List ℕ) → ((n : Occurrence) → Stands p anchored z n → (n.start ≡ 0) × (n.end ≡ length z)) → ((k : ℕ) → k < length p.words → pattern_word p k ≡ z → is_kept p k ≡ true)
      → BestIn p anchored z (told_at [] (length z) (own_matches p z))
  best_whole z whole kept = by_own (own_matches p z) refl
    where
      is_it : (n : Occurrence) → Stands p anchored z n → pattern_word p n.pattern ≡ z
      is_it n o =
          let at = whole n o in
          begins_whole (pattern_word p n.pattern) z (begins_at p anchored z [] z n refl o at.0) (omega (arith, at.0, at.1, (stands_length p anchored z n o).0))

      by_own : (ks : List ℕ) → own_matches p z ≡ ks → BestIn p anchored z (told_at [] (length z) ks)
      by_own [] own = λ n o. own-none p z own n.pattern o.below (kept n.pattern o.below (is_it n o)) (is_it n o)
      by_own (k ∷ ks) own =
          let first = own-first p z k ks own in
          let m : Occurrence = record { pattern = k; start = 0; end = length z } in (
            stands_at p anchored z [] z k (length z) refl (λ y. refl) first.0 ([], append-nil (pattern_word p k) ∙ first.2) (omega (arith, ap length first.2)),
            λ n o.
                let at = whole n o in
                let le : k ≤ n.pattern = first.3 n.pattern o.below (kept n.pattern o.below (is_it n o)) (is_it n o) in
                elim (cases_eq k n.pattern) [ inl e ↦ inl (same_occurrence n m (sym e) at.0 at.1) | inr apart ↦ inr (before_tie p.kind m n (sym at.0) (sym at.1) (omega arith)) ],
          )

  -- the empty pattern is kept
  empty_kept : (k : ℕ) → k < length p.words → pattern_word p k ≡ [] → is_kept p k ≡ true
  empty_kept k lt e =
      let t = keeper p k in
      elim t.which [ inl is ↦ subst (λ (i : ℕ). is_kept p i ≡ true) is t.kept | inr m ↦ absurd (omega (arith, m.2, ap length e)) ]

  -- so before the first byte, where all that occurs is empty
  pub best_at_start : BestIn p anchored [] (told_at [] 0 (own_matches p []))
  best_at_start = best_whole [] (λ n o. let s = stands_length p anchored [] n o in (omega (arith, s.0, s.1), omega (arith, s.0, s.1))) empty_kept

  module _ (standard : is_leftmost p.kind ≡ false) where
    -- the first match stays
    pub first_stays : (z w y : List ℕ) (m : Occurrence) → z ≡ w ++ y → BestIn p anchored w (Some m) → BestIn p anchored z (Some m)
    first_stays z w y m more best = (
      stands_more p anchored z w y m more best.0,
      λ n o. elim (cases_lt (length w) n.end) [
        | inl past ↦ inr (before_end p.kind m n standard (omega (arith, (stands_length p anchored w m best.0).1)))
        | inr within ↦ best.1 n (stands_less p anchored z w y n more within o)
      ],
    )

    -- what is new ends at the end
    new_ends : (z w : List ℕ) (x : ℕ) (n : Occurrence) → z ≡ w ++ x ∷ [] → BestIn p anchored w None → Stands p anchored z n → n.end ≡ length z
    new_ends z w x n more best o =
        elim (cases_lt (length w) n.end) [
          | inl past ↦ omega (arith, (stands_length p anchored z n o).1, ap length more, length_push w x)
          | inr within ↦ absurd (best n (stands_less p anchored z w (x ∷ []) n more within o))
        ]

-- where an occurrence ends at the end of the word, its pattern ends the word
pub ends_word : (p : Patterns) (z : List ℕ) (n : Occurrence) → Stands p No z n → n.end ≡ length z → Ends (pattern_word p n.pattern) z
ends_word p z n o e =
    let long : length z ≡ length o.front + (length (pattern_word p n.pattern) + length o.rest) =
    ap length o.parts ∙ length-append o.front (pattern_word p n.pattern ++ o.rest) ∙ ap (λ (i : ℕ). length o.front + i) (length-append (pattern_word p n.pattern) o.rest) in
    let none : o.rest ≡ [] = nil_from_length o.rest (omega (arith, o.end)) in
    (o.front, ap (λ (t : List ℕ). o.front ++ t) (sym (append-nil (pattern_word p n.pattern)) ∙ ap (λ (t : List ℕ). pattern_word p n.pattern ++ t) (sym none)) ∙ sym o.parts)

module _ (p : Patterns) (standard : is_leftmost p.kind ≡ false) where
  -- unanchored: the first pattern that ends the word is the best of those that are new
  best_ending : (z : List ℕ) → ((n : Occurrence) → Stands p No z n → n.end ≡ length z) → (ks : List ℕ) → suffix_matches p z ≡ ks → BestIn p No z (told_ending p (length z) ks)
  best_ending z ends [] list = λ n o. subst (λ (xs : List ℕ). IsMember xs n.pattern) list (suffix-has p z n.pattern standard o.below (ends_word p z n o (ends n o)))
  best_ending z ends (k ∷ ks) list =
      let first = suffix-member p z k (subst (λ (xs : List ℕ). IsMember xs k) (sym list) (inl refl)) in
      let order = subst (IsListedBy (ListedBefore p)) list (suffix-listed p z) in
      let m : Occurrence = record { pattern = k; start = length z - length (pattern_word p k); end = length z } in
      let long : length z ≡ length first.1.0 + length (pattern_word p k) = ap length (sym first.1.1) ∙ length-append first.1.0 (pattern_word p k) in (
        record {
          below = first.0;
          front = first.1.0;
          rest = [];
          parts = sym first.1.1 ∙ ap (λ (t : List ℕ). first.1.0 ++ t) (sym (append-nil (pattern_word p k)));
          start = omega arith;
          end = long;
          at = λ e. cc;
        },
        λ n o.
            let sizes = stands_length p No z n o in
            let end = ends n o in
            elim (subst (λ (xs : List ℕ). IsMember xs n.pattern) list (suffix-has p z n.pattern standard o.below (ends_word p z n o end))) [
              | inl e ↦ inl (same_occurrence n m e (omega (arith, sizes.0, ap (λ (i : ℕ). length (pattern_word p i)) e)) end)
              | inr later ↦
                  elim (order.0 n.pattern later) [
                    | inl longer ↦ inr (before_start p.kind m n standard (sym end) (inl (omega (arith, sizes.0, sizes.1, end))))
                    | inr tie ↦ inr (before_start p.kind m n standard (sym end) (inr (omega (arith, sizes.0, end, tie.0), tie.1)))
                  ]
            ],
      )

  -- a byte more, unanchored: the first match stays, and where there is none the first of the list is the best
  pub standard_further : (z w : List ℕ) (x : ℕ) (r : Option Occurrence) → z ≡ w ++ x ∷ [] → BestIn p No w r → BestIn p No z (first_of_two r (told_ending p (length z) (suffix_matches p z)))
  standard_further z w x None more best = best_ending z (λ n o. new_ends p No standard z w x n more best o) (suffix_matches p z) refl
  standard_further z w x (Some m) more best = first_stays p No standard z w (x ∷ []) m more best

  -- anchored
  pub standard_anchored : (z w : List ℕ) (x : ℕ) (r : Option Occurrence) → z ≡ w ++ x ∷ [] → BestIn p Yes w r → BestIn p Yes z (first_of_two r (told_at [] (length z) (own_matches p z)))
  standard_anchored z w x None more best =
      best_whole p Yes z (λ n o. (o.at refl, new_ends p Yes standard z w x n more best o)) (λ k lt e. every_kept p standard k)
  standard_anchored z w x (Some m) more best = first_stays p Yes standard z w (x ∷ []) m more best
