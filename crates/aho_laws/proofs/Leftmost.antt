-- The leftmost kinds: what a byte does to the best, and that a dead state keeps it.
use Rattle.std.proofs.Common.{◌≡◌, ◌⊎◌, inl, inr, ℕ, ◌+◌, ◌<◌, ◌≤◌, true, false, List, [], ◌∷◌, ◌++◌, length, refl, sym, ◌∙◌, ap, subst, arith, length-append}
use Rattle.std.specs.Prelude.{Option, Some, None}
use Rattle.std.proofs.lemmas.Bool.{cases_lt, cases_eq}
use Rattle.std.proofs.lemmas.List.{append-nil, append_assoc, length_push}
use Rattle.aho_core.specs.declared.search.Anchored.{Anchored}
use Rattle.aho_core.specs.declared.search.Anchored.TheVariants.{Yes}
use Rattle.aho_core.specs.declared.search.MatchKind.TheVariants.{LeftmostFirst, LeftmostLongest}
use Rattle.aho_laws.proofs.Begins.{Begins, begins_trans, begins_whole, begins_length}
use Rattle.aho_laws.proofs.Kept.{leftmost_kinds, keeper, kept-no_longer, is_cut-true, own-first, left_out, past_dead, all_kept}
use Rattle.aho_laws.proofs.Orders.{same_occurrence}
use Rattle.aho_laws.proofs.Stands.{Stands, BestIn, stands_length, stands_more, stands_less, stands_at, begins_at, before_later, before_number, before_longer, best_starts, best_number}
use Rattle.aho_laws.proofs.Fronts.{Front}
use Rattle.aho_core.specs.Failure.{is_cut, is_leftmost}
use Rattle.aho_core.specs.Laws.{first_of_two}
use Rattle.aho_core.specs.MatchList.{own_matches}
use Rattle.aho_core.specs.Occurrence.{Occurrence}
use Rattle.aho_core.specs.Order.{IsBefore}
use Rattle.aho_core.specs.Patterns.{Patterns}
use Rattle.aho_core.specs.Trie.{is_kept, is_node, pattern_word}

-- what the first of a word's own patterns tells, where the word is v in pre ++ v, up to the end
abbrev pub told_at : List ℕ → ℕ → List ℕ → Option Occurrence
told_at pre end [] = None
told_at pre end (k ∷ ks) = Some (record { pattern = k; start = length pre; end = end })

module _ (p : Patterns) where
  -- under LeftmostFirst the first of a word's own patterns has the least number of all patterns that begin the word
  least_number : (v : List ℕ) (k : ℕ) (ks : List ℕ) (j : ℕ) → p.kind ≡ LeftmostFirst → own_matches p v ≡ k ∷ ks → j < length p.words → Begins (pattern_word p j) v → k ≤ j
  least_number v k ks j is own lt b =
      let first = own-first p v k ks own in
      elim (cases_lt j k) [
        | inr ge ↦ ge
        | inl below ↦
            (let begins_first : Begins (pattern_word p j) (pattern_word p k) = subst (λ (t : List ℕ). Begins (pattern_word p j) t) (sym first.2) b in
            let long : length (pattern_word p k) ≤ length (pattern_word p j) = kept-no_longer p j k is first.1 below begins_first in
            let whole : pattern_word p j ≡ v = begins_whole (pattern_word p j) v b (omega (arith, ap length first.2)) in
            let t = keeper p j in
            elim t.which [
              | inl e ↦ first.3 j lt (subst (λ (i : ℕ). is_kept p i ≡ true) e t.kept) whole
              | inr m ↦
                  (let begins_too : Begins (pattern_word p t.who) (pattern_word p k) = begins_trans (pattern_word p t.who) (pattern_word p j) (pattern_word p k) t.begins_it begins_first in
                  absurd (omega (arith, kept-no_longer p t.who k is first.1 (omega (arith, m.1)) begins_too, m.2, begins_length (pattern_word p j) v b, ap length first.2)))
            ])
      ]

  module _ (anchored : Anchored) where
    -- the first of the own patterns at the front is the best
    pub best_at_front : (z pre v : List ℕ) (k : ℕ) (ks : List ℕ) → is_leftmost p.kind ≡ true → Front p anchored z pre v → own_matches p v ≡ k ∷ ks → BestIn p anchored z (told_at pre (length z) (k ∷ ks))
    best_at_front z pre v k ks leftmost f own =
        let first = own-first p v k ks own in
        let m : Occurrence = record { pattern = k; start = length pre; end = length z } in
        let long : length z ≡ length pre + length v = ap length f.parts ∙ length-append pre v in
        let same_long : length (pattern_word p k) ≡ length v = ap length first.2 in (
          stands_at p anchored z pre v k (length z) f.parts f.at first.0 ([], append-nil (pattern_word p k) ∙ first.2) (omega arith),
          λ n o.
              let sizes = stands_length p anchored z n o in
              elim (cases_lt (length pre) n.start) [
                | inl later ↦ inr (before_later p.kind m n leftmost later)
                | inr here ↦
                    (let start : n.start ≡ length pre = omega (arith, f.none_before n o) in
                    let b = begins_at p anchored z pre v n f.parts o start in
                    let short = begins_length (pattern_word p n.pattern) v b in
                    elim (leftmost_kinds p.kind leftmost) [
                      | inl is ↦
                          elim (cases_eq k n.pattern) [
                            | inl e ↦ inl (same_occurrence n m (sym e) start (omega (arith, sizes.0, ap (λ (i : ℕ). length (pattern_word p i)) e)))
                            | inr apart ↦ inr (before_number p.kind m n is (sym start) (omega (arith, least_number v k ks n.pattern is own o.below b)))
                          ]
                      | inr is ↦
                          elim (cases_lt (length (pattern_word p n.pattern)) (length v)) [
                            | inl shorter ↦ inr (before_longer p.kind m n is (sym start) (inl (omega (arith, sizes.0))))
                            | inr whole ↦
                                (let kept = all_kept p n.pattern (λ e. let clash : LeftmostLongest ≡ LeftmostFirst = sym is ∙ e in cc) in
                                let le : k ≤ n.pattern = first.3 n.pattern o.below kept (begins_whole (pattern_word p n.pattern) v b whole) in
                                elim (cases_eq k n.pattern) [
                                  | inl e ↦ inl (same_occurrence n m (sym e) start (omega (arith, sizes.0)))
                                  | inr apart ↦ inr (before_longer p.kind m n is (sym start) (inr (omega (arith, sizes.0), omega arith)))
                                ])
                          ]
                    ])
              ],
        )

    module _ (leftmost : is_leftmost p.kind ≡ true) (z w : List ℕ) (x : ℕ) (more : z ≡ w ++ x ∷ []) (pre v : List ℕ) (f : Front p anchored z pre v) (own : own_matches p v ≡ []) where
      -- a pattern of this number at the front
      abbrev placed : ℕ → Occurrence
      placed i = record { pattern = i; start = length pre; end = length pre + length (pattern_word p i) }

      lengths_here : (length z ≡ length w + 1) × (length z ≡ length pre + length v)
      lengths_here = (ap length more ∙ length_push w x, ap length f.parts ∙ length-append pre v)

      -- a pattern that begins at the front and ends within w
      stands_within : (i : ℕ) → i < length p.words → Begins (pattern_word p i) v → length (pattern_word p i) < length v
          → Stands p anchored w (placed i)
      stands_within i lt b short =
          stands_less p anchored z w (x ∷ []) (placed i) more (omega (arith, lengths_here.0, lengths_here.1))
          (stands_at p anchored z pre v i (length pre + length (pattern_word p i)) f.parts f.at lt b refl)

      -- there is one
      some_within : is_cut p v ≡ true → (i : ℕ) × Stands p anchored w (placed i)
      some_within cut =
          let c = (is_cut-true p v cut).1 in
          elim (cases_lt (length (pattern_word p c.0)) (length v)) [
            | inl short ↦ (c.0, stands_within c.0 c.1 c.2 short)
            | inr whole ↦
                (let out = (left_out p v c.0 own c.1 (begins_whole (pattern_word p c.0) v c.2 whole)).1 in
                (out.0, stands_within out.0 (omega (arith, out.1, c.1)) out.2 out.3))
          ]

      new_one : (m n : Occurrence) → BestIn p anchored w (Some m) → Stands p anchored z n → length w < n.end → is_cut p v ≡ true → (n ≡ m) ⊎ IsBefore p.kind m n
      new_one m n best o past cut =
          let sizes = stands_length p anchored z n o in
          let within = some_within cut in
          let first : m.start ≤ length pre = best_starts p.kind m (placed within.0) leftmost (best.1 (placed within.0) within.1) in
          let not_before : length pre ≤ m.start = f.none_before m (stands_more p anchored z w (x ∷ []) m more best.0) in
          let after : length pre ≤ n.start = f.none_before n o in
          elim (cases_lt m.start n.start) [
            | inl later ↦ inr (before_later p.kind m n leftmost later)
            | inr here ↦
                (let start : n.start ≡ length pre = omega arith in
                let b = begins_at p anchored z pre v n f.parts o start in
                let whole : pattern_word p n.pattern ≡ v = begins_whole (pattern_word p n.pattern) v b (omega (arith, sizes.0, sizes.1, lengths_here.0, lengths_here.1)) in
                let out = left_out p v n.pattern own o.below whole in
                let i = out.1.0 in
                let number : m.pattern ≤ i =
                best_number p.kind m (placed i) out.0
                (best.1 (placed i) (stands_within i (omega (arith, out.1.1, o.below)) out.1.2 out.1.3)) (omega arith) in
                inr (before_number p.kind m n out.0 (omega arith) (omega (arith, out.1.1))))
          ]

      -- where the front has no own pattern the best stays
      pub best_stays : (r : Option Occurrence) → BestIn p anchored w r → BestIn p anchored z r
      best_stays None best =
          λ n o. elim (cases_lt (length w) n.end) [
            | inl past ↦ elim f.some [ inl cut ↦ (let within = some_within cut in best (placed within.0) within.1) | inr none ↦ none n o ]
            | inr within ↦ best n (stands_less p anchored z w (x ∷ []) n more within o)
          ]
      best_stays (Some m) best = (
        stands_more p anchored z w (x ∷ []) m more best.0,
        λ n o. elim (cases_lt (length w) n.end) [
          | inl past ↦ elim f.some [ inl cut ↦ new_one m n best o past cut | inr none ↦ absurd (none n o) ]
          | inr within ↦ best.1 n (stands_less p anchored z w (x ∷ []) n more within o)
        ],
      )

    -- one byte more
    pub best_further : (z w pre v : List ℕ) (x : ℕ) (r : Option Occurrence) → is_leftmost p.kind ≡ true → z ≡ w ++ x ∷ [] → Front p anchored z pre v → BestIn p anchored w r
        → BestIn p anchored z (first_of_two (told_at pre (length z) (own_matches p v)) r)
    best_further z w pre v x r leftmost more f best = by_own (own_matches p v) refl
      where
        by_own : (ks : List ℕ) → own_matches p v ≡ ks → BestIn p anchored z (first_of_two (told_at pre (length z) ks) r)
        by_own [] own = best_stays leftmost z w x more pre v f own r best
        by_own (k ∷ ks) own = best_at_front z pre v k ks leftmost f own

    -- past a word that is no node
    module _ (w y pre v : List ℕ) (parts : w ≡ pre ++ v) (other : is_node p v ≡ false) (at : anchored ≡ Yes → pre ≡ []) where
      abbrev placed_past : ℕ → Occurrence
      placed_past i = record { pattern = i; start = length pre; end = length pre + length (pattern_word p i) }

      -- a new occurrence from v on is not the best
      pub past_number : (m n : Occurrence) → BestIn p anchored w (Some m) → m.start ≡ length pre → Stands p anchored (w ++ y) n → n.start ≡ length pre → length w < n.end → IsBefore p.kind m n
      past_number m n best here o start past =
          let sizes = stands_length p anchored (w ++ y) n o in
          let more : w ++ y ≡ pre ++ (v ++ y) = ap (λ (t : List ℕ). t ++ y) parts ∙ append_assoc pre v y in
          let b = begins_at p anchored (w ++ y) pre (v ++ y) n more o start in
          let out = past_dead p v y n.pattern other o.below b (omega (arith, sizes.0, ap length parts, length-append pre v)) in
          let i = out.1.0 in
          let number : m.pattern ≤ i =
          best_number p.kind m (placed_past i) out.0
          (best.1 (placed_past i) (stands_at p anchored w pre v i (length pre + length (pattern_word p i)) parts at (omega (arith, out.1.1, o.below)) out.1.2 refl)) here in
          before_number p.kind m n out.0 (here ∙ sym start) (omega (arith, out.1.1))

      pub past_none : (n : Occurrence) → BestIn p anchored w None → Stands p anchored (w ++ y) n → n.start ≡ length pre → length w < n.end → ⊥
      past_none n best o start past =
          let sizes = stands_length p anchored (w ++ y) n o in
          let more : w ++ y ≡ pre ++ (v ++ y) = ap (λ (t : List ℕ). t ++ y) parts ∙ append_assoc pre v y in
          let b = begins_at p anchored (w ++ y) pre (v ++ y) n more o start in
          let out = past_dead p v y n.pattern other o.below b (omega (arith, sizes.0, ap length parts, length-append pre v)) in
          best (placed_past out.1.0) (stands_at p anchored w pre v out.1.0 (length pre + length (pattern_word p out.1.0)) parts at (omega (arith, out.1.1, o.below)) out.1.2 refl)
