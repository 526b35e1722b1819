-- Standard: the list of a held state is what ends where the word that was read does.
use Rattle.std.proofs.Common.{◌≡◌, ◌↔◌, inl, inr, ℕ, suc, ◌+◌, ◌-◌, ◌<◌, Bool, true, false, cond, ◌&&◌, List, [], ◌∷◌, ◌++◌, length, map, take, drop, refl, sym, ◌∙◌, ap, subst, arith, length-append}
use Rattle.std.specs.Prelude.{Some, None, is_none, not, filter, flat_map, slice_range}
use Rattle.std.specs.List.{range_with_len}
use Rattle.std.proofs.lemmas.Bool.{cases_Bool, cond-true, cond-false}
use Rattle.std.proofs.lemmas.List.{append-nil, append_assoc, map-append, drop_at, take_at, length_push, drop-map, take-append-drop}
use Rattle.std.proofs.lemmas.List.Elements.{filter_agree}
use Rattle.aho_core.specs.declared.search.Anchored.TheVariants.{No, Yes}
use Rattle.aho_laws.proofs.Begins.{any_agree}
use Rattle.aho_laws.proofs.Kept.{every_kept}
use Rattle.aho_laws.proofs.Stands.{Stands, from_occurs, to_occurs, length-folded, length-pattern_word}
use Rattle.aho_laws.proofs.Listed.{Ends, ListedBefore, listed-weaker, suffix-state, suffix-member, suffix-has, suffix-listed}
use Rattle.aho_laws.proofs.Standard.{ends_word}
use Rattle.aho_core.specs.Bytes.{folded, folded_word, is_same_word}
use Rattle.aho_core.specs.Failure.{is_leftmost}
use Rattle.aho_core.specs.Held.{held_after}
use Rattle.aho_core.specs.Laws.{patterns_ending}
use Rattle.aho_core.specs.Listing.{IsListedBy, IsMember}
use Rattle.aho_core.specs.MatchList.{leftmost_matches, matches_of, own_matches, suffix_matches}
use Rattle.aho_core.specs.Occurrence.{Occurrence, occurrence}
use Rattle.aho_core.specs.Occurs.{Occurs}
use Rattle.aho_core.specs.Overlapping.{begins_some, occurrences_at}
use Rattle.aho_core.specs.Patterns.{Patterns, numbers, pattern_at}
use Rattle.aho_core.specs.Trie.{begins, is_kept, is_node, is_word, pattern_word}
use Rattle.aho_laws.specs.TrieLaws.{IsLongerOrFirst, IsSuffixOf}

-- the occurrence of a pattern that ends at a place
abbrev pub ending_at : Patterns → ℕ → ℕ → Occurrence
ending_at p end k = record { pattern = k; start = end - length (pattern_word p k); end = end }

-- the numbers of the occurrences at one range
map-occurrence : (start end : ℕ) (ks : List ℕ) → map (λ (m : Occurrence). m.pattern) (map (occurrence start end) ks) ≡ ks
map-occurrence start end [] = refl
map-occurrence start end (k ∷ ks) = ap (λ (xs : List ℕ). k ∷ xs) (map-occurrence start end ks)

-- the bytes from a front on
slice_range-rest : (w front v : List ℕ) → w ≡ front ++ v → slice_range w (length front) (length w) ≡ v
slice_range-rest w front v e =
    let long : length v ≡ length w - length front = omega (arith, ap length e, length-append front v) in
    ap (λ (t : List ℕ). take (length w - length front) (drop (length front) t)) e
    ∙ ap (take (length w - length front)) (drop_at front v (length front) refl)
    ∙ ap (take (length w - length front)) (sym (append-nil v))
    ∙ take_at v [] (length w - length front) long

module _ (p : Patterns) (standard : is_leftmost p.kind ≡ false) where
  -- a pattern that ends a word occurs at its end
  stands_ending : (z : List ℕ) (k : ℕ) → k < length p.words → Ends (pattern_word p k) z → Stands p No z (ending_at p (length z) k)
  stands_ending z k lt e =
      let long : length z ≡ length e.0 + length (pattern_word p k) = ap length (sym e.1) ∙ length-append e.0 (pattern_word p k) in
      record {
        below = lt;
        front = e.0;
        rest = [];
        parts = sym e.1 ∙ ap (λ (t : List ℕ). e.0 ++ t) (sym (append-nil (pattern_word p k)));
        start = omega arith;
        end = long;
        at = λ y. cc;
      }

  -- unanchored
  pub held-lists : (w : List ℕ) (k : ℕ) → IsMember (matches_of p (held_after p No w)) k ↔ Occurs p No w 0 (length w) (ending_at p (length w) k)
  held-lists w k =
      let z = folded_word p w in
      let list : matches_of p (held_after p No w) ≡ suffix_matches p z = suffix-state p z standard (held_after p No w) refl in (
        (λ m.
            let t = suffix-member p z k (subst (λ (xs : List ℕ). IsMember xs k) list m) in
            to_occurs p No w (ending_at p (length w) k) (subst (λ (n : ℕ). Stands p No z (ending_at p n k)) (length-folded p w) (stands_ending z k t.0 t.1))),
        (λ o.
            let s = from_occurs p No w (ending_at p (length w) k) o in
            subst (λ (xs : List ℕ). IsMember xs k) (sym list) (suffix-has p z k standard s.below (ends_word p z (ending_at p (length w) k) s (sym (length-folded p w))))),
      )

  -- the longest first, then by number
  pub held-listed : (w : List ℕ) → IsListedBy (ListedBefore p) (matches_of p (held_after p No w))
  held-listed w = subst (IsListedBy (ListedBefore p)) (sym (suffix-state p (folded_word p w) standard (held_after p No w) refl)) (suffix-listed p (folded_word p w))

  -- anchored, while the search has not ended, the same
  pub anchored-lists : (w : List ℕ) → is_none (held_after p Yes w) ≡ false → matches_of p (held_after p Yes w) ≡ matches_of p (held_after p No w)
  anchored-lists w alive =
      let z = folded_word p w in
      elim (cases_Bool (is_node p z)) [
        | inl node ↦
            ap (matches_of p) (cond-true (is_node p z) (Some z) None node)
            ∙ cond-false (is_leftmost p.kind) (leftmost_matches p z) (suffix_matches p z) standard
            ∙ sym (suffix-state p z standard (held_after p No w) refl)
        | inr other ↦ (let clash : true ≡ false = sym (ap is_none (cond-false (is_node p z) (Some z) None other)) ∙ alive in cc)
      ]

  -- the occurrences at the range of a word's last bytes are the own patterns of those
  own-occurrences_at : (w front v : List ℕ) → w ≡ front ++ v → map (λ (m : Occurrence). m.pattern) (occurrences_at p w (length front) (length w)) ≡ own_matches p (folded_word p v)
  unfolding own_matches pattern_word
  own-occurrences_at w front v e =
      map-occurrence (length front) (length w) (filter (λ k. is_same_word p (pattern_at p k) (slice_range w (length front) (length w))) (numbers p))
      ∙ filter_agree (λ k. is_same_word p (pattern_at p k) (slice_range w (length front) (length w))) (λ k. is_kept p k && is_word (pattern_word p k) (folded_word p v))
      (λ k.
      ap (is_same_word p (pattern_at p k)) (slice_range-rest w front v e)
      ∙ sym (ap (λ (b : Bool). b && is_word (pattern_word p k) (folded_word p v)) (every_kept p standard k)))
      (numbers p)

  -- so what ends the word, from a front on, is what the rest's state lists
  ending_from : (w front v : List ℕ) (at : ℕ) → w ≡ front ++ v → at ≡ length front
      → map (λ (m : Occurrence). m.pattern) (flat_map (λ at. occurrences_at p w at (length w)) (range_with_len at (suc (length v)))) ≡ suffix_matches p (folded_word p v)
  ending_from w front [] at e is =
      ap (map (λ (m : Occurrence). m.pattern)) (append-nil (occurrences_at p w at (length w)) ∙ ap (λ (i : ℕ). occurrences_at p w i (length w)) is) ∙ own-occurrences_at w front [] e
  ending_from w front (x ∷ v) at e is =
      let further = ending_from w (front ++ x ∷ []) v (at + 1) (e ∙ sym (append_assoc front (x ∷ []) v)) (omega (arith, length_push front x)) in
      map-append (λ (m : Occurrence). m.pattern) (occurrences_at p w at (length w)) (flat_map (λ i. occurrences_at p w i (length w)) (range_with_len (at + 1) (suc (length v))))
      ∙ ap (λ (ks : List ℕ). ks ++ map (λ (m : Occurrence). m.pattern) (flat_map (λ i. occurrences_at p w i (length w)) (range_with_len (at + 1) (suc (length v)))))
      (ap (λ (i : ℕ). map (λ (m : Occurrence). m.pattern) (occurrences_at p w i (length w))) is ∙ own-occurrences_at w front (x ∷ v) e)
      ∙ ap (λ (ks : List ℕ). own_matches p (folded_word p (x ∷ v)) ++ ks) further

  -- from the word's start on: all that ends the word
  pub suffix-patterns_ending : (w : List ℕ) → suffix_matches p (folded_word p w) ≡ patterns_ending p w
  suffix-patterns_ending w =
      let size : length w + 1 - 0 ≡ suc (length w) = omega arith in
      sym (ap (λ (n : ℕ). map (λ (m : Occurrence). m.pattern) (flat_map (λ at. occurrences_at p w at (length w)) (range_with_len 0 n))) size ∙ ending_from w [] w 0 refl refl)

  -- the list of the state after a word
  pub held-patterns_ending : (w : List ℕ) → matches_of p (held_after p No w) ≡ patterns_ending p w
  held-patterns_ending w = suffix-state p (folded_word p w) standard (held_after p No w) refl ∙ suffix-patterns_ending w

  -- every pattern is kept, so a word is a node where it begins some pattern
  pub is_node-begins_some : (x : ℕ) (w : List ℕ) → is_node p (folded_word p (x ∷ w)) ≡ begins_some p (x ∷ w)
  unfolding is_node
  is_node-begins_some x w =
      any_agree (λ k. is_kept p k && begins (folded_word p (x ∷ w)) (pattern_word p k)) (λ k. begins (folded_word p (x ∷ w)) (pattern_word p k))
      (λ k. ap (λ (b : Bool). b && begins (folded_word p (x ∷ w)) (pattern_word p k)) (every_kept p standard k)) (numbers p)

  -- an anchored search has ended where the word begins no pattern
  pub is_none-held_after : (x : ℕ) (w : List ℕ) → is_none (held_after p Yes (x ∷ w)) ≡ not (begins_some p (x ∷ w))
  is_none-held_after x w = by_node (is_node p (folded_word p (x ∷ w))) ∙ ap not (is_node-begins_some x w)
    where
      by_node : (b : Bool) → is_none (cond b (Some (folded_word p (x ∷ w))) None) ≡ not b
      by_node true = refl
      by_node false = refl

  -- said by the bytes: a pattern is listed where it is the same as a suffix
  pub held-member : (w : List ℕ) (k : ℕ) → IsMember (matches_of p (held_after p No w)) k ↔ IsSuffixOf p w k
  unfolding pattern_word
  held-member w k =
      let z = folded_word p w in
      let list : matches_of p (held_after p No w) ≡ suffix_matches p z = suffix-state p z standard (held_after p No w) refl in (
        (λ m.
            let t = suffix-member p z k (subst (λ (xs : List ℕ). IsMember xs k) list m) in
            let front = t.1.0 in
            record {
              numbered = t.0;
              at = length front;
              within = omega (arith, ap length t.1.1, length-append front (pattern_word p k), length-folded p w);
              same = sym (drop_at front (pattern_word p k) (length front) refl) ∙ ap (drop (length front)) t.1.1 ∙ drop-map (folded p) (length front) w;
            }),
        (λ o.
            let parts : folded_word p (take o.at w) ++ pattern_word p k ≡ z =
            ap (λ (t : List ℕ). folded_word p (take o.at w) ++ t) o.same ∙ sym (map-append (folded p) (take o.at w) (drop o.at w)) ∙ ap (folded_word p) (take-append-drop o.at w) in
            subst (λ (xs : List ℕ). IsMember xs k) (sym list) (suffix-has p z k standard o.numbered (folded_word p (take o.at w), parts))),
      )

  -- and in this order
  pub held-longest_first : (w : List ℕ) → IsListedBy (IsLongerOrFirst p) (matches_of p (held_after p No w))
  held-longest_first w =
      listed-weaker (ListedBefore p) (IsLongerOrFirst p) (matches_of p (held_after p No w))
      (λ j k in_j in_k before. elim before [
        | inl longer ↦ inl (omega (arith, length-pattern_word p j, length-pattern_word p k))
        | inr tie ↦ inr (omega (arith, tie.0, length-pattern_word p j, length-pattern_word p k), tie.1)
      ])
      (held-listed w)
