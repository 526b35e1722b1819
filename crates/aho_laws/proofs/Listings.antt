-- The lists of occurrences have each occurrence once, in order.
use Rattle.std.proofs.Common.{◌≡◌, ℕ, ◌+◌, ◌-◌, ◌<◌, ◌≤◌, true, List, length, inl, inr, refl, arith, subst, sym, ap}
use Rattle.std.specs.Prelude.{slice_range}
use Rattle.std.specs.List.{filter}
use Rattle.std.proofs.lemmas.List.Edits.{length-between}
use Rattle.aho_core.specs.declared.search.Anchored.TheVariants.{No}
use Rattle.aho_core.specs.declared.search.MatchKind.TheVariants.{Standard}
use Rattle.aho_core.specs.Bytes.{folded_word, is_same_word, IsSameWord}
use Rattle.aho_core.specs.Listing.{IsMember, IsListedBy}
use Rattle.aho_core.specs.Occurrence.{Occurrence, occurrence}
use Rattle.aho_core.specs.Occurs.{Occurs}
use Rattle.aho_core.specs.Order.{IsBefore}
use Rattle.aho_core.specs.Overlapping.{all_occurrences, anchored_occurrences, begins_some, occurrences_at, occurrences_ending, places}
use Rattle.aho_core.specs.Patterns.{Patterns, numbers, pattern_at}
use Rattle.aho_laws.specs.SearchLaws.{IsFrontOfPattern}
use Rattle.aho_core.specs.Trie.{begins, pattern_word}
use Rattle.aho_laws.proofs.Begins.{any-true, any-from, begins-true, begins-from}
use Rattle.aho_laws.proofs.Members.{member-flat_map, member-of_flat_map, member-range, member-of_range, member-filter, member-of_filter, member-map, member-of_map, listed-flat_map_range, listed-filter, listed-map, listed-range, listed-by_weaker}
use Rattle.aho_laws.proofs.SameWords.{is_same_word-Decides, IsSameWord-length}

module _ (p : Patterns) (haystack : List ℕ) where
  -- what ends at one place
  pub occurrences_ending-has : (start end : ℕ) (m : Occurrence) → Occurs p No haystack start end m → IsMember (occurrences_ending p haystack start m.end) m
  occurrences_ending-has start end m h =
      let sized = h.sized in
      let after = h.after_start in
      let test = λ (number : ℕ). is_same_word p (pattern_at p number) (slice_range haystack m.start m.end) in
      let same : test m.pattern ≡ true = (is_same_word-Decides p (pattern_at p m.pattern) (slice_range haystack m.start m.end)).1 h.same in
      member-flat_map (λ at. occurrences_at p haystack at m.end) (places start m.end) m.start m
      (member-range start (m.end + 1 - start) m.start (omega arith) (omega arith))
      (member-map (occurrence m.start m.end) (filter test (numbers p)) m.pattern
      (member-filter test (numbers p) m.pattern same (member-range 0 (length p.words) m.pattern (omega arith) (omega (arith, h.numbered)))))

  pub all_occurrences-has : (start end : ℕ) (m : Occurrence) → Occurs p No haystack start end m → IsMember (all_occurrences p haystack start end) m
  all_occurrences-has start end m h =
      let sized = h.sized in
      let after = h.after_start in
      let before = h.before_end in
      member-flat_map (occurrences_ending p haystack start) (places start end) m.end m
      (member-range start (end + 1 - start) m.end (omega arith) (omega arith)) (occurrences_ending-has start end m h)

  -- what stands in the list of a range
  pub occurrences_at-only : (start end : ℕ) (m : Occurrence) → IsMember (occurrences_at p haystack start end) m
      → (m.start ≡ start) × (m.end ≡ end) × (m.pattern < length p.words) × IsSameWord p (pattern_at p m.pattern) (slice_range haystack m.start m.end)
  occurrences_at-only start end m h =
      let test = λ (number : ℕ). is_same_word p (pattern_at p number) (slice_range haystack start end) in
      let made = member-of_map (occurrence start end) (filter test (numbers p)) m h in
      let kept = member-of_filter test (numbers p) made.0 made.1 in
      let number_is : m.pattern ≡ made.0 = ap (λ (o : Occurrence). o.pattern) made.2 in
      let same : IsSameWord p (pattern_at p made.0) (slice_range haystack start end) = (is_same_word-Decides p (pattern_at p made.0) (slice_range haystack start end)).0 kept.0 in (
        ap (λ (o : Occurrence). o.start) made.2,
        ap (λ (o : Occurrence). o.end) made.2,
        omega (arith, member-of_range 0 (length p.words) made.0 kept.1),
        subst (λ (o : Occurrence). IsSameWord p (pattern_at p o.pattern) (slice_range haystack o.start o.end)) (sym made.2) same,
      )

  pub occurrences_ending-only : (start end : ℕ) (m : Occurrence) → end ≤ length haystack → IsMember (occurrences_ending p haystack start end) m → Occurs p No haystack start end m × (m.end ≡ end)
  occurrences_ending-only start end m within h =
      let by_start = member-of_flat_map (λ at. occurrences_at p haystack at end) (places start end) m h in
      let here = occurrences_at-only by_start.0 end m by_start.2 in
      let starts = member-of_range start (end + 1 - start) by_start.0 by_start.1 in
      let start_is : m.start ≡ by_start.0 = here.0 in
      let end_is : m.end ≡ end = here.1 in (
        record {
          numbered = here.2;
          after_start = omega (arith, starts);
          before_end = omega arith;
          sized = omega (arith, starts, IsSameWord-length p (pattern_at p m.pattern) (slice_range haystack m.start m.end) here.3, length-between haystack m.start m.end (omega arith));
          same = here.3;
          admitted = λ e. cc;
        },
        end_is,
      )

  pub all_occurrences-only : (start end : ℕ) (m : Occurrence) → end ≤ length haystack → IsMember (all_occurrences p haystack start end) m → Occurs p No haystack start end m
  all_occurrences-only start end m within h =
      let by_end = member-of_flat_map (occurrences_ending p haystack start) (places start end) m h in
      let ends = member-of_range start (end + 1 - start) by_end.0 by_end.1 in
      let occurs = (occurrences_ending-only start by_end.0 m (omega (arith, ends)) by_end.2).0 in
      record { numbered = occurs.numbered; after_start = occurs.after_start; before_end = omega (arith, ends, occurs.before_end); sized = occurs.sized; same = occurs.same; admitted = occurs.admitted }

  -- by start, then number
  pub occurrences_ending-listed : (start end : ℕ) → IsListedBy (IsBefore Standard) (occurrences_ending p haystack start end)
  occurrences_ending-listed start e =
      listed-flat_map_range (IsBefore Standard) (λ at. occurrences_at p haystack at e) start (e + 1 - start)
      (λ s.
      let test = λ (number : ℕ). is_same_word p (pattern_at p number) (slice_range haystack s e) in
      listed-map (IsBefore Standard) (occurrence s e) (filter test (numbers p))
      (listed-by_weaker (λ j k. j < k) (λ j k. IsBefore Standard (occurrence s e j) (occurrence s e k)) (filter test (numbers p)) (λ j k less. inr (refl, inr (refl, less)))
      (listed-filter (λ j k. j < k) test (numbers p) (listed-range 0 (length p.words)))))
      (λ s t x y less in_s in_t.
      let one = occurrences_at-only s e x in_s in
      let two = occurrences_at-only t e y in_t in
      inr (omega (arith, one, two), inl (omega (arith, one, two))))

  -- by end, then start, then number
  pub all_occurrences-listed : (start end : ℕ) → IsListedBy (IsBefore Standard) (all_occurrences p haystack start end)
  all_occurrences-listed start end =
      listed-flat_map_range (IsBefore Standard) (occurrences_ending p haystack start) start (end + 1 - start)
      (λ e. occurrences_ending-listed start e)
      (λ e f x y less in_e in_f.
      let start_x = member-of_flat_map (λ at. occurrences_at p haystack at e) (places start e) x in_e in
      let start_y = member-of_flat_map (λ at. occurrences_at p haystack at f) (places start f) y in_f in
      let one = occurrences_at-only start_x.0 e x start_x.2 in
      let two = occurrences_at-only start_y.0 f y start_y.2 in
      inl (omega (arith, one, two)))

  -- the test of a word that begins some pattern
  pub begins_some-true : (word : List ℕ) → begins_some p word ≡ true → IsFrontOfPattern p word
  unfolding pattern_word
  begins_some-true word h =
      let found = any-true (λ number. begins (folded_word p word) (pattern_word p number)) 0 (length p.words) h in
      (found.0, omega (arith, found.2), begins-true (folded_word p word) (pattern_word p found.0) found.3)

  pub begins_some-from : (word : List ℕ) → IsFrontOfPattern p word → begins_some p word ≡ true
  unfolding pattern_word
  begins_some-from word h =
      any-from (λ number. begins (folded_word p word) (pattern_word p number)) 0 (length p.words) h.0 (omega arith) (omega (arith, h.1)) (begins-from (folded_word p word) h.2.0 (pattern_word p h.0) h.2.1)

  pub anchored_occurrences-has : (start end : ℕ) (m : Occurrence) → Occurs p No haystack start end m → IsFrontOfPattern p (slice_range haystack start m.end)
      → IsMember (anchored_occurrences p haystack start end) m
  anchored_occurrences-has start end m occurs front =
      member-filter (λ (o : Occurrence). begins_some p (slice_range haystack start o.end)) (all_occurrences p haystack start end) m
      (begins_some-from (slice_range haystack start m.end) front) (all_occurrences-has start end m occurs)

  pub anchored_occurrences-only : (start end : ℕ) (m : Occurrence) → end ≤ length haystack → IsMember (anchored_occurrences p haystack start end) m
      → Occurs p No haystack start end m × IsFrontOfPattern p (slice_range haystack start m.end)
  anchored_occurrences-only start end m within h =
      let kept = member-of_filter (λ (o : Occurrence). begins_some p (slice_range haystack start o.end)) (all_occurrences p haystack start end) m h in
      (all_occurrences-only start end m within kept.1, begins_some-true (slice_range haystack start m.end) kept.0)

  pub anchored_occurrences-listed : (start end : ℕ) → IsListedBy (IsBefore Standard) (anchored_occurrences p haystack start end)
  anchored_occurrences-listed start end =
      listed-filter (IsBefore Standard) (λ (o : Occurrence). begins_some p (slice_range haystack start o.end)) (all_occurrences p haystack start end) (all_occurrences-listed start end)
