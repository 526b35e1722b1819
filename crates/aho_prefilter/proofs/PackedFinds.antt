-- The packed search for the patterns stops no later than where the first one occurs.
use Rattle.std.proofs.Common.{◌≡◌, ℕ, ◌+◌, ◌-◌, ◌<◌, ◌≤◌, List, length, get_or, sym, ap, ◌∙◌, arith}
use Rattle.std.specs.Prelude.{None, Some, slice_range}
use Rattle.std.proofs.lemmas.List.{get_or-map, length-map}
use Rattle.aho_core.specs.declared.search.Anchored.TheVariants.{No}
use Rattle.aho_core.specs.Bytes.{folded, IsSameByte, IsSameWord}
use Rattle.aho_core.specs.Occurrence.{Occurrence}
use Rattle.aho_core.specs.Occurs.{Occurs}
use Rattle.aho_core.specs.Patterns.{Patterns, pattern_at}
use Rattle.aho_prefilter.specs.Candidate.{IsPossibleStart, NothingOccurs}
use Rattle.aho_prefilter.specs.Packed.{IsFirstMet, packed_of}
use Rattle.aho_prefilter.proofs.PackedSound.{found_before, none_stands, StandsAt}
use Rattle.aho_prefilter.proofs.Parts.{length_part, part-reads}

-- words that are the same have the same bytes
same_at : (p : Patterns) (xs ys : List ℕ) (k : ℕ) → k < length xs → IsSameWord p xs ys → IsSameByte p (get_or xs k 0) (get_or ys k 0)
same_at p xs ys k below same =
    let long : length xs ≡ length ys = sym (length-map xs (folded p)) ∙ ap length same ∙ length-map ys (folded p) in
    sym (get_or-map (folded p) xs k 0 0 below) ∙ ap (λ (w : List ℕ). get_or w k 0) same ∙ get_or-map (folded p) ys k 0 0 (omega arith)

module _ (p : Patterns) (some : (k : ℕ) → k < length p.words → 0 < length (pattern_at p k)) where
  module _ (haystack : List ℕ) (start end : ℕ) (ordered : start ≤ end) (within : end ≤ length haystack) where
    -- a pattern that occurs stands in the part
    pub stands : (m : Occurrence) → Occurs p No haystack start end m → StandsAt p.ignore_case (pattern_at p m.pattern) (slice_range haystack start end) (m.start - start)
    stands m o k below =
        let low : start ≤ m.start = o.after_start in
        let long : m.start + length (pattern_at p m.pattern) ≡ m.end = o.sized in
        let high : m.end ≤ end = o.before_end in
        same_at p (pattern_at p m.pattern) (slice_range haystack m.start m.end) k below o.same
        ∙ ap (folded p)
        (part-reads haystack m.start m.end k (omega arith)
        ∙ ap (λ n. get_or haystack n 0) (omega arith)
        ∙ sym (part-reads haystack start end ((m.start - start) + k) (omega arith)))

    pub inside : (m : Occurrence) → Occurs p No haystack start end m → m.start - start < length (slice_range haystack start end)
    inside m o =
        let low : start ≤ m.start = o.after_start in
        let long : m.start + length (pattern_at p m.pattern) ≡ m.end = o.sized in
        let high : m.end ≤ end = o.before_end in
        omega (arith, length_part haystack start end within, some m.pattern o.numbered)

    -- where the search finds no place nothing occurs
    pub packed-none : IsFirstMet (packed_of p.ignore_case p.words) (slice_range haystack start end) None → NothingOccurs p haystack start end
    packed-none none m o =
        none_stands p.ignore_case p.words (slice_range haystack start end) m.pattern (m.start - start) none o.numbered (inside m o) (stands m o)

    -- nothing starts before the place that it finds
    pub packed-start : (at : ℕ) → IsFirstMet (packed_of p.ignore_case p.words) (slice_range haystack start end) (Some at) → IsPossibleStart p haystack start end (start + at)
    packed-start at found = record {
      after_start = omega arith;
      before_end = omega (arith, found.0.high, length_part haystack start end within);
      first = λ m o.
          let low : start ≤ m.start = o.after_start in
          let before = found_before p.ignore_case p.words (slice_range haystack start end) at m.pattern (m.start - start) found o.numbered (inside m o) (stands m o) in
          omega arith;
    }
