-- The packed search with heads for the patterns stops no later than where the first one occurs.
use Rattle.std.proofs.Common.{◌≡◌, ℕ, ◌+◌, ◌-◌, ◌<◌, ◌≤◌, inl, inr, List, length, subst, arith}
use Rattle.std.specs.Prelude.{None, Some, slice_range}
use Rattle.std.proofs.lemmas.Bool.{cases_lt}
use Rattle.aho_core.specs.declared.search.Anchored.TheVariants.{No}
use Rattle.aho_core.specs.Occurrence.{Occurrence}
use Rattle.aho_core.specs.Occurs.{Occurs}
use Rattle.aho_core.specs.Patterns.{Patterns, pattern_at}
use Rattle.aho_prefilter.specs.Candidate.{IsPossibleStart, NothingOccurs}
use Rattle.aho_prefilter.specs.PackedHeads.{IsFirstHeaded, MayStartAt, packed_heads_of}
use Rattle.aho_prefilter.specs.Prefilter.{AreHeadsOf}
use Rattle.aho_prefilter.specs.declared.packed_heads.PackedHeads.{PackedHeads}
use Rattle.aho_prefilter.proofs.HeadsSound.{MayStartAt-stands}
use Rattle.aho_prefilter.proofs.PackedFinds.{inside, stands}
use Rattle.aho_prefilter.proofs.Parts.{length_part}

module _ (p : Patterns) (search : PackedHeads) (are : AreHeadsOf p search) where
  some : (k : ℕ) → k < length p.words → 0 < length (pattern_at p k)
  some k below = omega (arith, are.long k below, are.some)

  module _ (haystack : List ℕ) (start end : ℕ) (ordered : start ≤ end) (within : end ≤ length haystack) where
    -- where a pattern occurs, the search may stop
    may_start : (m : Occurrence) → Occurs p No haystack start end m → MayStartAt (packed_heads_of p.ignore_case are.tested are.size p.words) (slice_range haystack start end) (m.start - start)
    may_start m o =
        let low : start ≤ m.start = o.after_start in
        let long : m.start + length (pattern_at p m.pattern) ≡ m.end = o.sized in
        let high : m.end ≤ end = o.before_end in
        MayStartAt-stands p.ignore_case are.tested are.size p.words (slice_range haystack start end) m.pattern (m.start - start) o.numbered (are.long m.pattern o.numbered)
        (stands p some haystack start end ordered within m o) (omega (arith, length_part haystack start end within))

    -- where the search finds no place nothing occurs
    none_made : IsFirstHeaded (packed_heads_of p.ignore_case are.tested are.size p.words) (slice_range haystack start end) None → NothingOccurs p haystack start end
    none_made none m o = none (m.start - start) (omega arith) (inside p some haystack start end ordered within m o) (may_start m o)

    pub heads-none : IsFirstHeaded search (slice_range haystack start end) None → NothingOccurs p haystack start end
    heads-none none = none_made (subst (λ s. IsFirstHeaded s (slice_range haystack start end) None) are.made none)

    -- nothing starts before the place that it finds
    start_made : (at : ℕ) → IsFirstHeaded (packed_heads_of p.ignore_case are.tested are.size p.words) (slice_range haystack start end) (Some at) → IsPossibleStart p haystack start end (start + at)
    start_made at found = record {
      after_start = omega arith;
      before_end = omega (arith, found.0.high, length_part haystack start end within);
      first = λ m o.
          let low : start ≤ m.start = o.after_start in
          elim (cases_lt (m.start - start) at) [
            | inl sooner ↦ absurd (found.0.before (m.start - start) (omega arith) sooner (may_start m o))
            | inr late ↦ omega arith
          ];
    }

    pub heads-start : (at : ℕ) → IsFirstHeaded search (slice_range haystack start end) (Some at) → IsPossibleStart p haystack start end (start + at)
    heads-start at found = start_made at (subst (λ s. IsFirstHeaded s (slice_range haystack start end) (Some at)) are.made found)
