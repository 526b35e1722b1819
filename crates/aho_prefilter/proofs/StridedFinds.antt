-- The strided search for the patterns stops no later than where the first one occurs.
use Rattle.std.proofs.Common.{◌≡◌, ℕ, ◌+◌, ◌-◌, ◌<◌, ◌≤◌, inl, inr, Bool, List, length, sym, subst, arith}
use Rattle.std.specs.Prelude.{None, Some, slice_range}
use Rattle.std.proofs.lemmas.Bool.{cases_lt}
use Rattle.aho_core.specs.declared.search.Anchored.TheVariants.{No}
use Rattle.aho_core.specs.Occurrence.{Occurrence}
use Rattle.aho_core.specs.Occurs.{Occurs}
use Rattle.aho_core.specs.Patterns.{Patterns, pattern_at}
use Rattle.aho_prefilter.specs.Candidate.{IsPossibleStart, NothingOccurs}
use Rattle.aho_prefilter.specs.Prefilter.{AreMarksOf}
use Rattle.aho_prefilter.specs.Strided.{IsFirstMarked, Marks, MayStartAt}
use Rattle.aho_prefilter.proofs.Caseless.{caseless-same}
use Rattle.aho_prefilter.proofs.PackedFinds.{inside, stands}
use Rattle.aho_prefilter.proofs.PackedSound.{StandsAt}
use Rattle.aho_prefilter.proofs.Parts.{length_part}
use Rattle.aho_prefilter.proofs.StridedSound.{MayStartAt-stands}

module _ (p : Patterns) (marks : Marks) (are : AreMarksOf p marks) where
  some : (k : ℕ) → k < length p.words → 0 < length (pattern_at p k)
  some k below = omega (arith, (are.each k below).long, are.sizes.within, are.sizes.some, are.sizes.steps)

  module _ (haystack : List ℕ) (start end : ℕ) (ordered : start ≤ end) (within : end ≤ length haystack) where
    -- where a pattern occurs, the search may stop
    may_start : (m : Occurrence) → Occurs p No haystack start end m → MayStartAt marks (slice_range haystack start end) (m.start - start)
    may_start m o =
        let low : start ≤ m.start = o.after_start in
        let long : m.start + length (pattern_at p m.pattern) ≡ m.end = o.sized in
        let high : m.end ≤ end = o.before_end in
        let there = subst (λ (rule : Bool). StandsAt rule (pattern_at p m.pattern) (slice_range haystack start end) (m.start - start)) (sym are.rule) (stands p some haystack start end ordered within m o) in
        MayStartAt-stands marks (slice_range haystack start end) (pattern_at p m.pattern) (m.start - start) are.sizes (are.each m.pattern o.numbered) (λ k below. caseless-same marks.sizes.ignore_case _ _ (there k below))
        (omega (arith, length_part haystack start end within))

    -- where the search finds no place nothing occurs
    pub strided-none : IsFirstMarked marks (slice_range haystack start end) None → NothingOccurs p haystack start end
    strided-none none m o = none (m.start - start) (omega arith) (inside p some haystack start end ordered within m o) (may_start m o)

    -- nothing starts before the place that it finds
    pub strided-start : (at : ℕ) → IsFirstMarked marks (slice_range haystack start end) (Some at) → IsPossibleStart p haystack start end (start + at)
    strided-start at found = record {
      after_start = omega arith;
      before_end = omega (arith, found.0.high, length_part haystack start end within);
      first = λ m o.
          let low : start ≤ m.start = o.after_start in
          elim (cases_lt (m.start - start) at) [
            | inl sooner ↦ absurd (found.0.before (m.start - start) (omega arith) sooner (may_start m o))
            | inr late ↦ omega arith
          ];
    }
