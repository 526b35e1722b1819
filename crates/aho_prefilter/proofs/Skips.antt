-- What a candidate tells a search of the span, and of a span that starts sooner.
use Rattle.std.proofs.Common.{◌≡◌, ℕ, ◌+◌, ◌<◌, ◌≤◌, Bool, true, false, List, subst, arith}
use Rattle.std.specs.Prelude.{Some, None as Nowhere}
use Rattle.aho_core.specs.declared.search.Anchored.TheVariants.{No}
use Rattle.aho_core.specs.Answer.{IsAnswer}
use Rattle.aho_core.specs.Occurrence.{Occurrence}
use Rattle.aho_core.specs.Occurs.{Occurs}
use Rattle.aho_core.specs.Patterns.{Patterns}
use Rattle.aho_prefilter.specs.Candidate.{IsCandidate, IsWholeMatch, NoneStartsBefore, NothingOccurs, place_of}
use Rattle.aho_prefilter.specs.declared.prefilter.Candidate.{Candidate}
use Rattle.aho_prefilter.specs.declared.prefilter.Candidate.TheVariants.{None, Match, PossibleStartOfMatch}

module _ (p : Patterns) (haystack : List ℕ) where
  -- each match starts at the place or later
  pub IsCandidate-place : (start end place : ℕ) (candidate : Candidate) → IsCandidate p haystack start end candidate → place_of candidate ≡ Some place
      → (start ≤ place) × (place ≤ end) × NoneStartsBefore p haystack start end place
  IsCandidate-place start end place None is tells = cc
  IsCandidate-place start end place (Match m) is tells =
      let same : m.start ≡ place = cc in
      let o = is.best.0 in
      let low : start ≤ m.start = o.after_start in
      let high : m.start ≤ end = omega (arith, o.sized, o.before_end) in
      (omega arith, omega arith, subst (NoneStartsBefore p haystack start end) same is.first)
  IsCandidate-place start end place (PossibleStartOfMatch at) is tells =
      let same : at ≡ place = cc in
      let low : start ≤ at = is.after_start in
      let high : at < end = is.before_end in
      (omega arith, omega arith, subst (NoneStartsBefore p haystack start end) same is.first)

  -- there is no match
  pub IsCandidate-nothing : (start end : ℕ) (candidate : Candidate) → IsCandidate p haystack start end candidate → place_of candidate ≡ Nowhere → NothingOccurs p haystack start end
  IsCandidate-nothing start end None is tells = is
  IsCandidate-nothing start end (Match m) is tells = cc
  IsCandidate-nothing start end (PossibleStartOfMatch at) is tells = cc

  -- no match, no answer
  pub NothingOccurs-answer : (start end : ℕ) (earliest : Bool) → NothingOccurs p haystack start end
      → IsAnswer p (record { haystack = haystack; start = start; end = end; anchored = No; earliest = earliest }) Nowhere
  NothingOccurs-answer start end true nothing = nothing
  NothingOccurs-answer start end false nothing = nothing

  module _ (start later end : ℕ) (le : start ≤ later) where
    occurs_sooner : (m : Occurrence) → Occurs p No haystack later end m → Occurs p No haystack start end m
    occurs_sooner m o = record { numbered = o.numbered; after_start = omega (arith, o.after_start); before_end = o.before_end; sized = o.sized; same = o.same; admitted = λ x. cc }

    occurs_later : (m : Occurrence) → later ≤ m.start → Occurs p No haystack start end m → Occurs p No haystack later end m
    occurs_later m late o = record { numbered = o.numbered; after_start = late; before_end = o.before_end; sized = o.sized; same = o.same; admitted = λ x. cc }

    -- the best of a later part is the best of the span, where none starts before it
    pub IsWholeMatch-sooner : (m : Occurrence) → NoneStartsBefore p haystack start end m.start → IsWholeMatch p haystack later end m → IsWholeMatch p haystack start end m
    IsWholeMatch-sooner m none is = record {
      best = (
        occurs_sooner m is.best.0,
        λ other o. is.best.1 other (occurs_later other (omega (arith, none other o, is.best.0.after_start)) o),
      );
      first = none;
    }

  -- where none starts, there is none
  pub NoneStartsBefore-nothing : (start end : ℕ) → NoneStartsBefore p haystack start end (end + 1) → NothingOccurs p haystack start end
  NoneStartsBefore-nothing start end none m o = omega (arith, none m o, o.sized, o.before_end)
