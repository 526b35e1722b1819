-- What the answers of the searches mean.
use Rattle.std.proofs.Common.{◌≡◌, ℕ, ◌+◌, ◌-◌, ◌<◌, ◌≤◌, zero, suc, inl, inr, Bool, true, List, [], ◌∷◌, length, refl, sym, ap, subst, ◌∙◌, arith}
use Rattle.std.specs.Prelude.{Option, Some, None, slice_range}
use Rattle.std.specs.List.{Contains}
use Rattle.std.proofs.lemmas.Bool.{cases_lt}
use Rattle.std.proofs.lemmas.Bool.Decides.{nat_tests}
use Rattle.memchr.specs.Find.{FindsNeedle, IsFirstByte, is_byte, is_byte2, is_byte3}
use Rattle.aho_core.specs.declared.search.MatchKind.{MatchKind}
use Rattle.aho_core.specs.declared.search.MatchKind.TheVariants.{Standard, LeftmostFirst, LeftmostLongest}
use Rattle.aho_core.specs.Occurrence.{Occurrence, occurrence}
use Rattle.aho_core.specs.Order.{IsBefore}
use Rattle.aho_core.specs.Patterns.{Patterns}
use Rattle.aho_prefilter.specs.Candidate.{IsCandidate, NoneStartsBefore, NothingOccurs, IsPossibleStart, IsWholeMatch}
use Rattle.aho_prefilter.specs.Finding.{FindsFirst, StopsFirst, answer_at, answer_in}
use Rattle.aho_prefilter.specs.Packed.{IsFirstMet}
use Rattle.aho_prefilter.specs.Prefilter.{AllBeginWithin, IsOnlyPattern, IsPrefilterOf}
use Rattle.aho_prefilter.specs.declared.prefilter.Candidate.{Candidate}
use Rattle.aho_prefilter.specs.declared.prefilter.Searcher.{Searcher}
use Rattle.aho_prefilter.specs.declared.prefilter.Searcher.TheVariants.{Memmem, Memchr, Memchr2, Memchr3, Packed, PackedHeads, Windows, Strided}
use Rattle.aho_prefilter.proofs.HeadsFinds.{heads-none, heads-start}
use Rattle.aho_prefilter.proofs.PackedFinds.{packed-none, packed-start}
use Rattle.aho_prefilter.proofs.StridedFinds.{strided-none, strided-start}
use Rattle.aho_prefilter.proofs.WindowsFinds.{windows-none, windows-start}
use Rattle.aho_prefilter.proofs.Parts.{length_part, is_only, starts_pass, OccursAt-only, Occurs-from_part}

-- a byte that is one of these passes their test
is_byte-has : (x byte : ℕ) → Contains (x ∷ []) byte → is_byte x byte ≡ true
is_byte-has x byte (zero, below, e) = grind (arith, nat_tests)
is_byte-has x byte (suc k, below, e) = absurd (omega arith)

is_byte2-has : (x y byte : ℕ) → Contains (x ∷ y ∷ []) byte → is_byte2 x y byte ≡ true
is_byte2-has x y byte (zero, below, e) = grind (arith, nat_tests)
is_byte2-has x y byte (suc zero, below, e) = grind (arith, nat_tests)
is_byte2-has x y byte (suc (suc k), below, e) = absurd (omega arith)

is_byte3-has : (x y z byte : ℕ) → Contains (x ∷ y ∷ z ∷ []) byte → is_byte3 x y z byte ≡ true
is_byte3-has x y z byte (zero, below, e) = grind (arith, nat_tests)
is_byte3-has x y z byte (suc zero, below, e) = grind (arith, nat_tests)
is_byte3-has x y z byte (suc (suc zero), below, e) = grind (arith, nat_tests)
is_byte3-has x y z byte (suc (suc (suc k)), below, e) = absurd (omega arith)

-- of two occurrences of one word the one that starts first is before the other, by each kind
starts_first : (kind : MatchKind) (x y : Occurrence) (length : ℕ) → x.start + length ≡ x.end → y.start + length ≡ y.end → x.start < y.start → IsBefore kind x y
starts_first Standard x y length ends also less = inl (omega arith)
starts_first LeftmostFirst x y length ends also less = inl less
starts_first LeftmostLongest x y length ends also less = inl less

module _ (p : Patterns) (haystack : List ℕ) (start end : ℕ) (ordered : start ≤ end) (within : end ≤ length haystack) where
  module _ (bytes : List ℕ) (test : ℕ → Bool) (passes : (byte : ℕ) → Contains bytes byte → test byte ≡ true) (begin : AllBeginWithin p bytes) where
    -- no byte, no occurrence
    no_byte : IsFirstByte test (slice_range haystack start end) None → NothingOccurs p haystack start end
    no_byte none m o =
        let stops = starts_pass p haystack start end ordered within bytes test passes begin m o in
        none (m.start - start) (omega arith) stops.0 stops.1

    -- nothing starts before the first byte
    first_byte : (at : ℕ) → IsFirstByte test (slice_range haystack start end) (Some at) → IsPossibleStart p haystack start end (start + at)
    first_byte at found = record {
      after_start = omega arith;
      before_end = omega (arith, found.0.high, length_part haystack start end within);
      first = λ m o.
          let stops = starts_pass p haystack start end ordered within bytes test passes begin m o in
          let low : start ≤ m.start = o.after_start in
          elim (cases_lt m.start (start + at)) [
            | inl sooner ↦ absurd (found.0.before (m.start - start) (omega arith) (omega arith) stops.1)
            | inr late ↦ late
          ];
    }

  module _ (needle : List ℕ) (is : IsOnlyPattern p needle) where
    -- no needle, no occurrence
    no_needle : FindsNeedle (slice_range haystack start end) needle 0 None → NothingOccurs p haystack start end
    no_needle none m o =
        let stands = OccursAt-only p haystack start end ordered within needle is m o in
        none (m.start - start) (omega arith) (omega (arith, stands.fits)) stands

    first_needle : (at : ℕ) → FindsNeedle (slice_range haystack start end) needle 0 (Some at) → NoneStartsBefore p haystack start end (start + at)
    first_needle at found m o =
        let low : start ≤ m.start = o.after_start in
        elim (cases_lt m.start (start + at)) [
          | inl sooner ↦ absurd (found.0.before (m.start - start) (omega arith) (omega arith) (OccursAt-only p haystack start end ordered within needle is m o))
          | inr late ↦ late
        ]

    -- the first needle is the best of the span
    whole_needle : (at : ℕ) → FindsNeedle (slice_range haystack start end) needle 0 (Some at)
        → IsWholeMatch p haystack start end (occurrence (start + at) (start + at + length needle) 0)
    whole_needle at found =
        let first = first_needle at found in
        record {
          best = (
            Occurs-from_part p haystack start end ordered within needle at is found.1,
            λ other o.
                let only = is_only p needle other.pattern is.only o.numbered in
                let ends : other.start + length needle ≡ other.end = ap (λ (w : List ℕ). other.start + length w) (sym only.1) ∙ o.sized in
                elim (cases_lt (start + at) other.start) [
                  | inl later ↦ inr (starts_first p.kind _ other (length needle) refl ends later)
                  | inr sooner ↦
                      let low : start + at ≤ other.start = first other o in
                      let together : other.start ≡ start + at = omega arith in
                      inl
                      (ap (λ (k : ℕ). record { pattern = k; start = other.start; end = other.end }) only.0
                      ∙ ap (λ (s : ℕ). record { pattern = 0; start = s; end = other.end }) together
                      ∙ ap (λ (e : ℕ). record { pattern = 0; start = start + at; end = e }) (omega arith))
                ],
          );
          first = first;
        }

  -- where a search finds nothing, nothing occurs
  no_stop : (searcher : Searcher) → IsPrefilterOf searcher p → StopsFirst searcher (slice_range haystack start end) None → NothingOccurs p haystack start end
  no_stop (Memmem needle) is none = no_needle needle is none
  no_stop (Memchr x) is none = no_byte (x ∷ []) (is_byte x) (is_byte-has x) is none
  no_stop (Memchr2 x y) is none = no_byte (x ∷ y ∷ []) (is_byte2 x y) (is_byte2-has x y) is none
  no_stop (Memchr3 x y z) is none = no_byte (x ∷ y ∷ z ∷ []) (is_byte3 x y z) (is_byte3-has x y z) is none
  no_stop (Packed packed) is none = packed-none p is.some haystack start end ordered within (subst (λ q. IsFirstMet q (slice_range haystack start end) None) is.made none)
  no_stop (PackedHeads search) is none = heads-none p search is haystack start end ordered within none
  no_stop (Windows windows) is none = windows-none p windows is haystack start end ordered within none
  no_stop (Strided marks) is none = strided-none p marks is haystack start end ordered within none

  -- where it stops at a place, its answer is a candidate
  stop : (searcher : Searcher) (at : ℕ) → IsPrefilterOf searcher p → StopsFirst searcher (slice_range haystack start end) (Some at) → IsCandidate p haystack start end (answer_at searcher (start + at))
  stop (Memmem needle) at is found = whole_needle needle is at found
  stop (Memchr x) at is found = first_byte (x ∷ []) (is_byte x) (is_byte-has x) is at found
  stop (Memchr2 x y) at is found = first_byte (x ∷ y ∷ []) (is_byte2 x y) (is_byte2-has x y) is at found
  stop (Memchr3 x y z) at is found = first_byte (x ∷ y ∷ z ∷ []) (is_byte3 x y z) (is_byte3-has x y z) is at found
  stop (Packed packed) at is found = packed-start p is.some haystack start end ordered within at (subst (λ q. IsFirstMet q (slice_range haystack start end) (Some at)) is.made found)
  stop (PackedHeads search) at is found = heads-start p search is haystack start end ordered within at found
  stop (Windows windows) at is found = windows-start p windows is haystack start end ordered within at found
  stop (Strided marks) at is found = strided-start p marks is haystack start end ordered within at found

  stop_or_none : (searcher : Searcher) (at : Option ℕ) → IsPrefilterOf searcher p → StopsFirst searcher (slice_range haystack start end) at → IsCandidate p haystack start end (answer_in searcher start at)
  stop_or_none searcher None is none = no_stop searcher is none
  stop_or_none searcher (Some at) is found = stop searcher at is found

  -- what a prefilter of the patterns finds is a candidate
  pub FindsFirst-candidate : (searcher : Searcher) (candidate : Candidate) → IsPrefilterOf searcher p → FindsFirst searcher haystack start end candidate → IsCandidate p haystack start end candidate
  FindsFirst-candidate searcher candidate is finds = subst (IsCandidate p haystack start end) (sym finds.is) (stop_or_none searcher finds.at is finds.first)
