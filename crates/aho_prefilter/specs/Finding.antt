-- What a prefilter answers, exactly: it stops at the first place of the span at which what it looks for stands, or so many before.
use Rattle.std.specs.Prelude.{◌≡◌, ℕ, ◌+◌, List, length, Option, Some, None as Nothing, slice_range}
use Rattle.memchr.specs.Find.{FindsNeedle, IsFirstByte, is_byte, is_byte2, is_byte3}
use Rattle.aho_core.specs.Occurrence.{occurrence}
use Rattle.aho_prefilter.specs.Packed.{IsFirstMet}
use Rattle.aho_prefilter.specs.PackedHeads.{IsFirstHeaded}
use Rattle.aho_prefilter.specs.Strided.{IsFirstMarked}
use Rattle.aho_prefilter.specs.Windows.{FindsWindow}
use Rattle.aho_prefilter.specs.declared.prefilter.Candidate.{Candidate}
use Rattle.aho_prefilter.specs.declared.prefilter.Candidate.TheVariants.{None, Match, PossibleStartOfMatch}
use Rattle.aho_prefilter.specs.declared.prefilter.Searcher.{Searcher}
use Rattle.aho_prefilter.specs.declared.prefilter.Searcher.TheVariants.{Memmem, Memchr, Memchr2, Memchr3, Packed, PackedHeads, Windows, Strided}

-- the first place of a part of a haystack at which the search stops
abbrev pub StopsFirst : Searcher → List ℕ → Option ℕ → Type 0
StopsFirst (Memmem needle) part at = FindsNeedle part needle 0 at
StopsFirst (Memchr x) part at = IsFirstByte (is_byte x) part at
StopsFirst (Memchr2 x y) part at = IsFirstByte (is_byte2 x y) part at
StopsFirst (Memchr3 x y z) part at = IsFirstByte (is_byte3 x y z) part at
StopsFirst (Packed packed) part at = IsFirstMet packed part at
StopsFirst (PackedHeads search) part at = IsFirstHeaded search part at
StopsFirst (Windows windows) part at = FindsWindow windows part at
StopsFirst (Strided marks) part at = IsFirstMarked marks part at

-- what a search answers that stops at a place: a needle that stands there is a match, and a byte may start one
abbrev pub answer_at : Searcher → ℕ → Candidate
answer_at (Memmem needle) place = Match (occurrence place (place + length needle) 0)
answer_at (Memchr x) place = PossibleStartOfMatch place
answer_at (Memchr2 x y) place = PossibleStartOfMatch place
answer_at (Memchr3 x y z) place = PossibleStartOfMatch place
answer_at (Packed packed) place = PossibleStartOfMatch place
answer_at (PackedHeads search) place = PossibleStartOfMatch place
answer_at (Windows windows) place = PossibleStartOfMatch place
answer_at (Strided marks) place = PossibleStartOfMatch place

-- the same where it may stop nowhere; the place is one of the part from `start` on
abbrev pub answer_in : Searcher → ℕ → Option ℕ → Candidate
answer_in searcher start Nothing = None
answer_in searcher start (Some at) = answer_at searcher (start + at)

-- the answer for a span
pub record FindsFirst (searcher : Searcher) (haystack : List ℕ) (start end : ℕ) (candidate : Candidate) : Type 0 where
  pub at : Option ℕ
  pub first : StopsFirst searcher (slice_range haystack start end) at
  pub is : candidate ≡ answer_in searcher start at
