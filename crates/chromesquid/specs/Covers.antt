-- What the covers by a searcher give and leave, of the patterns that it was built from.
use Rattle.std.specs.Prelude.{◌≡◌, ℕ, List, Option, Result, IfErr, IfOk, OnErr, OnOk, Vec, length, vec_items}
use Rattle.std.specs.Iterator.{Count, UpTo}
use Rattle.std.specs.Borrow.{Bor}
use Rattle.aho_core.specs.Cover.{IsCover}
use Rattle.aho_core.specs.Occurrence.{Occurrence}
use Rattle.aho_core.specs.Patterns.{Patterns}
use Rattle.aho_core.specs.Replacement.{pieces_of}
use Rattle.aho_core.specs.declared.error.MatchErrorKind.{MatchErrorKind}
use Rattle.aho_core.specs.declared.error.stream.StreamError.{StreamError}
use Rattle.aho_core.specs.declared.search.Anchored.TheVariants.{No}
use Rattle.aho_core.specs.declared.search.MatchKind.TheVariants.{Standard}
use Rattle.aho_automaton.specs.Covering.{GivesFirstRuns, GivesRuns, cover_refusal}
use Rattle.aho_automaton.specs.Fused.{IsFused}
use Rattle.aho_devices.specs.Refusals.{IsFillRefusal}
use Rattle.aho_devices.specs.declared.device.Sink.{Ghosts as SinkGhosts}
use Rattle.aho_devices.specs.declared.device.Source.{Ghosts as SourceGhosts}
use Rattle.aho_cover.specs.Covers.{BeginsCovering, CoversStream, CoversStreamUpTo}
use Rattle.chromesquid.specs.Searcher.{Answers, ForItsPatterns, HasNoEmpty, Searcher, lengths_of, match_kind_of, start_by}

-- why a searcher covers nothing: its kind is not Standard, a pattern is empty, or it answers anchored searches alone, in this order
abbrev pub why_not_covered : Searcher → Option MatchErrorKind
why_not_covered searcher = cover_refusal (match_kind_of searcher) (lengths_of searcher) (start_by searcher No)

-- it covers: it is of the kind Standard, no pattern is empty, and it answers searches that are not anchored
pub record CanCoverAll (searcher : Searcher) : Type 0 where
  pub standard : match_kind_of searcher ≡ Standard
  pub no_empty : HasNoEmpty searcher
  pub starts : Answers searcher No

-- an iterator with these members gives the runs of a haystack's cover
pub record RunsFor {I : Type 0} (can : I → Type 0) (gives : I → Option Occurrence → I → Type 0) (remaining : I → Count) (searcher : Searcher) (haystack : List ℕ) (it : I) : Type 0 where
  pub ready : can it
  pub runs : ForItsPatterns searcher (λ p. GivesRuns gives p haystack it)
  pub first : ForItsPatterns searcher (λ p. GivesFirstRuns gives p haystack it)
  pub bound : UpTo (remaining it) (length haystack)
  pub fused : IsFused gives it

-- it gives the bytes with a piece in the place of each run of their cover
abbrev pub CoversBytes : {E Z : Type 0} → Searcher → List ℕ → List (Bor (List ℕ)) → Result (Vec ℕ Z) E → Type 0
CoversBytes searcher haystack pieces result = ForItsPatterns searcher (λ p.
    IfOk result (λ bytes. IsCover p haystack (pieces_of pieces) (vec_items bytes)))

-- of these patterns, with one piece for each of them: from a source and a sink before a call to those after it
module _ {R W : Type 0} (S : SourceGhosts R) (K : SinkGhosts W) (p : Patterns) (pieces : List (List ℕ)) (source source' : R) (sink sink' : W) where
  -- the stream has ended, and its cover was written
  abbrev pub IsStreamCovered : Type 0
  IsStreamCovered = CoversStream S K (λ q. q ≡ p) pieces source source' sink sink'

  -- a beginning of the cover was written, whatever bytes may follow
  abbrev pub IsCoverBegun : Type 0
  IsCoverBegun = BeginsCovering S K (λ q. q ≡ p) pieces source source' sink sink'

  -- the cover was written up to a place, whatever bytes may follow
  abbrev pub IsCoveredUpTo : Type 0
  IsCoveredUpTo = CoversStreamUpTo S K (λ q. q ≡ p) pieces source source' sink sink'

-- by a searcher, with one piece for each pattern: from a source and a sink before a call to those after it
module _ {R W : Type 0} (S : SourceGhosts R) (K : SinkGhosts W) (searcher : Searcher) (pieces : List (Bor (List ℕ))) (source source' : R) (sink sink' : W)
    (result : Result (Unit {0}) StreamError) where
  -- a call that succeeds has written the whole cover
  abbrev pub CoversWhole : Type 0
  CoversWhole = ForItsPatterns searcher (λ p. OnOk result (IsStreamCovered S K p (pieces_of pieces) source source' sink sink'))

  -- one that fails a beginning of it
  abbrev pub CoversBeginning : Type 0
  CoversBeginning = ForItsPatterns searcher (λ p. OnErr result (IsCoverBegun S K p (pieces_of pieces) source source' sink sink'))

  -- and where the reading stopped, all but what may still change
  abbrev pub CoversNearly : Type 0
  CoversNearly = ForItsPatterns searcher (λ p. IfErr result (λ error.
      IsFillRefusal error → IsCoveredUpTo S K p (pieces_of pieces) source source' sink sink'))
