-- What is found in a stream and what its replacement writes, of the patterns that are searched for.
use Rattle.std.specs.Prelude.{◌≡◌, ◌≢◌, ◌⊎◌, ℕ, Bool, true, false, List, [], ◌∷◌, ◌++◌, Option, None, Result, IfErr, OnErr, OnOk, length}
use Rattle.std.specs.Borrow.{Bor, MutBor}
use Rattle.std.specs.Fn.{Mut}
use Rattle.std.specs.Iterator.{Yields, YieldsThen}
use Rattle.std.specs.Iterator.Runs.{EachRunFrom}
use Rattle.aho_core.specs.Iteration.{AreFinds}
use Rattle.aho_core.specs.Occurrence.{Occurrence}
use Rattle.aho_core.specs.Patterns.{Patterns}
use Rattle.aho_core.specs.Replacement.{pieces_of}
use Rattle.aho_core.specs.Search.{plain_search}
use Rattle.aho_core.specs.declared.error.stream.StreamError.{StreamError}
use Rattle.aho_core.specs.declared.error.stream.StreamError.TheVariants.{Memory}
use Rattle.aho_core.specs.declared.search.MatchKind.TheVariants.{Standard}
use Rattle.aho_automaton.specs.Finding.{AreFirstFinds}
use Rattle.aho_devices.specs.Buffer.{capacity_for}
use Rattle.aho_devices.specs.Refusals.{IsFillRefusal}
use Rattle.aho_devices.specs.declared.device.Sink.{Ghosts as SinkGhosts}
use Rattle.aho_devices.specs.declared.device.Source.{Ghosts as SourceGhosts}
use Rattle.aho_stream.specs.After.{greatest_position, kept_for}
use Rattle.aho_stream.specs.Chunks.{DiesAt}
use Rattle.aho_stream.specs.FindRuns.{FindsAll, FindsSoFar, is_limit_among, matches_among}
use Rattle.aho_stream.specs.Replacing.{BeginsReplacing, ReplacesStream, ReplacesStreamUpTo, SourceGave}
use Rattle.aho_stream.specs.StreamRun.{RefusesUntouched, RunsOver}
use Rattle.aho_stream.specs.declared.progress.StreamProgress.{StreamProgress}
use Rattle.chromesquid.specs.Searcher.{ForItsPatterns, Searcher, lengths_of}

-- of these patterns, with one piece for each of them: from a source and a sink before a call to those after it
module _ {R W : Type 0} (S : SourceGhosts R) (K : SinkGhosts W) (p : Patterns) (pieces : List (List ℕ)) (source source' : R) (sink sink' : W) where
  -- the stream has ended, and its replacement was written
  abbrev pub IsReplaced : Type 0
  IsReplaced = ReplacesStream S K (λ q. q ≡ p) pieces source source' sink sink'

  -- a beginning of the replacement was written, whatever bytes may follow
  abbrev pub IsReplacementBegun : Type 0
  IsReplacementBegun = BeginsReplacing S K (λ q. q ≡ p) pieces source source' sink sink'

  -- the replacement was written up to a place, whatever bytes may follow: at most as many bytes were left out as the longest
  -- pattern has
  abbrev pub IsReplacedUpTo : Type 0
  IsReplacedUpTo = ReplacesStreamUpTo S K (λ q. q ≡ p) pieces source source' sink sink'

-- these were the answers since a search of the source began: the matches among them are the first finds of what the source gave
unfoldable pub FindsBeginning : {R : Type 0} → SourceGhosts R → Patterns → R → List (Result Occurrence StreamError) → Type 0
FindsBeginning {R} S p source items = (left : R) × FindsSoFar S p source left items

-- and these were all: the end of the source was seen, and the matches among them are all finds of what it gave
unfoldable pub FindsWhole : {R : Type 0} → SourceGhosts R → Patterns → R → List (Result Occurrence StreamError) → Type 0
FindsWhole {R} S p source items = (left : R) × FindsAll S p source left items

-- where the last of some matches ends; the place itself where there is none
abbrev pub end_of_last : ℕ → List Occurrence → ℕ
end_of_last place [] = place
end_of_last place (m ∷ ms) = end_of_last m.end ms

-- the position limit was answered: the source had given as many bytes as may be, and its end was not seen. The matches among the
-- answers are the first finds of these bytes, whatever bytes may follow. Once `None` came too (`whole`) they are all of them under
-- Standard. Under a leftmost kind they are those that are settled: the state has not died since the last one
pub record FindsToLimit {R : Type 0} (S : SourceGhosts R) (p : Patterns) (source source' : R) (whole : Bool) (items : List (Result Occurrence StreamError)) : Type 0 where
  pub given : List ℕ
  pub gives : SourceGave S source source' given false
  pub full : length given ≡ greatest_position
  pub first : (more : List ℕ) → AreFirstFinds p (plain_search (given ++ more)) None (matches_among items)
  pub all : whole ≡ true → p.kind ≡ Standard → AreFinds p (plain_search given) None (matches_among items)
  pub unsettled : p.kind ≢ Standard → (place : ℕ) → DiesAt p given (end_of_last 0 (matches_among items)) place → ⊥

-- a replacement of a stream with this closure and to this sink may end so: it is a run over the bytes given and any that may
-- follow, where a refusal ends the run. At most as many of the given bytes are left out where the reading stopped as the longest
-- pattern has
abbrev pub IsStreamRun : {R W F : Type 0} → SourceGhosts R → SinkGhosts W → Patterns
    → Mut F (Bor Occurrence × (Bor (List ℕ) × (MutBor W × Unit {0}))) (Result (Unit {0}) StreamError × (MutBor W × Unit {0}))
    → R → R → F → W → Result (Unit {0}) StreamError → W → Type 0
IsStreamRun S K p calls source source' closure sink result sink' = RunsOver S K (λ q. q ≡ p) calls source source' closure sink result sink'

-- ---- by a searcher, of all patterns that it was built from

-- with one piece for each pattern: from a source and a sink before a call to those after it
module _ {R W : Type 0} (S : SourceGhosts R) (K : SinkGhosts W) (searcher : Searcher) (pieces : List (Bor (List ℕ))) (source source' : R) (sink sink' : W)
    (result : Result (Unit {0}) StreamError) where
  -- a call that succeeds has written the whole replacement
  abbrev pub ReplacesWhole : Type 0
  ReplacesWhole = ForItsPatterns searcher (λ p. OnOk result (IsReplaced S K p (pieces_of pieces) source source' sink sink'))

  -- one that fails a beginning of it
  abbrev pub ReplacesBeginning : Type 0
  ReplacesBeginning = ForItsPatterns searcher (λ p. OnErr result (IsReplacementBegun S K p (pieces_of pieces) source source' sink sink'))

  -- and where the reading stopped, all but what may still change
  abbrev pub ReplacesNearly : Type 0
  ReplacesNearly = ForItsPatterns searcher (λ p. IfErr result (λ error.
      IsFillRefusal error → IsReplacedUpTo S K p (pieces_of pieces) source source' sink sink'))

-- with this closure: memory was wanted before anything was read, or it is a run over the source's bytes
abbrev pub RunsStream : {R W F : Type 0} → SourceGhosts R → SinkGhosts W → Searcher
    → Mut F (Bor Occurrence × (Bor (List ℕ) × (MutBor W × Unit {0}))) (Result (Unit {0}) StreamError × (MutBor W × Unit {0}))
    → R → R → F → W → Result (Unit {0}) StreamError → W → Type 0
RunsStream S K searcher calls source source' closure sink result sink' = ForItsPatterns searcher (λ p.
    RefusesUntouched result Memory source source' sink sink' ⊎ IsStreamRun S K p calls source source' closure sink result sink')

-- an iterator whose calls give these, over the matches of what this source gives
module _ {I R : Type 0} (S : SourceGhosts R) (gives : I → Option (Result Occurrence StreamError) → I → Type 0) (searcher : Searcher) (source : R) (it : I) where
  -- each run of it finds the first
  abbrev pub RunsFindBeginning : Type 0
  RunsFindBeginning = ForItsPatterns searcher (λ p. EachRunFrom gives it (λ run. FindsBeginning S p source run.items))

  -- and one to `None` all, where the position limit was not answered
  abbrev pub RunsFindWhole : Type 0
  RunsFindWhole = ForItsPatterns searcher (λ p. EachRunFrom gives it (λ run.
      run.whole ≡ true → is_limit_among run.items ≡ false → FindsWhole S p source run.items))

  -- and one that was answered the position limit those that are settled till then
  abbrev pub RunsFindToLimit : Type 0
  RunsFindToLimit = ForItsPatterns searcher (λ p. EachRunFrom gives it (λ run.
      is_limit_among run.items ≡ true → (left : R) × FindsToLimit S p source left run.whole run.items))

-- calls of an iterator find so, wherever they leave it, by what its source is then
pub record FindsOnward {I R : Type 0} (S : SourceGhosts R) (source_in : I → R) (gives : I → Option (Result Occurrence StreamError) → I → Type 0) (p : Patterns) (it : I) : Type 0 where
  pub so_far : (items : List (Result Occurrence StreamError)) (rest : I) → Yields gives it items rest → FindsSoFar S p (source_in it) (source_in rest) items
  pub all : (items : List (Result Occurrence StreamError)) (rest : I) → YieldsThen gives it items None rest
      → is_limit_among items ≡ false → FindsAll S p (source_in it) (source_in rest) items

-- an iterator with these members gives the finds of what this source gives
pub record FindsFor {I R : Type 0} (S : SourceGhosts R) (source_in : I → R) (can : I → Type 0) (gives : I → Option (Result Occurrence StreamError) → I → Type 0)
    (searcher : Searcher) (source : R) (it : I) : Type 0 where
  pub ready : can it
  pub first : RunsFindBeginning S gives searcher source it
  pub finds : RunsFindWhole S gives searcher source it
  pub limit : RunsFindToLimit S gives searcher source it
  pub along : ForItsPatterns searcher (λ p. FindsOnward S source_in gives p it)

-- the buffer of its search is as long as the patterns ask for
abbrev pub HasBufferFor : Searcher → StreamProgress → Type 0
HasBufferFor searcher progress = progress.buffer.size ≡ capacity_for (kept_for (lengths_of searcher))
