-- A search of a stream that has not begun, and the iterator over its matches: over the searcher itself, or over the rows that it holds.
use Rattle.std.specs.Prelude.{◌≡◌, Option, Result, false}
use Rattle.std.specs.Borrow.{MutBor}
use Rattle.aho_core.specs.Occurrence.{Occurrence}
use Rattle.aho_core.specs.declared.error.stream.StreamError.{StreamError}
use Rattle.aho_automaton.specs.declared.automaton.Automaton.{Ghosts as Automata}
use Rattle.aho_devices.specs.declared.device.Source.{Ghosts as SourceGhosts}
use Rattle.aho_hybrid.specs.contracts.hybrid.HybridAutomaton.TheImpl.{ghosts as of_rows}
use Rattle.aho_hybrid.specs.declared.hybrid.Hybrid.{Hybrid}
use Rattle.aho_stream.specs.After.{greatest_position}
use Rattle.aho_stream.specs.Starts.{IsFreshStart}
use Rattle.aho_stream.specs.declared.progress.StreamProgress.{StreamProgress}
use Rattle.aho_stream.specs.declared.start.StreamStart.{StreamStart as StartOver}
use Rattle.chromesquid.specs.Searcher.{ForItsPatterns, Searcher, StandsFor}
use Rattle.chromesquid.specs.Streams.{FindsOnward, HasBufferFor}
use Rattle.chromesquid.specs.contracts.automaton.AhoCorasickAutomaton.TheImpl.{ghosts as of_searcher}
use Rattle.chromesquid.specs.declared.engine.Engine.TheVariants.{Rows}
use Rattle.chromesquid.specs.declared.stream_iter.StreamFindIter.{StreamFindIter}
use Rattle.chromesquid.specs.declared.stream_iter.StreamStart.{StreamStart}
use Rattle.either.specs.Either.{MatchEither, either}

-- an automaton answers as the searcher does, and nothing was given to the search by it, of 2^63 - 1 bytes that may be
pub record IsFreshFor {A : Type 0} (G : Automata A) (searcher : Searcher) (start : StartOver A) : Type 0 where
  pub stands : StandsFor G start.automaton.now searcher
  pub fresh : IsFreshStart G start
  pub going : start.progress.ended ≡ false
  pub unrefused : start.progress.refused ≡ false
  pub limit : start.progress.limit ≡ greatest_position
  pub buffer : HasBufferFor searcher start.progress

-- it is by the searcher itself
pub record IsNewItself (searcher : Searcher) (start : StartOver Searcher) : Type 0 where
  pub fresh_for : IsFreshFor of_searcher searcher start
  pub same : start.automaton.now ≡ searcher

-- or by the rows that it holds
pub record IsNewByRows (searcher : Searcher) (start : StartOver Hybrid) : Type 0 where
  pub fresh_for : IsFreshFor of_rows searcher start
  pub held : searcher.automaton ≡ Rows start.automaton.now

-- a search has not begun
abbrev pub IsNew : StreamStart → Type 0
IsNew start = MatchEither start.by (IsNewItself start.searcher.now) (IsNewByRows start.searcher.now)

-- how far it has come
abbrev pub progress_of : StreamStart → StreamProgress
progress_of start = either (λ s. s.progress) (λ s. s.progress) start.by

-- what an iterator's source is
abbrev pub stream_source : {R : Type 0} → StreamFindIter R → MutBor R
stream_source it = either (λ i. i.chunks.source) (λ i. i.chunks.source) it.by

-- and how far its search has come
abbrev pub progress_in : {R : Type 0} → StreamFindIter R → StreamProgress
progress_in it = either (λ i. i.chunks.progress) (λ i. i.chunks.progress) it.by

-- its calls find so, wherever they leave it
abbrev pub CallsFindAlong : {R : Type 0} → SourceGhosts R → (StreamFindIter R → Option (Result Occurrence StreamError) → StreamFindIter R → Type 0) → Searcher → StreamFindIter R → Type 0
CallsFindAlong S gives searcher it = ForItsPatterns searcher (λ p. FindsOnward S (λ i. (stream_source i).now) gives p it)
