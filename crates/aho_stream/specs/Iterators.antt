-- What an iterator over the chunks of a stream is seen as, and what its calls promise.
use Rattle.std.specs.Prelude.{◌≡◌, ℕ, ◌+◌, ◌*◌, ◌≤◌, ◌||◌, true, length, List, [], ◌++◌, Option, Some, None, Result, Ok, Err, slice_range, ⊤}
use Rattle.std.specs.Borrow.{Bor}
use Rattle.aho_core.specs.declared.error.stream.StreamError.{StreamError}
use Rattle.aho_core.specs.Laws.{longest}
use Rattle.aho_core.specs.Occurrence.{Occurrence}
use Rattle.aho_core.specs.Patterns.{Patterns}
use Rattle.aho_devices.specs.Counts.{counted}
use Rattle.aho_devices.specs.declared.device.Source.{Ghosts as SourceGhosts}
use Rattle.aho_automaton.specs.declared.automaton.Automaton.{Ghosts}
use Rattle.aho_stream.specs.After.{IsAfter}
use Rattle.aho_stream.specs.Chunks.{Advances, ReadsOn, TellsNone, ends_between, piece_of, tells_limit, tells_read_fault}
use Rattle.aho_stream.specs.declared.chunks.StreamChunk.{StreamChunk}
use Rattle.aho_stream.specs.declared.chunks.StreamChunk.TheVariants.{NonMatch as Bytes, Match as BytesOf}
use Rattle.aho_stream.specs.declared.chunks.StreamChunkIter.{StreamChunkIter}
use Rattle.aho_stream.specs.declared.progress.StreamPiece.{StreamPiece}

-- the automaton that it walks
abbrev pub automaton_of : {A R : Type 0} → StreamChunkIter A R → A
automaton_of it = it.walk.automaton.now

-- the look-ups that it has made
abbrev pub lookups_of : {A R : Type 0} → StreamChunkIter A R → ℕ
lookups_of it = it.walk.work

-- its source gave these bytes, and it has come so far with them
abbrev pub HasGiven : {A R : Type 0} → Ghosts A → StreamChunkIter A R → Patterns → List ℕ → Type 0
HasGiven G it p given = IsAfter G (automaton_of it) p (lookups_of it) it.progress given

-- it may be called: its source gave some bytes, and its automaton is of some patterns
abbrev pub CanGoOn : {A R : Type 0} → Ghosts A → StreamChunkIter A R → Type 0
CanGoOn G it = (p : Patterns) × (given : List ℕ) × G.is_of (automaton_of it) p × HasGiven G it p given

-- it has not begun: whatever patterns its automaton is of, nothing was given
abbrev pub HasNotBegun : {A R : Type 0} → Ghosts A → StreamChunkIter A R → Type 0
HasNotBegun G it = (p : Patterns) → G.is_of (automaton_of it) p → HasGiven G it p []

-- and its automaton is of some patterns
abbrev pub IsFresh : {A R : Type 0} → Ghosts A → StreamChunkIter A R → Type 0
IsFresh G it = (p : Patterns) × G.is_of (automaton_of it) p × HasGiven G it p []

-- a call reads some bytes and answers what it should
abbrev pub Advanced : {A R : Type 0} → Ghosts A → SourceGhosts R → StreamChunkIter A R → StreamChunkIter A R → Option (Result StreamPiece StreamError) → Type 0
Advanced G S it it' answer = Advances G (automaton_of it) (lookups_of it) (lookups_of it') it.progress it'.progress
    (S.remaining it.source.now) (S.remaining it'.source.now) answer

-- a call reads some bytes, and tells nothing
pub record ReadsAhead {A R : Type 0} (G : Ghosts A) (S : SourceGhosts R) (it it' : StreamChunkIter A R) : Type 0 where
  pub reads : ReadsOn G (automaton_of it) (lookups_of it) (lookups_of it') it.progress it'.progress
      (S.remaining it.source.now) (S.remaining it'.source.now)
  pub still : TellsNone it.progress it'.progress

-- what is said of the bytes of the last chunk, whatever the source gave
abbrev pub ForLastChunk : {A R : Type 0} → Ghosts A → StreamChunkIter A R → (List ℕ → Type 0) → Type 0
ForLastChunk G it says = (p : Patterns) (given : List ℕ) → G.is_of (automaton_of it) p → HasGiven G it p given
    → says (slice_range given it.progress.told it.progress.reported)

-- how many bytes are walked at most, each time that they are walked
abbrev pub most_walked : {A R : Type 0} → Ghosts A → StreamChunkIter A R → List ℕ → ℕ
most_walked G it given = (1 + longest (G.lengths (automaton_of it))) * length given

-- a call of an iterator over a stream, whatever it tells: what stays, when the end is seen, and what comes after the end and after
-- the limit
pub record StreamCall {A R X : Type 0} (S : SourceGhosts R) (it it' : StreamChunkIter A R) (answer : Option (Result X StreamError)) : Type 0 where
  pub same : automaton_of it' ≡ automaton_of it
  pub same_source : it'.source.ghost_name ≡ it.source.ghost_name
  pub limit : it'.progress.limit ≡ it.progress.limit
  -- the end is seen where a read is empty, and stays
  pub ended : S.empty_reads it'.source.now ≡ counted (ends_between it.progress.ended it'.progress.ended) (S.empty_reads it.source.now)
  pub stays_ended : it.progress.ended ≡ true → it'.progress.ended ≡ true
  -- after the end, and after the limit was answered, there is none for good
  pub after_end : it.progress.ended ≡ true → it.progress.read ≤ it.progress.reported → answer ≡ None
  pub after_limit : it.progress.refused ≡ true → answer ≡ None
  pub refused : it'.progress.refused ≡ (it.progress.refused || tells_limit answer)
  pub read_failed : S.failures it'.source.now ≡ counted (tells_read_fault answer) (S.failures it.source.now)

-- the match that a chunk lends, where it has one, and its bytes
abbrev pub chunk_lent : StreamChunk → Option Occurrence × List ℕ
chunk_lent (Bytes bytes) = (None, bytes.now)
chunk_lent (BytesOf bytes m) = (Some m.now, bytes.now)

-- what an answer tells that lends
abbrev pub told_lent : Option (Result StreamChunk (Bor StreamError)) → Option (Result StreamPiece StreamError)
told_lent None = None
told_lent (Some (Err error)) = Some (Err error.now)
told_lent (Some (Ok chunk)) = Some (Ok (piece_of (chunk_lent chunk).0))

-- the bytes of the chunk, where one is lent, are these
abbrev pub LendsThese : Option (Result StreamChunk (Bor StreamError)) → List ℕ → Type 0
LendsThese None bytes = ⊤
LendsThese (Some (Err error)) bytes = ⊤
LendsThese (Some (Ok chunk)) bytes = (chunk_lent chunk).1 ≡ bytes

-- what a call answers that lends a chunk, by the iterator before it and once the loan is over: all that `advance` promises, and
-- the bytes of the chunk
pub record Lends {A R : Type 0} (G : Ghosts A) (S : SourceGhosts R) (it it' : StreamChunkIter A R) (answer : Option (Result StreamChunk (Bor StreamError))) : Type 0 where
  pub advances : Advanced G S it it' (told_lent answer)
  pub lent : (p : Patterns) (given : List ℕ) → G.is_of (automaton_of it) p → HasGiven G it p given
      → LendsThese answer (slice_range (given ++ advances.reads.bytes) it'.progress.told it'.progress.reported)
  pub call : StreamCall S it it' (told_lent answer)
