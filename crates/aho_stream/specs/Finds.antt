-- What each call of an iterator over the matches of a stream answers.
use Rattle.std.specs.Prelude.{◌≡◌, ◌≢◌, ℕ, ◌+◌, ◌≤◌, ◌⊎◌, Bool, true, false, List, ◌++◌, Option, Some, None, Result, Ok, Err, length}
use Rattle.aho_core.specs.declared.error.stream.StreamError.{StreamError}
use Rattle.aho_core.specs.declared.error.stream.StreamError.TheVariants.{Match as Refused, Read, Write, WriteZero, Memory, PositionLimit}
use Rattle.aho_core.specs.Answer.{IsAnswer}
use Rattle.aho_core.specs.Occurrence.{Occurrence}
use Rattle.aho_core.specs.Patterns.{Patterns}
use Rattle.aho_core.specs.declared.search.MatchKind.TheVariants.{Standard}
use Rattle.aho_stream.specs.After.{IsAfter, MayFollow, search_from}
use Rattle.aho_devices.specs.declared.device.Source.{Ghosts as SourceGhosts}
use Rattle.aho_automaton.specs.declared.automaton.Automaton.{Ghosts}
use Rattle.aho_stream.specs.Chunks.{DiesAt, EndsInFill, FillsNothing, NoneSettled, ReadsOn, tells_error}
use Rattle.aho_stream.specs.Iterators.{HasGiven, StreamCall, automaton_of, lookups_of}
use Rattle.aho_stream.specs.declared.chunks.StreamChunkIter.{StreamChunkIter}
use Rattle.aho_stream.specs.declared.progress.StreamProgress.{StreamProgress}

-- the next match, whatever comes; before the end was seen a leftmost kind finds it only where the state has died
pub record FindsMatch (p : Patterns) (s s' : StreamProgress) (given : List ℕ) (m : Occurrence) : Type 0 where
  pub answer : (more : List ℕ) → MayFollow s'.ended more → IsAnswer p (search_from s.from (given ++ more)) (Some m)
  pub settled : s'.ended ≡ false → p.kind ≢ Standard → (place : ℕ) × DiesAt p given s.from place
  pub read : m.end ≤ length given
  pub from : s'.from ≡ m.end

-- nothing occurs any more in what was given; all of it was reported, or the limit was answered before, and then a leftmost kind
-- may leave out a match that bytes to come could change
pub record FindsEnd (p : Patterns) (s s' : StreamProgress) (given : List ℕ) : Type 0 where
  pub none : (p.kind ≡ Standard) ⊎ (s'.ended ≡ true) → IsAnswer p (search_from s.from given) None
  pub over : ((s'.ended ≡ true) × (s'.reported ≡ length given)) ⊎ (s.refused ≡ true)
  pub from : s'.from ≡ s.from

-- nothing was found, and at most as many bytes are unreported as a roll keeps
pub record FindsFault (s s' : StreamProgress) (given : List ℕ) : Type 0 where
  pub from : s'.from ≡ s.from
  pub near : length given ≤ s'.reported + s'.buffer.least

-- the limit is answered once, where as many bytes were given. Under a leftmost kind the state has not died since the last match
pub record FindsLimit (p : Patterns) (s s' : StreamProgress) (given : List ℕ) : Type 0 where
  pub fault : FindsFault s s' given
  pub unsettled : p.kind ≢ Standard → (place : ℕ) → DiesAt p given s.from place → ⊥
  pub reached : length given ≡ s.limit
  pub first : s.refused ≡ false
  pub refused : s'.refused ≡ true

-- what an error says: a failed read, or that no room was left under the limit
abbrev pub FindsError : Patterns → StreamProgress → StreamProgress → List ℕ → StreamError → Type 0
FindsError p s s' given (Refused cause) = ⊥
FindsError p s s' given (Read fault) = FindsFault s s' given
FindsError p s s' given (Write fault) = ⊥
FindsError p s s' given WriteZero = ⊥
FindsError p s s' given Memory = ⊥
FindsError p s s' given PositionLimit = FindsLimit p s s' given

-- what an answer says of the bytes given, those of this call among them, by what was kept before and after the call
abbrev pub Finds : Patterns → StreamProgress → StreamProgress → List ℕ → Option (Result Occurrence StreamError) → Type 0
Finds p s s' given None = FindsEnd p s s' given
Finds p s s' given (Some (Ok m)) = FindsMatch p s s' given m
Finds p s s' given (Some (Err error)) = FindsError p s s' given error

-- before the last fill of the buffer no match was settled that had not been found
abbrev pub FillsForMatch : {S : Type 0} → Ghosts S → S → ℕ → StreamProgress → StreamProgress → List ℕ → Bool → Type 0
FillsForMatch A automaton lookups s s' bytes failed =
    EndsInFill (λ early. (p : Patterns) (given : List ℕ) → A.is_of automaton p → IsAfter A automaton p lookups s given
    → NoneSettled p (given ++ early) s.from) s s' bytes failed

-- a call of `next` reads some bytes, and its answer says what it should, as soon as it is settled
pub record FindsNextInStream {A R : Type 0} (G : Ghosts A) (S : SourceGhosts R) (it it' : StreamChunkIter A R) (found : Option (Result Occurrence StreamError)) : Type 0 where
  pub reads : ReadsOn G (automaton_of it) (lookups_of it) (lookups_of it') it.progress it'.progress (S.remaining it.source.now) (S.remaining it'.source.now)
  pub finds : (p : Patterns) (given : List ℕ) → G.is_of (automaton_of it) p
      → HasGiven G it p given → Finds p it.progress it'.progress (given ++ reads.bytes) found
  pub prompt : FillsNothing it.progress it'.progress reads.bytes (tells_error found)
      ⊎ FillsForMatch G (automaton_of it) (lookups_of it) it.progress it'.progress reads.bytes (tells_error found)
  pub call : StreamCall S it it' found
