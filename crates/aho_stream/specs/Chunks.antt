-- What each call of an iterator over the chunks of a stream answers.
use Rattle.std.specs.Prelude.{◌≡◌, ◌≢◌, ℕ, ◌+◌, ◌≤◌, ◌⊎◌, ◌&&◌, ◌||◌, min, not, Bool, true, false, List, [], ◌++◌, Option, Some, None, Result, Ok, Err, IfSome, length, slice_range}
use Rattle.std.specs.Io.KnownBytes.{Consumes}
use Rattle.aho_core.specs.declared.error.stream.StreamError.{StreamError}
use Rattle.aho_core.specs.declared.error.stream.StreamError.TheVariants.{Match as Refused, Read, Write, WriteZero, Memory, PositionLimit}
use Rattle.aho_core.specs.Answer.{IsAnswer}
use Rattle.aho_core.specs.Held.{held_after}
use Rattle.aho_core.specs.Occurrence.{Occurrence}
use Rattle.aho_core.specs.Patterns.{Patterns}
use Rattle.aho_core.specs.declared.search.Anchored.TheVariants.{No}
use Rattle.aho_core.specs.declared.search.MatchKind.TheVariants.{Standard}
use Rattle.aho_devices.specs.Refusals.{is_read_fault}
use Rattle.aho_automaton.specs.declared.automaton.Automaton.{Ghosts}
use Rattle.aho_stream.specs.After.{IsAfter, MayFollow, search_from}
use Rattle.aho_stream.specs.Refills.{is_limit}
use Rattle.aho_stream.specs.declared.progress.StreamProgress.{StreamProgress}
use Rattle.aho_stream.specs.declared.progress.StreamPiece.{StreamPiece}
use Rattle.aho_stream.specs.declared.progress.StreamPiece.TheVariants.{NonMatch, Match}

-- bytes outside of every match: one at least, from the last chunk on. Whatever comes, the next match starts behind them
pub record TellsPlain (p : Patterns) (s s' : StreamProgress) (given : List ℕ) : Type 0 where
  pub some : s.reported + 1 ≤ s'.reported
  pub read : s'.reported ≤ length given
  pub told : s'.told ≡ s.reported
  pub from : s'.from ≡ s.from
  pub clear : (more : List ℕ) (m : Occurrence) → MayFollow s'.ended more
      → IsAnswer p (search_from s.from (given ++ more)) (Some m) → s'.reported ≤ m.start

-- the state is dead that is held after the bytes from one place up to another: no byte that follows changes the next match
abbrev pub DiesAt : Patterns → List ℕ → ℕ → ℕ → Type 0
DiesAt p given from place = (from ≤ place) × (place ≤ length given) × (held_after p No (slice_range given from place) ≡ None)

-- the next match, whatever comes: all before it was reported. Before the end was seen a leftmost kind tells it only where the
-- state has died
pub record TellsMatch (p : Patterns) (s s' : StreamProgress) (given : List ℕ) (m : Occurrence) : Type 0 where
  pub answer : (more : List ℕ) → MayFollow s'.ended more → IsAnswer p (search_from s.from (given ++ more)) (Some m)
  pub settled : s'.ended ≡ false → p.kind ≢ Standard → (place : ℕ) × DiesAt p given s.from place
  pub starts : m.start ≡ s.reported
  pub read : m.end ≤ length given
  pub told : s'.told ≡ m.start
  pub reported : s'.reported ≡ m.end
  pub from : s'.from ≡ m.end

-- nothing more was told
pub record TellsNone (s s' : StreamProgress) : Type 0 where
  pub told : s'.told ≡ s.reported
  pub reported : s'.reported ≡ s.reported
  pub from : s'.from ≡ s.from

-- nothing occurs any more in what was given, and all of it was reported, or the limit was answered before; then a leftmost kind
-- may leave out a match that bytes to come could change
pub record TellsEnd (p : Patterns) (s s' : StreamProgress) (given : List ℕ) : Type 0 where
  pub none : (p.kind ≡ Standard) ⊎ (s'.ended ≡ true) → IsAnswer p (search_from s'.from given) None
  pub over : ((s'.ended ≡ true) × (s'.reported ≡ length given)) ⊎ (s.refused ≡ true)
  pub still : TellsNone s s'

-- nothing was told, and at most as many bytes are unreported as a roll keeps
pub record TellsFault (s s' : StreamProgress) (given : List ℕ) : Type 0 where
  pub still : TellsNone s s'
  pub near : length given ≤ s'.reported + s'.buffer.least

-- the limit is answered once, where as many bytes were given. Under a leftmost kind the state has not died since the last match
pub record TellsLimit (p : Patterns) (s s' : StreamProgress) (given : List ℕ) : Type 0 where
  pub fault : TellsFault s s' given
  pub unsettled : p.kind ≢ Standard → (place : ℕ) → DiesAt p given s'.from place → ⊥
  pub reached : length given ≡ s.limit
  pub first : s.refused ≡ false
  pub refused : s'.refused ≡ true

-- the match that is told
abbrev pub match_told : StreamPiece → Option Occurrence
match_told NonMatch = None
match_told (Match m) = Some m

-- a match, or what is outside of every match
abbrev pub piece_of : Option Occurrence → StreamPiece
piece_of None = NonMatch
piece_of (Some m) = Match m

-- what a chunk tells
abbrev pub TellsChunk : Patterns → StreamProgress → StreamProgress → List ℕ → StreamPiece → Type 0
TellsChunk p s s' given NonMatch = TellsPlain p s s' given
TellsChunk p s s' given (Match m) = TellsMatch p s s' given m

-- what an error tells: a failed read, or that no room was left under the limit
abbrev pub TellsError : Patterns → StreamProgress → StreamProgress → List ℕ → StreamError → Type 0
TellsError p s s' given (Refused cause) = ⊥
TellsError p s s' given (Read fault) = TellsFault s s' given
TellsError p s s' given (Write fault) = ⊥
TellsError p s s' given WriteZero = ⊥
TellsError p s s' given Memory = ⊥
TellsError p s s' given PositionLimit = TellsLimit p s s' given

-- what an answer tells of the bytes given, those of this call among them, by what was kept before and after the call
abbrev pub AnswerTells : Patterns → StreamProgress → StreamProgress → List ℕ → Option (Result StreamPiece StreamError) → Type 0
AnswerTells p s s' given None = TellsEnd p s s' given
AnswerTells p s s' given (Some (Ok piece)) = TellsChunk p s s' given piece
AnswerTells p s s' given (Some (Err error)) = TellsError p s s' given error

-- whether the answer is a failed read
abbrev pub tells_read_fault : {A : Type 0} → Option (Result A StreamError) → Bool
tells_read_fault None = false
tells_read_fault (Some told) = is_read_fault told

-- whether the answer is that the position limit was met
abbrev pub tells_limit : {A : Type 0} → Option (Result A StreamError) → Bool
tells_limit None = false
tells_limit (Some told) = is_limit told

-- whether the end of the stream was seen in between
abbrev pub ends_between : Bool → Bool → Bool
ends_between before after = not before && after

-- whether the answer is an error
abbrev pub tells_error : {A : Type 0} → Option (Result A StreamError) → Bool
tells_error None = false
tells_error (Some (Ok told)) = false
tells_error (Some (Err error)) = true

-- no match is settled behind a place: under Standard none is left, under a leftmost kind the state has died nowhere since
pub record NoneSettled (p : Patterns) (given : List ℕ) (from : ℕ) : Type 0 where
  pub none : p.kind ≡ Standard → IsAnswer p (search_from from given) None
  pub alive : p.kind ≢ Standard → (place : ℕ) → DiesAt p given from place → ⊥

-- what was settled by these bytes was told, of a search that has come so far: no match is settled that was not told. All but the
-- last bytes were told, as many as the longest pattern has at most, and all of them where no match is left and the state that is
-- held is a start
pub record AllTold {S : Type 0} (A : Ghosts S) (automaton : S) (p : Patterns) (s : StreamProgress) (given : List ℕ) : Type 0 where
  pub settled : NoneSettled p given s.from
  pub near : length given ≤ s.reported + s.buffer.least
  pub start : (sid : ℕ) × A.held automaton p No (slice_range given s.from (length given)) sid
      × (A.starts automaton sid ≡ true → IsAnswer p (search_from s.from given) None → s.reported ≡ length given)

-- the source was asked for more: before the last fill of the buffer this was so of the early bytes. The fill gave the late bytes,
-- and the buffer holds them behind the last ones of those before. It is one read: where that was empty or failed, it gave none
pub record EndsInFill (IsTold : List ℕ → Type 0) (s s' : StreamProgress) (bytes : List ℕ) (failed : Bool) : Type 0 where
  pub early : List ℕ
  pub late : List ℕ
  pub are_all : bytes ≡ early ++ late
  pub told : IsTold early
  pub one_fill : length s'.buffer.bytes ≡ min s'.buffer.least (s.read + length early) + length late
  pub one_read : (s'.ended || failed) ≡ true → late ≡ []

-- all that was settled had been told by then
abbrev pub FillsOnceTold : {S : Type 0} → Ghosts S → S → ℕ → StreamProgress → StreamProgress → List ℕ → Bool → Type 0
FillsOnceTold A automaton lookups s s' bytes failed =
    EndsInFill (λ early. (p : Patterns) (given : List ℕ) → A.is_of automaton p → IsAfter A automaton p lookups s given
    → AllTold A automaton p s (given ++ early)) s s' bytes failed

-- a call asked the source for nothing: it read no byte, left the buffer as it was, saw no end and answers no error
abbrev pub FillsNothing : StreamProgress → StreamProgress → List ℕ → Bool → Type 0
FillsNothing s s' bytes failed = (bytes ≡ []) × (s'.buffer ≡ s.buffer) × (s'.ended ≡ s.ended) × (failed ≡ false)

-- a call of a search by this automaton, from some look-ups, progress and bytes that the source has left to later ones
module _ {S : Type 0} (A : Ghosts S) (automaton : S) (lookups lookups' : ℕ) (s s' : StreamProgress) (before after : Option (List ℕ)) where
  -- these bytes are read, none once the end was seen; and then the search has come so far with them
  pub record ReadsOn : Type 0 where
    pub bytes : List ℕ
    pub read : Consumes before after bytes
    pub closed : s.ended ≡ true → bytes ≡ []
    pub is_after : (p : Patterns) (given : List ℕ) → A.is_of automaton p → IsAfter A automaton p lookups s given
        → IsAfter A automaton p lookups' s' (given ++ bytes)

  -- and the answer of the call tells what it should, as soon as it is settled
  pub record Advances (answer : Option (Result StreamPiece StreamError)) : Type 0 where
    pub reads : ReadsOn
    pub tells : (p : Patterns) (given : List ℕ) → A.is_of automaton p → IsAfter A automaton p lookups s given → AnswerTells p s s' (given ++ reads.bytes) answer
    pub prompt : FillsNothing s s' reads.bytes (tells_error answer) ⊎ FillsOnceTold A automaton lookups s s' reads.bytes (tells_error answer)

-- the next chunk of what was given, where there is one, is what it should be
abbrev pub TellsNext : {S : Type 0} → Ghosts S → S → ℕ → StreamProgress → StreamProgress → Option StreamPiece → Type 0
TellsNext A automaton lookups s s' piece = (p : Patterns) (given : List ℕ) → A.is_of automaton p
    → IsAfter A automaton p lookups s given → IfSome piece (TellsChunk p s s' given)
