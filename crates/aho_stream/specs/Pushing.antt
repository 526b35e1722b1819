-- What the calls on a stream promise whose bytes are pushed.
use Rattle.std.specs.Prelude.{◌≡◌, ℕ, ◌+◌, ◌-◌, ◌≤◌, min, true, List, ◌++◌, Option, None, Some, length}
use Rattle.aho_core.specs.Answer.{IsAnswer}
use Rattle.aho_core.specs.Occurrence.{Occurrence}
use Rattle.aho_core.specs.Patterns.{Patterns}
use Rattle.aho_automaton.specs.declared.automaton.Automaton.{Ghosts}
use Rattle.aho_stream.specs.After.{EndsWith, IsAfter, IsUnsettled, search_from}
use Rattle.aho_stream.specs.Chunks.{NoneSettled, TellsChunk}
use Rattle.aho_stream.specs.Finds.{FindsMatch}
use Rattle.aho_stream.specs.declared.progress.StreamPiece.{StreamPiece}
use Rattle.aho_stream.specs.declared.progress.StreamProgress.{StreamProgress}

-- all that was given was searched through: no match in hand is settled, and the last bytes alone have to be kept
pub record IsSearched {S : Type 0} (A : Ghosts S) (automaton : S) (s : StreamProgress) : Type 0 where
  pub walked : s.walked ≡ s.read
  pub unsettled : IsUnsettled A automaton s
  pub near : s.read ≤ s.reported + s.buffer.least

-- how many bytes there is room for: those that may be given yet, and that the buffer holds beside the last ones, which it keeps
abbrev pub room_left : StreamProgress → ℕ
room_left s = min (s.limit - s.read) (s.buffer.size - min s.buffer.least (length s.buffer.bytes))

-- these bytes were put behind those that are kept, and nothing else moved
pub record Adds (s s' : StreamProgress) (bytes : List ℕ) : Type 0 where
  pub others : s' ≡ record s { buffer = s'.buffer; read = s'.read; patience = s'.patience }
  pub count : s'.read ≡ s.read + length bytes
  pub limited : s'.read ≤ s.limit
  pub least : s'.buffer.least ≡ s.buffer.least
  pub size : s'.buffer.size ≡ s.buffer.size
  pub last : (given : List ℕ) → EndsWith given s.buffer.bytes → EndsWith (given ++ bytes) s'.buffer.bytes
  pub kept : length s'.buffer.bytes ≡ min s.buffer.least (length s.buffer.bytes) + length bytes

-- these bytes were given too, and nothing was told
pub record Pushes {S : Type 0} (A : Ghosts S) (automaton : S) (s s' : StreamProgress) (bytes : List ℕ) : Type 0 where
  pub is_after : (p : Patterns) (given : List ℕ) → A.is_of automaton p → IsAfter A automaton p 0 s given
      → IsAfter A automaton p 0 s' (given ++ bytes)
  pub from : s'.from ≡ s.from
  pub ended : s'.ended ≡ s.ended
  pub refused : s'.refused ≡ s.refused
  pub limit : s'.limit ≡ s.limit

-- no match is settled by the bytes given, and none is left where the stream has ended
pub record FindsNoneYet (p : Patterns) (s s' : StreamProgress) (given : List ℕ) : Type 0 where
  pub settled : NoneSettled p given s.from
  pub none : s'.ended ≡ true → IsAnswer p (search_from s.from given) None
  pub from : s'.from ≡ s.from

-- what is found next in these bytes, whatever follows
abbrev pub FindsNow : Patterns → StreamProgress → StreamProgress → List ℕ → Option Occurrence → Type 0
FindsNow p s s' given None = FindsNoneYet p s s' given
FindsNow p s s' given (Some m) = FindsMatch p s s' given m

-- so it is for all patterns of the automaton and all bytes that were given
abbrev pub FindsInGiven : {S : Type 0} → Ghosts S → S → ℕ → StreamProgress → StreamProgress → Option Occurrence → Type 0
FindsInGiven A automaton lookups s s' found = (p : Patterns) (given : List ℕ) → A.is_of automaton p
    → IsAfter A automaton p lookups s given → FindsNow p s s' given found

-- no chunk is left of these bytes that may be told already, and where the stream has ended all of them were told
pub record TellsNoneYet (p : Patterns) (s s' : StreamProgress) (given : List ℕ) : Type 0 where
  pub finds : FindsNoneYet p s s' given
  pub reported : s'.reported ≡ s.reported
  pub all : s'.ended ≡ true → s'.reported ≡ length given

-- what is told next of these bytes, whatever follows
abbrev pub TellsOfGiven : Patterns → StreamProgress → StreamProgress → List ℕ → Option StreamPiece → Type 0
TellsOfGiven p s s' given None = TellsNoneYet p s s' given
TellsOfGiven p s s' given (Some piece) = TellsChunk p s s' given piece

-- so it is for all patterns of the automaton and all bytes that were given
abbrev pub TellsInGiven : {S : Type 0} → Ghosts S → S → ℕ → StreamProgress → StreamProgress → Option StreamPiece → Type 0
TellsInGiven A automaton lookups s s' piece = (p : Patterns) (given : List ℕ) → A.is_of automaton p
    → IsAfter A automaton p lookups s given → TellsOfGiven p s s' given piece

-- the buffer holds the last chunk
pub record HoldsTold (s : StreamProgress) : Type 0 where
  pub ordered : s.told ≤ s.reported
  pub given : s.reported ≤ s.read
  pub held : s.read ≤ s.told + length s.buffer.bytes
  pub whole : length s.buffer.bytes ≤ s.read
