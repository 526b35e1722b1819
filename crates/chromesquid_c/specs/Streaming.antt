-- Streams whose bytes are pushed: how far one has come, and what its calls tell.
use Rattle.std.specs.Prelude.{◌≡◌, ℕ, zero, suc, ◌-◌, ◌<◌, ◌≤◌, List, [], ◌++◌, true, false, None, Some, length, map, max, min, slice_range, take}
use Rattle.std.specs.Borrow.{Bor}
use Rattle.aho_core.specs.Laws.{longest}
use Rattle.aho_core.specs.Patterns.{Patterns}
use Rattle.aho_core.specs.Replacement.{pieces_of}
use Rattle.aho_stream.specs.After.{EndsWith, IsAfter, IsUnderWay, greatest_position}
use Rattle.aho_stream.specs.Chunks.{TellsChunk}
use Rattle.aho_stream.specs.Pushing.{FindsNow, HoldsTold, IsSearched, TellsNoneYet, room_left}
use Rattle.aho_stream.specs.Replacing.{chunk_bytes}
use Rattle.aho_stream.specs.declared.progress.StreamPiece.{StreamPiece}
use Rattle.aho_stream.specs.declared.progress.StreamProgress.{StreamProgress}
use Rattle.chromesquid.specs.Searcher.{IsBuiltFrom, IsBuiltFromSome, Searcher}
use Rattle.chromesquid.specs.contracts.automaton.AhoCorasickAutomaton.TheImpl.{ghosts}
use Rattle.chromesquid_c.specs.Replacing.{FitsInto}
use Rattle.chromesquid_c.specs.Telling.{occurrence_told}
use Rattle.chromesquid_c.specs.declared.options.CsMatch.{CsMatch}
use Rattle.chromesquid_c.specs.declared.status.TheConstants.{DONE, FOUND}

-- ---- a stream

-- its searcher, and how far the search has come
pub record PushedStream : Type 0 where
  pub searcher : Searcher
  pub progress : StreamProgress

-- it was given some bytes, of the 2^63 - 1 that it may be given
pub record IsPushed (searcher : Searcher) (progress : StreamProgress) : Type 0 where
  pub under_way : IsUnderWay ghosts searcher 0 progress
  pub unrefused : progress.refused ≡ false
  pub limit : progress.limit ≡ greatest_position

-- these bytes were pushed to it so far, and it searches for these patterns
pub record WasPushed (stream : PushedStream) (p : Patterns) (given : List ℕ) : Type 0 where
  pub of : IsBuiltFrom stream.searcher p
  pub after : IsAfter ghosts stream.searcher p 0 stream.progress given

-- where the last match ends that was told
abbrev pub told_to : PushedStream → ℕ
told_to stream = stream.progress.from

-- nothing more may be pushed: its end was told
abbrev pub HasEnded : PushedStream → Type 0
HasEnded stream = stream.progress.ended ≡ true

-- or as many bytes were pushed as may be
abbrev pub IsFull : PushedStream → Type 0
IsFull stream = greatest_position ≤ stream.progress.read

-- a call of it keeps the searcher, and what was pushed with what this call pushes
pub record GoesOnWith (stream stream' : PushedStream) (bytes : List ℕ) : Type 0 where
  pub searcher : stream'.searcher ≡ stream.searcher
  pub pushed : (p : Patterns) (given : List ℕ) → WasPushed stream p given → WasPushed stream' p (given ++ bytes)

-- ---- its calls

-- the search has not begun
pub record IsUnpushed (searcher : Searcher) (progress : StreamProgress) : Type 0 where
  pub some : IsBuiltFromSome searcher
  pub fresh : (p : Patterns) → IsBuiltFrom searcher p → IsAfter ghosts searcher p 0 progress []
  pub going : progress.ended ≡ false
  pub unrefused : progress.refused ≡ false
  pub limit : progress.limit ≡ greatest_position

-- it is new: nothing was pushed
pub record HasBegun (owner : Searcher) (stream : PushedStream) : Type 0 where
  pub searcher : stream.searcher ≡ owner
  pub none : (p : Patterns) → IsBuiltFrom owner p → WasPushed stream p []
  pub going : stream.progress.ended ≡ false

-- so many of these bytes were pushed, one at least where all was searched through, and nothing was told
pub record TakesPushed (stream stream' : PushedStream) (bytes : List ℕ) (taken : ℕ) : Type 0 where
  pub goes_on : GoesOnWith stream stream' (take taken bytes)
  pub within : taken ≤ length bytes
  pub some : IsSearched ghosts stream.searcher stream.progress → 0 < length bytes → 0 < taken
  pub told : told_to stream' ≡ told_to stream
  pub ended : stream'.progress.ended ≡ stream.progress.ended

-- where all was searched through, as many of these bytes are taken as there is room for
abbrev pub FillsRoom : PushedStream → List ℕ → ℕ → Type 0
FillsRoom stream bytes taken = IsSearched ghosts stream.searcher stream.progress → taken ≡ min (length bytes) (room_left stream.progress)

-- and else none
abbrev pub LeavesAll : PushedStream → ℕ → Type 0
LeavesAll stream taken = (IsSearched ghosts stream.searcher stream.progress → ⊥) → taken ≡ 0

-- 0 tells that no match is settled by what was pushed, and none is left after the end; 1 tells the next match, whatever follows
abbrev pub TellsNow : Patterns → PushedStream → PushedStream → List ℕ → ℕ → CsMatch → Type 0
TellsNow p stream stream' given zero found = FindsNow p stream.progress stream'.progress given None
TellsNow p stream stream' given (suc zero) found = FindsNow p stream.progress stream'.progress given (Some (occurrence_told found))
TellsNow p stream stream' given (suc (suc n)) found = Unit {0}

-- what was pushed stays, and the next match in it is told; where there is none yet, all was searched through
pub record TellsFound (stream stream' : PushedStream) (status : ℕ) (found : CsMatch) : Type 0 where
  pub goes_on : GoesOnWith stream stream' []
  pub tells : (p : Patterns) (given : List ℕ) → WasPushed stream p given → TellsNow p stream stream' given status found
  pub searched : status ≡ DONE → IsSearched ghosts stream'.searcher stream'.progress
  pub ended : stream'.progress.ended ≡ stream.progress.ended

-- the end is told, and nothing else changes
pub record Ends (stream stream' : PushedStream) : Type 0 where
  pub goes_on : GoesOnWith stream stream' []
  pub told : told_to stream' ≡ told_to stream
  pub ended : HasEnded stream'

-- ---- replacement

-- how many bytes a room holds: those that were pushed and not told yet, and those of the longest replacement
abbrev pub room_wanted : PushedStream → List (Bor (List ℕ)) → ℕ
room_wanted stream pieces = max (stream.progress.read - stream.progress.reported) (longest (map length (pieces_of pieces)))

-- what is written for the last chunk told: its bytes, or the piece of its match
abbrev pub put_for : StreamPiece → StreamProgress → List ℕ → List (Bor (List ℕ)) → List ℕ
put_for piece progress given pieces = chunk_bytes piece (slice_range given progress.told progress.reported) (pieces_of pieces)

-- it stands in the room, and is so long
abbrev pub PutsFor : StreamProgress → StreamPiece → List (Bor (List ℕ)) → List ℕ → List ℕ → List ℕ → ℕ → Type 0
PutsFor progress piece pieces given before after len =
    FitsInto (put_for piece progress given pieces) before after × (len ≡ length (put_for piece progress given pieces))

-- the buffer holds the last chunk of some bytes that were given, and this room holds it and each replacement
pub record HasRoomFor (progress : StreamProgress) (pieces : List (Bor (List ℕ))) (room : List ℕ) : Type 0 where
  pub holds : HoldsTold progress
  pub given : List ℕ
  pub count : length given ≡ progress.read
  pub last : EndsWith given progress.buffer.bytes
  pub chunk : progress.reported - progress.told ≤ length room
  pub each : longest (map length (pieces_of pieces)) ≤ length room

-- the next chunk is told, whatever follows, and what is written for it stands in the room
pub record PutsChunk (p : Patterns) (stream stream' : PushedStream) (given : List ℕ) (pieces : List (Bor (List ℕ))) (before after : List ℕ) (len : ℕ) : Type 0 where
  pub piece : StreamPiece
  pub tells : TellsChunk p stream.progress stream'.progress given piece
  pub puts : PutsFor stream'.progress piece pieces given before after len

-- what was pushed stays; 1 tells that the next chunk was put, 0 that none is certain yet, and after the end that all was told
pub record TellsReplaced (stream stream' : PushedStream) (pieces : List (Bor (List ℕ))) (status : ℕ) (before after : List ℕ) (len : ℕ) : Type 0 where
  pub goes_on : GoesOnWith stream stream' []
  pub puts : status ≡ FOUND → (p : Patterns) (given : List ℕ) → WasPushed stream p given → PutsChunk p stream stream' given pieces before after len
  pub none : status ≡ DONE → (p : Patterns) (given : List ℕ) → WasPushed stream p given → TellsNoneYet p stream.progress stream'.progress given
  pub searched : status ≡ DONE → IsSearched ghosts stream'.searcher stream'.progress
  pub ended : stream'.progress.ended ≡ stream.progress.ended
