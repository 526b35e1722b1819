-- What the replacement of a stream writes.
use Rattle.std.specs.Prelude.{◌≡◌, ℕ, ◌+◌, ◌≤◌, Bool, true, false, List, [], ◌∷◌, ◌++◌, None, Result, Ok, Err, IfErr, OnErr, OnOk, length, map, nat_lt, if◌then◌else◌, slice_index_or, slice_range}
use Rattle.std.specs.Io.{StartsWith}
use Rattle.std.specs.Io.KnownBytes.{Appends, Consumes}
use Rattle.aho_core.specs.Laws.{shortest}
use Rattle.aho_core.specs.declared.error.MatchErrorKind.{MatchErrorKind}
use Rattle.aho_core.specs.declared.error.MatchErrorKind.TheVariants.{UnsupportedEmpty}
use Rattle.aho_core.specs.declared.error.stream.StreamError.{StreamError}
use Rattle.aho_core.specs.declared.error.stream.StreamError.TheVariants.{Match as Refused, Read, Write, WriteZero, Memory, PositionLimit}
use Rattle.aho_core.specs.Iteration.{AreFinds}
use Rattle.aho_core.specs.Occurrence.{Occurrence}
use Rattle.aho_core.specs.Patterns.{Patterns}
use Rattle.aho_core.specs.Replacement.{replaced}
use Rattle.aho_core.specs.Search.{plain_search}
use Rattle.aho_devices.specs.Counts.{counted}
use Rattle.aho_devices.specs.Refusals.{IsFillRefusal}
use Rattle.aho_devices.specs.declared.device.Sink.{Ghosts as SinkGhosts}
use Rattle.aho_devices.specs.declared.device.Source.{Ghosts as SourceGhosts}
use Rattle.aho_stream.specs.After.{MayFollow, kept_for}
use Rattle.aho_stream.specs.Refills.{is_limit}
use Rattle.aho_stream.specs.declared.progress.StreamPiece.{StreamPiece}
use Rattle.aho_stream.specs.declared.progress.StreamPiece.TheVariants.{NonMatch, Match}

-- the piece of a match's pattern
abbrev pub piece_for : List (List ℕ) → Occurrence → List ℕ
piece_for pieces m = slice_index_or pieces m.pattern []

-- what is written for a chunk: its bytes, or the piece of its match
abbrev pub chunk_bytes : StreamPiece → List ℕ → List (List ℕ) → List ℕ
chunk_bytes NonMatch bytes pieces = bytes
chunk_bytes (Match m) bytes pieces = piece_for pieces m

-- the bytes from one place up to another, with a piece in the place of each match that starts before that
abbrev pub replaced_up_to : List ℕ → ℕ → ℕ → List Occurrence → (Occurrence → List ℕ) → List ℕ
replaced_up_to bytes place at [] piece = slice_range bytes at place
replaced_up_to bytes place at (m ∷ ms) piece =
    if nat_lt m.start place
    then slice_range bytes at m.start ++ (piece m ++ replaced_up_to bytes place m.end ms piece)
    else slice_range bytes at place

-- what a source gave in between, and whether its end was seen
pub record SourceGave {R : Type 0} (S : SourceGhosts R) (source source' : R) (given : List ℕ) (ended : Bool) : Type 0 where
  pub bytes : Consumes (S.remaining source) (S.remaining source') given
  pub end : S.empty_reads source' ≡ counted ended (S.empty_reads source)

-- it gave as many bytes, and its end was not seen
abbrev pub GaveAsMany : {R : Type 0} → SourceGhosts R → R → R → ℕ → Type 0
GaveAsMany S source source' count = (given : List ℕ) × SourceGave S source source' given false × (length given ≡ count)

-- all bytes of a stream that has given some: any others may follow, and none once its end was seen
abbrev pub MayBe : List ℕ → Bool → List ℕ → Type 0
MayBe given ended bytes = (more : List ℕ) × (bytes ≡ given ++ more) × MayFollow ended more

-- before a stream was begun: it is no automaton for it, or there was no memory
abbrev pub IsMakingRefusal : StreamError → Type 0
IsMakingRefusal (Refused cause) = Unit {0}
IsMakingRefusal (Read fault) = ⊥
IsMakingRefusal (Write fault) = ⊥
IsMakingRefusal WriteZero = ⊥
IsMakingRefusal Memory = Unit {0}
IsMakingRefusal PositionLimit = ⊥

-- why a start is refused: an empty pattern first, then the automaton, and else memory alone. By the lengths of an automaton's
-- patterns, and by what it answers for its start
pub record Refuses {A : Type 0} (lengths : List ℕ) (start : Result ℕ MatchErrorKind) (result : Result A StreamError) : Type 0 where
  pub empty : shortest lengths ≡ 0 → result ≡ Err (Refused UnsupportedEmpty)
  pub refused : (reason : MatchErrorKind) → 1 ≤ shortest lengths → start ≡ Err reason → result ≡ Err (Refused reason)
  pub memory : (sid : ℕ) → 1 ≤ shortest lengths → start ≡ Ok sid → IfErr result (λ error. error ≡ Memory)

-- once it was begun: a device failed, or took nothing, or the limit was met
abbrev pub IsStreamFault : StreamError → Type 0
IsStreamFault (Refused cause) = ⊥
IsStreamFault (Read fault) = Unit {0}
IsStreamFault (Write fault) = Unit {0}
IsStreamFault WriteZero = Unit {0}
IsStreamFault Memory = ⊥
IsStreamFault PositionLimit = Unit {0}

-- of the patterns that are searched for, with one piece for each of them: from a source and a sink before a call to those after it
module _ {R W : Type 0} (S : SourceGhosts R) (K : SinkGhosts W) (AreSearched : Patterns → Type 0) (pieces : List (List ℕ)) (source source' : R) (sink sink' : W) where
  -- the stream has ended, and its replacement was written
  pub record ReplacesStream : Type 0 where
    pub given : List ℕ
    pub gives : SourceGave S source source' given true
    pub writes : (p : Patterns) (ms : List Occurrence) → AreSearched p → AreFinds p (plain_search given) None ms
        → Appends (K.taken sink) (K.taken sink') (replaced given ms pieces)

  -- a beginning of the replacement was written, whatever bytes may follow
  pub record BeginsReplacing : Type 0 where
    pub given : List ℕ
    pub ended : Bool
    pub gives : SourceGave S source source' given ended
    pub written : List ℕ
    pub writes : Appends (K.taken sink) (K.taken sink') written
    pub beginning : (p : Patterns) (bytes : List ℕ) (ms : List Occurrence) → AreSearched p → MayBe given ended bytes → AreFinds p (plain_search bytes) None ms
        → StartsWith (replaced bytes ms pieces) written

  -- the replacement was written up to a place, whatever bytes may follow: at most as many bytes were left out as the longest
  -- pattern has
  pub record ReplacesStreamUpTo : Type 0 where
    pub given : List ℕ
    pub ended : Bool
    pub gives : SourceGave S source source' given ended
    pub place : ℕ
    pub within : place ≤ length given
    pub near : (p : Patterns) → AreSearched p → length given ≤ place + kept_for (map length p.words)
    pub writes : (p : Patterns) (bytes : List ℕ) (ms : List Occurrence) → AreSearched p → MayBe given ended bytes → AreFinds p (plain_search bytes) None ms
        → Appends (K.taken sink) (K.taken sink') (replaced_up_to bytes place 0 ms (piece_for pieces))

  -- what a replacement leaves that answers so, of a source that may give so many bytes: all of it was written, or a beginning,
  -- and all but the last bytes where a read failed or the limit was met
  pub record LeavesReplaced (most : ℕ) (result : Result (Unit {0}) StreamError) : Type 0 where
    pub replaced : OnOk result ReplacesStream
    pub begun : OnErr result BeginsReplacing
    pub near : IfErr result (λ error. IsFillRefusal error → ReplacesStreamUpTo)
    pub limit : is_limit result ≡ true → GaveAsMany S source source' most
