-- What the cover of a stream leaves, and why one is refused.
use Rattle.std.specs.Prelude.{◌≡◌, ℕ, ◌+◌, ◌*◌, ◌<◌, ◌≤◌, Bool, true, false, List, [], ◌∷◌, ◌++◌, Option, Some, Result, Err, IfErr, OnErr, OnOk, if◌then◌else◌, length, map, nat_le, slice_range}
use Rattle.std.specs.Io.{StartsWith}
use Rattle.std.specs.Io.KnownBytes.{Appends}
use Rattle.aho_core.specs.declared.error.MatchErrorKind.{MatchErrorKind}
use Rattle.aho_core.specs.declared.error.stream.StreamError.{StreamError}
use Rattle.aho_core.specs.declared.error.stream.StreamError.TheVariants.{Match}
use Rattle.aho_core.specs.declared.search.MatchKind.TheVariants.{Standard}
use Rattle.aho_core.specs.Cover.{IsCovered}
use Rattle.aho_core.specs.Laws.{shortest}
use Rattle.aho_core.specs.Occurrence.{Occurrence}
use Rattle.aho_core.specs.Overlapping.{begins_some}
use Rattle.aho_core.specs.Patterns.{Patterns}
use Rattle.aho_devices.specs.Refusals.{IsFillRefusal}
use Rattle.aho_devices.specs.declared.device.Sink.{Ghosts as SinkGhosts}
use Rattle.aho_devices.specs.declared.device.Source.{Ghosts as SourceGhosts}
use Rattle.aho_automaton.specs.declared.automaton.Automaton.{Ghosts as Automata}
use Rattle.aho_stream.specs.After.{greatest_position}
use Rattle.aho_stream.specs.Refills.{is_limit}
use Rattle.aho_stream.specs.Replacing.{GaveAsMany, MayBe, SourceGave}
use Rattle.aho_cover.specs.declared.progress.CoverProgress.{CoverProgress}
use Rattle.aho_cover.specs.Counting.{CountsThese, no_output}
use Rattle.aho_cover.specs.Pieces.{EndsAmong, IsCoverWith, PieceRule, fixed_rule, piece_in}
use Rattle.aho_cover.specs.Progress.{IsSoundCover}
use Rattle.aho_cover.specs.Steps.{CoversOn}
use Rattle.aho_cover.specs.Words.{AreRunsWith, CountsIn, kept_with, decided_of}

-- the bytes up to a place, with a piece in the place of each run that ends there or before
abbrev pub covered_up_to : List ℕ → ℕ → ℕ → List Occurrence → (Occurrence → List ℕ) → List ℕ
covered_up_to bytes place at [] piece = slice_range bytes at place
covered_up_to bytes place at (run ∷ runs) piece =
    if nat_le run.end place
    then slice_range bytes at run.start ++ (piece run ++ covered_up_to bytes place run.end runs piece)
    else slice_range bytes at place

-- the last bytes, from some place up to this one on, begin a pattern: so a match may hold this place and end further on
abbrev pub MayGoOn : Patterns → List ℕ → ℕ → Type 0
MayGoOn p given at = (from : ℕ) × (from ≤ at) × (begins_some p (slice_range given from (length given)) ≡ true)

-- of the patterns that are searched for, all that occurs or the words alone, with a piece that is made of each run: from a source and a
-- sink before a call to those after it
module _ {R W : Type 0} (S : SourceGhosts R) (K : SinkGhosts W) (AreSearched : Patterns → Type 0) (words : Bool) (rule : PieceRule) (source source' : R) (sink sink' : W) where
  -- the stream has ended, and the cover of all that was given was written
  pub record CoversStreamWith : Type 0 where
    pub given : List ℕ
    pub gives : SourceGave S source source' given true
    pub output : List ℕ
    pub writes : Appends (K.taken sink) (K.taken sink') output
    pub covers : (p : Patterns) → AreSearched p → IsCoverWith words p given rule output

  -- a beginning of the cover was written, whatever bytes may follow
  pub record BeginsCoveringWith : Type 0 where
    pub given : List ℕ
    pub ended : Bool
    pub gives : SourceGave S source source' given ended
    pub written : List ℕ
    pub writes : Appends (K.taken sink) (K.taken sink') written
    pub beginning : (p : Patterns) (bytes output : List ℕ) → AreSearched p → MayBe given ended bytes
        → IsCoverWith words p bytes rule output → StartsWith output written

  -- the cover was written up to a place, whatever bytes may follow: each byte behind it lies in a match of the bytes given, or among
  -- the last that begin a pattern. So at most as many are given from it on as the longest pattern has, and one more where words are asked for
  pub record CoversStreamUpToWith : Type 0 where
    pub given : List ℕ
    pub ended : Bool
    pub gives : SourceGave S source source' given ended
    pub place : ℕ
    pub within : place ≤ length given
    pub near : (p : Patterns) (at : ℕ) → AreSearched p → place ≤ at
        → (IsCovered (CountsIn words p given) at → ⊥) → length given ≤ at + kept_with words (map length p.words)
    pub prompt : (p : Patterns) (at : ℕ) → AreSearched p → place ≤ at → at < length (decided_of words given)
        → (IsCovered (CountsIn words p given) at → ⊥) → MayGoOn p (decided_of words given) at
    pub writes : (p : Patterns) (bytes : List ℕ) (runs : List Occurrence) → AreSearched p → MayBe given ended bytes → AreRunsWith words p bytes runs
        → Appends (K.taken sink) (K.taken sink') (covered_up_to bytes place 0 runs (piece_in rule bytes))

  -- what a cover leaves that answers so: all of it was written, or a beginning, and all but the last bytes where a read failed or
  -- the limit was met. That is where as many bytes were given
  pub record LeavesCoveredWith (result : Result (Unit {0}) StreamError) : Type 0 where
    pub covered : OnOk result CoversStreamWith
    pub begun : OnErr result BeginsCoveringWith
    pub near : IfErr result (λ error. IsFillRefusal error → CoversStreamUpToWith)
    pub limit : is_limit result ≡ true → GaveAsMany S source source' greatest_position

-- the same of all that occurs
module _ {R W : Type 0} (S : SourceGhosts R) (K : SinkGhosts W) (AreSearched : Patterns → Type 0) (rule : PieceRule) (source source' : R) (sink sink' : W) where
  abbrev pub CoversStreamBy : Type 0
  CoversStreamBy = CoversStreamWith S K AreSearched false rule source source' sink sink'

  abbrev pub BeginsCoveringBy : Type 0
  BeginsCoveringBy = BeginsCoveringWith S K AreSearched false rule source source' sink sink'

  abbrev pub CoversStreamUpToBy : Type 0
  CoversStreamUpToBy = CoversStreamUpToWith S K AreSearched false rule source source' sink sink'

  abbrev pub LeavesCoveredBy : Result (Unit {0}) StreamError → Type 0
  LeavesCoveredBy result = LeavesCoveredWith S K AreSearched false rule source source' sink sink' result

-- and with one piece for each pattern
module _ {R W : Type 0} (S : SourceGhosts R) (K : SinkGhosts W) (AreSearched : Patterns → Type 0) (pieces : List (List ℕ)) (source source' : R) (sink sink' : W) where
  abbrev pub CoversStream : Type 0
  CoversStream = CoversStreamBy S K AreSearched (fixed_rule pieces) source source' sink sink'

  abbrev pub BeginsCovering : Type 0
  BeginsCovering = BeginsCoveringBy S K AreSearched (fixed_rule pieces) source source' sink sink'

  abbrev pub CoversStreamUpTo : Type 0
  CoversStreamUpTo = CoversStreamUpToBy S K AreSearched (fixed_rule pieces) source source' sink sink'

  abbrev pub LeavesCovered : Result (Unit {0}) StreamError → Type 0
  LeavesCovered result = LeavesCoveredBy S K AreSearched (fixed_rule pieces) source source' sink sink' result

-- the runs that a cover counts, of the patterns that are searched for: from a source before a call to it after the call
module _ {R : Type 0} (S : SourceGhosts R) (AreSearched : Patterns → Type 0) (words : Bool) (source source' : R) (counts counts' : List ℕ) where
  -- the stream has ended, and each run of all that was given was counted
  pub record CountsRunsWith : Type 0 where
    pub given : List ℕ
    pub gives : SourceGave S source source' given true
    pub counted : (p : Patterns) (runs : List Occurrence) → AreSearched p → AreRunsWith words p given runs → CountsThese runs counts counts'

-- the same with what it writes: a piece that is made of each run
module _ {R W : Type 0} (S : SourceGhosts R) (K : SinkGhosts W) (AreSearched : Patterns → Type 0) (words : Bool) (rule : PieceRule) (source source' : R) (sink sink' : W) (counts counts' : List ℕ) where
  -- some first runs were counted, whatever bytes may follow: those whose pieces were written
  pub record CountsWrittenWith : Type 0 where
    pub given : List ℕ
    pub ended : Bool
    pub gives : SourceGave S source source' given ended
    pub written : List ℕ
    pub writes : Appends (K.taken sink) (K.taken sink') written
    pub first : List Occurrence
    pub counted : CountsThese first counts counts'
    pub beginning : (p : Patterns) (bytes : List ℕ) (runs : List Occurrence) → AreSearched p → MayBe given ended bytes → AreRunsWith words p bytes runs
        → (later : List Occurrence) × (runs ≡ first ++ later) × EndsAmong bytes (piece_in rule bytes) first later written

  -- what a cover counts that answers so
  pub record LeavesCountedWith (result : Result (Unit {0}) StreamError) : Type 0 where
    pub counted : OnOk result (CountsRunsWith S AreSearched words source source' counts counts')
    pub begun : OnErr result CountsWrittenWith

module _ {R W : Type 0} (S : SourceGhosts R) (K : SinkGhosts W) (AreSearched : Patterns → Type 0) (rule : PieceRule) (source source' : R) (sink sink' : W) (counts counts' : List ℕ) where
  abbrev pub LeavesCounted : Result (Unit {0}) StreamError → Type 0
  LeavesCounted result = LeavesCountedWith S K AreSearched false rule source source' sink sink' counts counts' result

-- look-ups: at most two for each byte that the source gave
pub record TwoAByte {R : Type 0} (S : SourceGhosts R) (source source' : R) (lookups : ℕ) : Type 0 where
  pub given : List ℕ
  pub ended : Bool
  pub gives : SourceGave S source source' given ended
  pub at_most : lookups ≤ 2 * length given

-- a cover of a stream is refused for this reason where there is one, and for no other
pub record RefusesStreamCover {T : Type 0} (refusal : Option MatchErrorKind) (result : Result T StreamError) : Type 0 where
  pub refused : (reason : MatchErrorKind) → refusal ≡ Some reason → result ≡ Err (Match reason)
  pub only : (reason : MatchErrorKind) → result ≡ Err (Match reason) → refusal ≡ Some reason

-- a cover by this automaton that has not begun, whatever patterns it is of: nothing was given and nothing written
pub record IsUnbegunWith {A : Type 0} (words : Bool) (G : Automata A) (a : A) (s : CoverProgress) : Type 0 where
  pub chosen : s.words ≡ words
  pub unended : s.ended ≡ false
  pub standard : G.kind a ≡ Standard
  pub no_empty : 1 ≤ shortest (G.lengths a)
  pub is_state : G.valid a s.sid
  pub shallow : G.depth a s.sid ≡ 0
  pub unread : s.read ≡ 0
  pub unfed : s.fed ≡ 0
  pub sound : IsSoundCover s 0
  pub covers : (p : Patterns) (rule : PieceRule) (haystack : List ℕ) → G.is_of a p → CoversOn G a rule s 0 p haystack no_output

-- of all that occurs
abbrev pub IsUnbegunCover : {A : Type 0} → Automata A → A → CoverProgress → Type 0
IsUnbegunCover G a s = IsUnbegunWith false G a s
