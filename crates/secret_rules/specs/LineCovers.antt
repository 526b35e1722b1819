-- What the cover of a stream leaves, line by line.
use Rattle.std.specs.Prelude.{◌≡◌, ◌+◌, ℕ, Bool, true, false, List, [], ◌∷◌, ◌++◌, Option, None, Some, Result, Ok, Err, IfErr, OnErr, OnOk, flat_map, length}
use Rattle.std.specs.Borrow.{Bor}
use Rattle.std.specs.Io.{StartsWith}
use Rattle.std.specs.Io.KnownBytes.{Appends}
use Rattle.aho_core.specs.Occurrence.{Occurrence}
use Rattle.aho_core.specs.Patterns.{Patterns}
use Rattle.aho_core.specs.declared.error.stream.StreamError.{StreamError}
use Rattle.aho_core.specs.declared.error.stream.StreamError.TheVariants.{Memory}
use Rattle.aho_automaton.specs.declared.automaton.Automaton.{Ghosts as Automata}
use Rattle.aho_devices.specs.Refusals.{IsFillRefusal}
use Rattle.aho_devices.specs.declared.device.Sink.{Ghosts as SinkGhosts}
use Rattle.aho_devices.specs.declared.device.Source.{Ghosts as SourceGhosts}
use Rattle.aho_stream.specs.Replacing.{IsStreamFault, MayBe, SourceGave}
use Rattle.aho_cover.specs.Counting.{CountsThese}
use Rattle.aho_cover.specs.Pieces.{PieceRule}
use Rattle.secret_rules.specs.Covering.{AreLineRuns, covering_by, lines_cover}
use Rattle.secret_rules.specs.Lines.{Line, stream_lines}
use Rattle.secret_rules.specs.Marking.{IsLineFailure}
use Rattle.secret_rules.specs.Writing.{line_cover}
use Rattle.secret_rules.specs.declared.error.LineError.{LineError}
use Rattle.secret_rules.specs.declared.error.LineError.TheVariants.{Mark, Stream}
use Rattle.secret_rules.specs.declared.rule.Rule.{Rule}

-- the patterns that are searched for: those of an automaton, or none
abbrev pub AreSearchedFor : {A : Type 0} → Automata A → Option (Bor A) → Patterns → Type 0
AreSearchedFor G None p = p.words ≡ []
AreSearchedFor G (Some a) p = G.is_of a.now p

-- the error of a device, or of the limit of bytes
abbrev pub IsReadFailure : LineError → Type 0
IsReadFailure (Stream error) = IsFillRefusal error
IsReadFailure (Mark error) = ⊥

-- what a call's answer says of its devices
abbrev pub of_devices : Result (Unit {0}) LineError → Result (Unit {0}) StreamError
of_devices (Ok done) = Ok done
of_devices (Err (Stream error)) = Err error
of_devices (Err (Mark error)) = Err Memory

-- why a stream is not covered: a device failed, the limit was met, or one of the rules does not mark a line
abbrev pub IsCoverFailure : List Rule → LineError → Type 0
IsCoverFailure rules (Stream error) = IsStreamFault error
IsCoverFailure rules (Mark error) = IsLineFailure rules error

-- the runs of some lines, one after another
abbrev pub all_of : List (List Occurrence) → List Occurrence
all_of runs = flat_map (λ own. own) runs

-- a text has these lines with these runs, and a next line whose cover starts with a part
pub record BeginsNextLine (rule : PieceRule) (lines : List Line) (runs : List (List Occurrence)) (part : List ℕ) (all : List Line) (all_runs : List (List Occurrence)) : Type 0 where
  pub next : Line
  pub later : List Line
  pub own : List Occurrence
  pub more : List (List Occurrence)
  pub lines_are : all ≡ lines ++ next ∷ later
  pub runs_are : all_runs ≡ runs ++ own ∷ more
  pub begins : StartsWith (line_cover rule next own) part

-- of what is covered by the patterns that are searched for and by rules: from a source, a sink and counts before a call to those after it
module _ {R W : Type 0} (S : SourceGhosts R) (K : SinkGhosts W) (Searched : Patterns → Type 0) (words : Bool) (rules : List Rule) (most : ℕ) (rule : PieceRule) (source source' : R) (sink sink' : W) (counts counts' : List ℕ) where
  -- the stream has ended, the cover of each line of all that was given was written, and each run counted
  pub record CoversLines : Type 0 where
    pub given : List ℕ
    pub gives : SourceGave S source source' given true
    pub runs : List (List Occurrence)
    pub runs_are : (p : Patterns) → Searched p → AreLineRuns (covering_by words rules most p) [] (stream_lines given) runs
    pub writes : Appends (K.taken sink) (K.taken sink') (lines_cover rule (stream_lines given) runs)
    pub counted : CountsThese (all_of runs) counts counts'

  -- the covers of some first lines were written and their runs counted, and behind them a beginning of the next, whatever bytes may follow
  pub record BeginsLines : Type 0 where
    pub given : List ℕ
    pub ended : Bool
    pub gives : SourceGave S source source' given ended
    pub lines : List Line
    pub runs : List (List Occurrence)
    pub part : List ℕ
    pub as_many : length runs ≡ length lines
    pub runs_are : (p : Patterns) → Searched p → AreLineRuns (covering_by words rules most p) [] lines runs
    pub writes : Appends (K.taken sink) (K.taken sink') (lines_cover rule lines runs ++ part)
    pub counted : CountsThese (all_of runs) counts counts'
    pub goes_on : (p : Patterns) (bytes : List ℕ) (all : List (List Occurrence)) → Searched p → MayBe given ended bytes → AreLineRuns (covering_by words rules most p) [] (stream_lines bytes) all
        → BeginsNextLine rule lines runs part (stream_lines bytes) all

  -- and where a read failed these are all lines whose ends were given
  pub record CoversWholeLines : Type 0 where
    pub given : List ℕ
    pub gives : SourceGave S source source' given false
    pub lines : List Line
    pub last : Line
    pub runs : List (List Occurrence)
    pub lines_are : stream_lines given ≡ lines ++ last ∷ []
    pub runs_are : (p : Patterns) → Searched p → AreLineRuns (covering_by words rules most p) [] lines runs
    pub writes : Appends (K.taken sink) (K.taken sink') (lines_cover rule lines runs)
    pub counted : CountsThese (all_of runs) counts counts'

  -- what a cover leaves that answers so
  pub record LeavesLines (result : Result (Unit {0}) LineError) : Type 0 where
    pub covered : OnOk result CoversLines
    pub begun : OnErr result BeginsLines
    pub whole : IfErr result (λ error. IsReadFailure error → CoversWholeLines)
