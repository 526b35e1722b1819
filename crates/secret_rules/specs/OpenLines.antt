-- The line that is being read, and how far a cover has come.
use Rattle.std.specs.Prelude.{◌≡◌, ◌+◌, ◌<◌, ◌≤◌, ℕ, Bool, true, false, List, [], ◌∷◌, ◌++◌, IfSome, IsOk, Result, IfErr, length, map}
use Rattle.std.specs.Io.{StartsWith}
use Rattle.std.specs.Io.KnownBytes.{Appends}
use Rattle.aho_core.specs.Cover.{AreRunsOf}
use Rattle.aho_core.specs.Laws.{shortest}
use Rattle.aho_core.specs.Occurrence.{Occurrence}
use Rattle.aho_core.specs.Patterns.{Patterns}
use Rattle.aho_core.specs.declared.search.Anchored.TheVariants.{No}
use Rattle.aho_core.specs.declared.search.MatchKind.TheVariants.{Standard}
use Rattle.aho_automaton.specs.declared.automaton.Automaton.{Ghosts as Automata}
use Rattle.aho_devices.specs.Counts.{counted}
use Rattle.aho_devices.specs.Refusals.{IsWriteRefusal, is_write_fault, is_write_of_nothing}
use Rattle.aho_devices.specs.declared.device.Sink.{Ghosts as SinkGhosts}
use Rattle.aho_cover.specs.Counting.{CountsThese}
use Rattle.aho_cover.specs.Pieces.{PieceRule}
use Rattle.aho_cover.specs.declared.pieces.Pieces.{Ghosts as PieceGhosts}
use Rattle.secret_rules.specs.Covering.{AreLineRuns, CoveredIn, covering_by, lines_cover, seen_line}
use Rattle.secret_rules.specs.LineCovers.{AreSearchedFor, BeginsNextLine, all_of, of_devices}
use Rattle.secret_rules.specs.Lines.{Line, line_with, lines_from}
use Rattle.secret_rules.specs.Marking.{HasMarked, IsLineFailure, marker_rules}
use Rattle.secret_rules.specs.Writing.{line_cover}
use Rattle.secret_rules.specs.declared.error.LineError.{LineError}
use Rattle.secret_rules.specs.declared.error.LineError.TheVariants.{Mark, Stream}
use Rattle.secret_rules.specs.declared.open_line.OpenLine.{OpenLine}
use Rattle.secret_rules.specs.declared.open_line.Setting.{Setting}
use Rattle.secret_rules.specs.declared.rule.Rule.{Rule}

-- the rules of a line's marker
abbrev pub line_rules : {A : Type 0} → OpenLine A → List Rule
line_rules line = marker_rules line.marker

-- an automaton by which lines can be searched for all that occurs, of which nothing is empty
pub record CanSearch {A : Type 0} (G : Automata A) (a : A) : Type 0 where
  pub of : (p : Patterns) × G.is_of a p
  pub standard : G.kind a ≡ Standard
  pub starts : IsOk (G.start a No)
  pub full : 1 ≤ shortest (G.lengths a)

-- the numbers of a setting are those of its patterns and of these rules
pub record IsSetting {A : Type 0} (G : Automata A) (setting : Setting A) (rules : List Rule) : Type 0 where
  pub searches : IfSome setting.automaton (λ a. CanSearch G a.now)
  pub patterns : (p : Patterns) → AreSearchedFor G setting.automaton p → length p.words ≡ setting.patterns
  pub whole : setting.whole ≡ setting.patterns + length rules

-- these bytes of the line were read: they are kept, or the line is too long and they were fed
pub record HasRead {A P : Type 0} (Q : PieceGhosts P) (line : OpenLine A) (pieces : P) (read : List ℕ) : Type 0 where
  pub kept : line.long ≡ false → (line.line.items ≡ read) × (length read ≤ line.setting.most)
  pub fed : line.long ≡ true → Q.holds pieces read × (line.setting.most < length read)

-- and these lines were marked before, as rules see them
pub record StandsBehind {A P : Type 0} (Q : PieceGhosts P) (line : OpenLine A) (pieces : P) (before : List (List ℕ)) (read : List ℕ) : Type 0 where
  pub marked : HasMarked line.marker before
  pub has : HasRead Q line pieces read

-- why a line is not covered: the sink failed, or one of the rules does not mark it
abbrev pub IsLineRefusal : List Rule → LineError → Type 0
IsLineRefusal rules (Stream error) = IsWriteRefusal error
IsLineRefusal rules (Mark error) = IsLineFailure rules error

-- each error of a sink is answered exactly where its count rose in the call, and no other error of a device is
pub record TellsLine {W : Type 0} (K : SinkGhosts W) (rules : List Rule) (sink sink' : W) (result : Result (Unit {0}) LineError) : Type 0 where
  pub write_failed : K.failures sink' ≡ counted (is_write_fault (of_devices result)) (K.failures sink)
  pub took_nothing : K.empty_writes sink' ≡ counted (is_write_of_nothing (of_devices result)) (K.empty_writes sink)
  pub only : IfErr result (IsLineRefusal rules)

-- of patterns that are searched for and what is covered by them
module _ {W : Type 0} (K : SinkGhosts W) (Searched : Patterns → Type 0) (words : Bool) (rules : List Rule) (most : ℕ) (rule : PieceRule) (sink sink' : W) (counts counts' : List ℕ) where
  -- a line that follows these lines was written and its runs counted
  pub record WritesLine (before : List (List ℕ)) (line : Line) : Type 0 where
    pub runs : List Occurrence
    pub runs_are : (p : Patterns) → Searched p → AreRunsOf (CoveredIn (covering_by words rules most p) before line.bytes) runs
    pub writes : Appends (K.taken sink) (K.taken sink') (line_cover rule line runs)
    pub counted : CountsThese runs counts counts'

  -- a beginning of it was written, and no run counted
  pub record StopsInLine (before : List (List ℕ)) (line : Line) : Type 0 where
    pub part : List ℕ
    pub writes : Appends (K.taken sink) (K.taken sink') part
    pub counted : counts' ≡ counts
    pub begins : (p : Patterns) (runs : List Occurrence) → Searched p → AreRunsOf (CoveredIn (covering_by words rules most p) before line.bytes) runs → StartsWith (line_cover rule line runs) part

  -- with some more bytes of a text some lines came to their ends, were written, and their runs counted
  pub record WritesLines (before : List (List ℕ)) (read bytes : List ℕ) (before' : List (List ℕ)) (read' : List ℕ) : Type 0 where
    pub lines : List Line
    pub runs : List (List Occurrence)
    pub as_many : length runs ≡ length lines
    pub splits : (more : List ℕ) → lines_from read (bytes ++ more) ≡ lines ++ lines_from read' more
    pub seen : before' ≡ before ++ map (λ (line : Line). seen_line most line.bytes) lines
    pub runs_are : (p : Patterns) → Searched p → AreLineRuns (covering_by words rules most p) before lines runs
    pub writes : Appends (K.taken sink) (K.taken sink') (lines_cover rule lines runs)
    pub counted : CountsThese (all_of runs) counts counts'

  -- the same of some first lines, and a beginning of the next was written
  pub record StopsInLines (before : List (List ℕ)) (read bytes : List ℕ) : Type 0 where
    pub lines : List Line
    pub runs : List (List Occurrence)
    pub part : List ℕ
    pub as_many : length runs ≡ length lines
    pub runs_are : (p : Patterns) → Searched p → AreLineRuns (covering_by words rules most p) before lines runs
    pub writes : Appends (K.taken sink) (K.taken sink') (lines_cover rule lines runs ++ part)
    pub counted : CountsThese (all_of runs) counts counts'
    pub goes_on : (p : Patterns) (more : List ℕ) (all : List (List Occurrence)) → Searched p → AreLineRuns (covering_by words rules most p) before (lines_from read (bytes ++ more)) all
        → BeginsNextLine rule lines runs part (lines_from read (bytes ++ more)) all

-- and the call has come so far with these bytes
pub record GoesOnBehind {A W P : Type 0} (K : SinkGhosts W) (Q : PieceGhosts P) (Searched : Patterns → Type 0) (words : Bool) (rules : List Rule) (most : ℕ) (rule : PieceRule)
    (sink sink' : W) (counts counts' : List ℕ) (line' : OpenLine A) (pieces' : P) (before : List (List ℕ)) (read bytes : List ℕ) : Type 0 where
  pub before' : List (List ℕ)
  pub read' : List ℕ
  pub writes : WritesLines K Searched words rules most rule sink sink' counts counts' before read bytes before' read'
  pub stands : StandsBehind Q line' pieces' before' read'

-- of a line with its setting and rules, wherever it stands: it was written with this end and its runs counted
abbrev pub WritesOpen : {A W P : Type 0} → Automata A → SinkGhosts W → PieceGhosts P → OpenLine A → P → W → W → List ℕ → List ℕ → List ℕ → Type 0
WritesOpen G K Q line pieces sink sink' counts counts' end = (before : List (List ℕ)) (read : List ℕ) → StandsBehind Q line pieces before read
    → WritesLine K (AreSearchedFor G line.setting.automaton) line.setting.words (line_rules line) line.setting.most (Q.rule pieces) sink sink' counts counts' before (line_with read end)

-- a beginning of it was written, and no run counted
abbrev pub StopsOpen : {A W P : Type 0} → Automata A → SinkGhosts W → PieceGhosts P → OpenLine A → P → W → W → List ℕ → List ℕ → List ℕ → Type 0
StopsOpen G K Q line pieces sink sink' counts counts' end = (before : List (List ℕ)) (read : List ℕ) → StandsBehind Q line pieces before read
    → StopsInLine K (AreSearchedFor G line.setting.automaton) line.setting.words (line_rules line) line.setting.most (Q.rule pieces) sink sink' counts counts' before (line_with read end)

-- the next line begins behind it
abbrev pub BeginsNext : {A P : Type 0} → PieceGhosts P → OpenLine A → P → OpenLine A → P → Type 0
BeginsNext Q line pieces line' pieces' = (before : List (List ℕ)) (read : List ℕ) → StandsBehind Q line pieces before read
    → StandsBehind Q line' pieces' (before ++ seen_line line.setting.most read ∷ []) []

-- the call has come so far with more bytes
abbrev pub GoesOnOpen : {A W P : Type 0} → Automata A → SinkGhosts W → PieceGhosts P → OpenLine A → P → W → W → List ℕ → List ℕ → OpenLine A → P → List ℕ → Type 0
GoesOnOpen G K Q line pieces sink sink' counts counts' line' pieces' bytes = (before : List (List ℕ)) (read : List ℕ) → StandsBehind Q line pieces before read
    → GoesOnBehind K Q (AreSearchedFor G line.setting.automaton) line.setting.words (line_rules line) line.setting.most (Q.rule pieces) sink sink' counts counts' line' pieces' before read bytes

-- or has stopped with them
abbrev pub StopsOpenLines : {A W P : Type 0} → Automata A → SinkGhosts W → PieceGhosts P → OpenLine A → P → W → W → List ℕ → List ℕ → List ℕ → Type 0
StopsOpenLines G K Q line pieces sink sink' counts counts' bytes = (before : List (List ℕ)) (read : List ℕ) → StandsBehind Q line pieces before read
    → StopsInLines K (AreSearchedFor G line.setting.automaton) line.setting.words (line_rules line) line.setting.most (Q.rule pieces) sink sink' counts counts' before read bytes

-- these are the runs of a line that follows these lines
abbrev pub AreRunsBy : {A : Type 0} → Automata A → Setting A → List Rule → List (List ℕ) → List ℕ → List Occurrence → Type 0
AreRunsBy G setting rules before line runs = (p : Patterns) → AreSearchedFor G setting.automaton p
    → AreRunsOf (CoveredIn (covering_by setting.words rules setting.most p) before line) runs
