-- What the visits of a stream's lines leave.
use Rattle.std.specs.Prelude.{◌≡◌, ◌⊎◌, ℕ, Bool, true, false, List, [], ◌∷◌, ◌++◌, Result, IfErr, OnOk}
use Rattle.aho_core.specs.Occurrence.{Occurrence}
use Rattle.aho_core.specs.Patterns.{Patterns}
use Rattle.aho_core.specs.declared.error.stream.StreamError.{StreamError}
use Rattle.aho_devices.specs.Refusals.{IsFillRefusal}
use Rattle.aho_devices.specs.declared.device.Source.{Ghosts as SourceGhosts}
use Rattle.aho_stream.specs.Replacing.{MayBe, SourceGave}
use Rattle.secret_rules.specs.Covering.{AreLineRuns, covering_by, seen_line}
use Rattle.secret_rules.specs.LineCovers.{IsReadFailure}
use Rattle.secret_rules.specs.Lines.{Line, line_with, stream_lines}
use Rattle.secret_rules.specs.Marking.{IsLineFailure}
use Rattle.secret_rules.specs.Visitors.{IsVisitRefusal}
use Rattle.secret_rules.specs.declared.error.LineError.{LineError}
use Rattle.secret_rules.specs.declared.error.LineError.TheVariants.{Mark, Stream}
use Rattle.secret_rules.specs.declared.rule.Rule.{Rule}
use Rattle.secret_rules.specs.declared.visitor.LineVisitor.{Ghosts as VisitorGhosts}

-- a line as a visitor takes it: one that is longer than so many bytes comes without them
abbrev pub taken_line : ℕ → Line → Line
taken_line most line = line_with (seen_line most line.bytes) line.end

-- why the lines of a stream are not all visited: a read or a visit failed, the limit was met, or one of the rules does not mark a line
abbrev pub IsVisitFailure : List Rule → LineError → Type 0
IsVisitFailure rules (Stream error) = IsFillRefusal error ⊎ IsVisitRefusal error
IsVisitFailure rules (Mark error) = IsLineFailure rules error

-- an error that is not of a visit
abbrev pub IsUnvisited : LineError → Type 0
IsUnvisited (Stream error) = IsFillRefusal error
IsUnvisited (Mark error) = Unit {0}

-- of a visitor of lines of so many bytes at most
module _ {V : Type 0} (L : VisitorGhosts V) (most : ℕ) where
  -- it took some lines with these runs, one after another
  abbrev pub VisitsEach : V → V → List Line → List (List Occurrence) → Type 0
  VisitsEach visitor visitor' [] [] = visitor' ≡ visitor
  VisitsEach visitor visitor' (line ∷ lines) (own ∷ runs) =
      (next : V) × L.visits visitor next (taken_line most line) own × VisitsEach next visitor' lines runs
  VisitsEach visitor visitor' lines runs = ⊥

  -- it took all of them but the last, and failed at that one
  pub record StopsInLast (visitor visitor' : V) (lines : List Line) (runs : List (List Occurrence)) (error : LineError) : Type 0 where
    pub first : List Line
    pub line : Line
    pub lines_are : lines ≡ first ++ line ∷ []
    pub more : List (List Occurrence)
    pub own : List Occurrence
    pub runs_are : runs ≡ more ++ own ∷ []
    pub between : V
    pub visits : VisitsEach visitor between first more
    pub cause : StreamError
    pub is : error ≡ Stream cause
    pub stops : L.stops between visitor' (taken_line most line) own cause

  -- it took all of them, and the error is not its own, or it failed at the last
  abbrev pub StopsWithin : V → V → List Line → List (List Occurrence) → LineError → Type 0
  StopsWithin visitor visitor' lines runs error =
      (VisitsEach visitor visitor' lines runs × IsUnvisited error) ⊎ StopsInLast visitor visitor' lines runs error

-- some lines are the first of a text
abbrev pub AreFirstLines : List Line → List Line → Type 0
AreFirstLines lines all = (later : List Line) × (all ≡ lines ++ later)

-- of what is covered by the patterns that are searched for and by rules: from a source and a visitor before a call to those after it
module _ {R V : Type 0} (S : SourceGhosts R) (L : VisitorGhosts V) (Searched : Patterns → Type 0) (words : Bool) (rules : List Rule) (most : ℕ) (source source' : R) (visitor visitor' : V) where
  -- the stream has ended, and the visitor took each line of all that was given
  pub record VisitsLines : Type 0 where
    pub given : List ℕ
    pub gives : SourceGave S source source' given true
    pub runs : List (List Occurrence)
    pub runs_are : (p : Patterns) → Searched p → AreLineRuns (covering_by words rules most p) [] (stream_lines given) runs
    pub visits : VisitsEach L most visitor visitor' (stream_lines given) runs

  -- it took some first lines, whatever bytes may follow, but may have failed at the last of them
  pub record BeginsVisiting (error : LineError) : Type 0 where
    pub given : List ℕ
    pub ended : Bool
    pub gives : SourceGave S source source' given ended
    pub lines : List Line
    pub runs : List (List Occurrence)
    pub runs_are : (p : Patterns) → Searched p → AreLineRuns (covering_by words rules most p) [] lines runs
    pub stops : StopsWithin L most visitor visitor' lines runs error
    pub first : (bytes : List ℕ) → MayBe given ended bytes → AreFirstLines lines (stream_lines bytes)

  -- and where a read failed it took all lines whose ends were given
  pub record VisitsWholeLines : Type 0 where
    pub given : List ℕ
    pub gives : SourceGave S source source' given false
    pub lines : List Line
    pub last : Line
    pub runs : List (List Occurrence)
    pub lines_are : stream_lines given ≡ lines ++ last ∷ []
    pub runs_are : (p : Patterns) → Searched p → AreLineRuns (covering_by words rules most p) [] lines runs
    pub visits : VisitsEach L most visitor visitor' lines runs

  -- what visits leave that answer so
  pub record LeavesVisited (result : Result (Unit {0}) LineError) : Type 0 where
    pub visited : OnOk result VisitsLines
    pub begun : IfErr result BeginsVisiting
    pub whole : IfErr result (λ error. IsReadFailure error → VisitsWholeLines)
