-- The line that is being read for a visitor, and how far its visits have come.
use Rattle.std.specs.Prelude.{◌≡◌, ◌≤◌, ℕ, List, [], ◌∷◌, ◌++◌, length, map}
use Rattle.aho_core.specs.Occurrence.{Occurrence}
use Rattle.aho_core.specs.Patterns.{Patterns}
use Rattle.aho_automaton.specs.declared.automaton.Automaton.{Ghosts as Automata}
use Rattle.secret_rules.specs.Covering.{AreLineRuns, covering_by, seen_line}
use Rattle.secret_rules.specs.LineCovers.{AreSearchedFor}
use Rattle.secret_rules.specs.Lines.{Line, line_with, lines_from}
use Rattle.secret_rules.specs.Marking.{HasMarked, IsLineFailure}
use Rattle.secret_rules.specs.OpenLines.{AreRunsBy, line_rules}
use Rattle.secret_rules.specs.Visitors.{IsVisitRefusal}
use Rattle.secret_rules.specs.Visits.{AreFirstLines, StopsWithin, VisitsEach}
use Rattle.secret_rules.specs.declared.error.LineError.{LineError}
use Rattle.secret_rules.specs.declared.error.LineError.TheVariants.{Mark, Stream}
use Rattle.secret_rules.specs.declared.open_line.OpenLine.{OpenLine}
use Rattle.secret_rules.specs.declared.open_line.Setting.{Setting}
use Rattle.secret_rules.specs.declared.rule.Rule.{Rule}
use Rattle.secret_rules.specs.declared.visitor.LineVisitor.{Ghosts as VisitorGhosts}

-- these bytes of the line were read and counted, and are kept where they are not too many
pub record HasKept {A : Type 0} (line : OpenLine A) (count : ℕ) (read : List ℕ) : Type 0 where
  pub counted : count ≡ length read
  pub kept : count ≤ line.setting.most → line.line.items ≡ read

-- and these lines were marked before, as rules see them
pub record HoldsBehind {A : Type 0} (line : OpenLine A) (count : ℕ) (before : List (List ℕ)) (read : List ℕ) : Type 0 where
  pub marked : HasMarked line.marker before
  pub has : HasKept line count read

-- what a visitor is to take of the line was found
pub record SeesLine {A : Type 0} (G : Automata A) (line line' : OpenLine A) (before : List (List ℕ)) (read : List ℕ) : Type 0 where
  pub bytes : line'.line.items ≡ seen_line line.setting.most read
  pub runs : AreRunsBy G line.setting (line_rules line) before read line'.runs.items
  pub marked : HasMarked line'.marker (before ++ seen_line line.setting.most read ∷ [])

-- wherever the line stands
abbrev pub SeesOpen : {A : Type 0} → Automata A → OpenLine A → ℕ → OpenLine A → Type 0
SeesOpen G line count line' = (before : List (List ℕ)) (read : List ℕ) → HoldsBehind line count before read → SeesLine G line line' before read

-- why a line is not visited: the visit failed, or one of the rules does not mark it
abbrev pub IsLineUnvisited : List Rule → LineError → Type 0
IsLineUnvisited rules (Stream error) = IsVisitRefusal error
IsLineUnvisited rules (Mark error) = IsLineFailure rules error

-- of patterns and rules
module _ {A : Type 0} (G : Automata A) (setting : Setting A) (rules : List Rule) where
  -- these are the runs of each of some lines, which follow these lines
  abbrev pub AreLineRunsBy : List (List ℕ) → List Line → List (List Occurrence) → Type 0
  AreLineRunsBy before lines runs = (p : Patterns) → AreSearchedFor G setting.automaton p
      → AreLineRuns (covering_by setting.words rules setting.most p) before lines runs

  -- and of a visitor
  module _ {V : Type 0} (L : VisitorGhosts V) (visitor visitor' : V) where
    -- it took a line that follows these lines
    pub record TakesLine (before : List (List ℕ)) (line : Line) : Type 0 where
      pub own : List Occurrence
      pub runs_are : AreLineRunsBy before (line ∷ []) (own ∷ [])
      pub visits : VisitsEach L setting.most visitor visitor' (line ∷ []) (own ∷ [])

    -- it did not, or failed at it
    pub record MissesLine (before : List (List ℕ)) (line : Line) (error : LineError) : Type 0 where
      pub lines : List Line
      pub runs : List (List Occurrence)
      pub runs_are : AreLineRunsBy before lines runs
      pub stops : StopsWithin L setting.most visitor visitor' lines runs error
      pub first : AreFirstLines lines (line ∷ [])

    -- with some more bytes of a text some lines came to their ends, and it took them
    pub record TakesLines (before : List (List ℕ)) (read bytes : List ℕ) (before' : List (List ℕ)) (read' : List ℕ) : Type 0 where
      pub lines : List Line
      pub runs : List (List Occurrence)
      pub splits : (more : List ℕ) → lines_from read (bytes ++ more) ≡ lines ++ lines_from read' more
      pub seen : before' ≡ before ++ map (λ (line : Line). seen_line setting.most line.bytes) lines
      pub runs_are : AreLineRunsBy before lines runs
      pub visits : VisitsEach L setting.most visitor visitor' lines runs

    -- the same of some first lines, but it may have failed at the last
    pub record MissesLines (before : List (List ℕ)) (read bytes : List ℕ) (error : LineError) : Type 0 where
      pub lines : List Line
      pub runs : List (List Occurrence)
      pub runs_are : AreLineRunsBy before lines runs
      pub stops : StopsWithin L setting.most visitor visitor' lines runs error
      pub first : (more : List ℕ) → AreFirstLines lines (lines_from read (bytes ++ more))

    -- it took lines, and the next stands there
    pub record ComesTo (line' : OpenLine A) (count' : ℕ) (before : List (List ℕ)) (read bytes : List ℕ) : Type 0 where
      pub before' : List (List ℕ)
      pub read' : List ℕ
      pub takes : TakesLines before read bytes before' read'
      pub stands : HoldsBehind line' count' before' read'

-- of a line with its setting and rules, wherever it stands: the visitor took it with this end
abbrev pub TakesOpen : {A V : Type 0} → Automata A → VisitorGhosts V → OpenLine A → ℕ → V → V → List ℕ → Type 0
TakesOpen G L line count visitor visitor' end = (before : List (List ℕ)) (read : List ℕ) → HoldsBehind line count before read
    → TakesLine G line.setting (line_rules line) L visitor visitor' before (line_with read end)

-- it did not, or failed at it
abbrev pub MissesOpen : {A V : Type 0} → Automata A → VisitorGhosts V → OpenLine A → ℕ → V → V → List ℕ → LineError → Type 0
MissesOpen G L line count visitor visitor' end error = (before : List (List ℕ)) (read : List ℕ) → HoldsBehind line count before read
    → MissesLine G line.setting (line_rules line) L visitor visitor' before (line_with read end) error

-- the next line begins behind it
abbrev pub HoldsNext : {A : Type 0} → OpenLine A → ℕ → OpenLine A → ℕ → Type 0
HoldsNext line count line' count' = (before : List (List ℕ)) (read : List ℕ) → HoldsBehind line count before read
    → HoldsBehind line' count' (before ++ seen_line line.setting.most read ∷ []) []

-- the visitor took the lines that came to their ends with more bytes
abbrev pub TakesOpenLines : {A V : Type 0} → Automata A → VisitorGhosts V → OpenLine A → ℕ → V → V → OpenLine A → ℕ → List ℕ → Type 0
TakesOpenLines G L line count visitor visitor' line' count' bytes = (before : List (List ℕ)) (read : List ℕ) → HoldsBehind line count before read
    → ComesTo G line.setting (line_rules line) L visitor visitor' line' count' before read bytes

-- or some of them
abbrev pub MissesOpenLines : {A V : Type 0} → Automata A → VisitorGhosts V → OpenLine A → ℕ → V → V → List ℕ → LineError → Type 0
MissesOpenLines G L line count visitor visitor' bytes error = (before : List (List ℕ)) (read : List ℕ) → HoldsBehind line count before read
    → MissesLines G line.setting (line_rules line) L visitor visitor' before read bytes error
