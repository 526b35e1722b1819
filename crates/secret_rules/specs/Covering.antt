-- What is covered of the lines of a text, by patterns and by rules.
use Rattle.std.specs.Prelude.{◌≡◌, ◌⊎◌, ◌+◌, ◌<◌, ◌≤◌, ℕ, Bool, List, [], ◌∷◌, ◌++◌, if◌then◌else◌, length, nat_lt}
use Rattle.aho_core.specs.Cover.{AreRunsOf}
use Rattle.aho_core.specs.Occurrence.{Occurrence, occurrence}
use Rattle.aho_core.specs.Patterns.{Patterns}
use Rattle.aho_cover.specs.Words.{CountsIn}
use Rattle.aho_cover.specs.Pieces.{PieceRule}
use Rattle.secret_rules.specs.Lines.{Line}
use Rattle.secret_rules.specs.Marks.{IsMarkOf}
use Rattle.secret_rules.specs.Writing.{line_cover}
use Rattle.secret_rules.specs.declared.marks.Mark.{Mark}
use Rattle.secret_rules.specs.declared.rule.Rule.{Rule}

-- patterns, of which all that occurs counts or the words alone, and rules, in lines of so many bytes at most
pub record Covering : Type 0 where
  pub patterns : Patterns
  pub words : Bool
  pub rules : List Rule
  pub most : ℕ

-- the same by these patterns
abbrev pub covering_by : Bool → List Rule → ℕ → Patterns → Covering
covering_by words rules most p = record { patterns = p; words = words; rules = rules; most = most }

-- a mark as an occurrence: the numbers of rules are behind those of so many patterns
abbrev pub marked : ℕ → Mark → Occurrence
marked count mark = record { pattern = count + mark.rule; start = mark.start; end = mark.end }

-- a rule marks it in the line that follows these lines
pub record IsMarkedIn (covering : Covering) (before : List (List ℕ)) (line : List ℕ) (m : Occurrence) : Type 0 where
  pub mark : Mark
  pub marks : IsMarkOf covering.rules before line mark
  pub same : m ≡ marked (length covering.patterns.words) mark

-- the whole of a line, by the number behind those of the rules
abbrev pub whole_line : Covering → List ℕ → Occurrence
whole_line covering line = occurrence 0 (length line) (length covering.patterns.words + length covering.rules)

-- what is covered of the line that follows these lines: the whole of one that is too long, and of any other what counts of the patterns
-- and what rules mark
abbrev pub CoveredIn : Covering → List (List ℕ) → List ℕ → Occurrence → Type 0
CoveredIn covering before line m =
    ((covering.most < length line) × (m ≡ whole_line covering line))
    ⊎ ((length line ≤ covering.most) × (CountsIn covering.words covering.patterns line m ⊎ IsMarkedIn covering before line m))

-- what rules see of a line in those that follow: one that is too long counts as empty
abbrev pub seen_line : ℕ → List ℕ → List ℕ
seen_line most line = if nat_lt most (length line) then [] else line

-- these are the runs of each of some lines, which follow these lines
abbrev pub AreLineRuns : Covering → List (List ℕ) → List Line → List (List Occurrence) → Type 0
AreLineRuns covering before [] [] = Unit {0}
AreLineRuns covering before (line ∷ lines) (runs ∷ more) =
    AreRunsOf (CoveredIn covering before line.bytes) runs
    × AreLineRuns covering (before ++ seen_line covering.most line.bytes ∷ []) lines more
AreLineRuns covering before lines runs = ⊥

-- the cover of some lines: each with the piece of each of its runs, and with its end
abbrev pub lines_cover : PieceRule → List Line → List (List Occurrence) → List ℕ
lines_cover rule (line ∷ lines) (runs ∷ more) = line_cover rule line runs ++ lines_cover rule lines more
lines_cover rule lines runs = []
