-- Which lines of a text are selected.
use Rattle.acgrep.specs.Common.{Occurrence, OccursIn, Patterns, plain_search}
use Rattle.std.specs.Prelude.{◌-◌, ◌<◌, ◌≡◌, ◌≢◌, ◌≤◌, List, None, Option, Some, false, length, slice_index, ℕ}
use Rattle.aho_core.specs.Bytes.{folded}
use Rattle.aho_core.specs.Occurs.{Occurs}
use Rattle.aho_core.specs.Patterns.{pattern_at}
use Rattle.aho_core.specs.declared.search.Anchored.TheVariants.{No}
use Rattle.aho_core.specs.declared.search.Span.{Span}
use Rattle.memchr.specs.Find.{Nowhere}
use Rattle.acgrep.specs.Lines.{IsEnding, lines}
use Rattle.acgrep.specs.declared.options.Fit.TheVariants.{AnyPart}
use Rattle.acgrep.specs.declared.job.Job.{Job}
use Rattle.acgrep.specs.declared.job.State.{State}

-- no pattern holds the byte that ends a line, in either case where that makes no difference
abbrev pub HoldNoEnding : (ending : ℕ) → Patterns → Type 0
HoldNoEnding ending p =
    (number place : ℕ) → number < length p.words → place < length (pattern_at p number) → folded p (slice_index (pattern_at p number) place) ≢ folded p ending

-- what holds of all patterns without that byte that are so
abbrev pub ForLines : (ending : ℕ) → (Patterns → Type 0) → (Patterns → Type 0) → Type 0
ForLines ending Are Holds = (p : Patterns) → Are p → HoldNoEnding ending p → Holds p

-- the lines of a text
abbrev pub lines_by : Job → List ℕ → List (List ℕ)
lines_by job text = lines job.style.ending text

-- the span is a line of the text, without the byte that ends it
pub record IsLine (ending : ℕ) (text : List ℕ) (line : Span) : Type 0 where
  pub ordered : line.start ≤ line.end
  pub within : line.end ≤ length text
  -- it begins the text, or stands behind the end of another
  pub begins : 0 < line.start → IsEnding ending text (line.start - 1)
  -- it ends the text, or the byte that ends it follows
  pub ends : line.end < length text → IsEnding ending text line.end
  -- and it holds none
  pub one : Nowhere (IsEnding ending text) line.start line.end

-- the span is the first line of the text in which a pattern occurs
pub record IsFirstWith (p : Patterns) (ending : ℕ) (text : List ℕ) (line : Span) : Type 0 where
  pub is_line : IsLine ending text line
  -- a pattern occurs in it
  pub some : (m : Occurrence) × Occurs p No text line.start line.end m
  -- whatever occurs in the text ends where it begins, or later
  pub first : (m : Occurrence) → OccursIn p (plain_search text) m → line.start ≤ m.end

-- the first line in which a pattern occurs, or none where nothing occurs
abbrev pub IsNextLine : Patterns → (ending : ℕ) → List ℕ → Option Span → Type 0
IsNextLine p ending text None = (m : Occurrence) → OccursIn p (plain_search text) m → ⊥
IsNextLine p ending text (Some line) = IsFirstWith p ending text line

-- where lines in which a pattern occurs are selected and none was, nothing occurs in a text that is not empty
abbrev pub IsNoneSelected : Patterns → Job → List ℕ → State → Type 0
IsNoneSelected p job text state =
    job.invert ≡ false → job.fit ≡ AnyPart → 0 < length text → state.selected ≡ 0 → (m : Occurrence) → OccursIn p (plain_search text) m → ⊥
