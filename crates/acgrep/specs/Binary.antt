-- Lines that hold a zero byte: from the first of them on a file's lines are kept from a terminal, or not searched.
use Rattle.acgrep.specs.Common.{Patterns}
use Rattle.std.specs.Prelude.{◌&&◌, ◌++◌, ◌==◌, ◌||◌, ◌∷◌, ◌≡◌, Bool, List, MatchBool, [], codes, false, if◌then◌else◌, not, true, ℕ}
use Rattle.acgrep.specs.Contexts.{TellsFile}
use Rattle.acgrep.specs.Lines.{lines}
use Rattle.acgrep.specs.Written.{IsAny, IsSelected, SomeLine, is_full}
use Rattle.acgrep.specs.declared.options.Shown.{Shown}
use Rattle.acgrep.specs.declared.options.Shown.TheVariants.{Lines, Matches, Nothing}
use Rattle.acgrep.specs.declared.print.Style.{Style}
use Rattle.acgrep.specs.declared.job.Job.{Job}

-- whether bytes hold no zero byte
abbrev pub is_text : List ℕ → Bool
is_text [] = true
is_text (byte ∷ rest) = not (byte == 0) && is_text rest

-- the lines up to the first that holds one
abbrev pub text_lines : List (List ℕ) → List (List ℕ)
text_lines [] = []
text_lines (line ∷ rest) = if is_text line then line ∷ text_lines rest else []

-- that one and those behind it
abbrev pub binary_lines : List (List ℕ) → List (List ℕ)
binary_lines [] = []
binary_lines (line ∷ rest) = if is_text line then binary_lines rest else line ∷ rest

-- what is told of them in their place
abbrev pub binary_by : Style → List ℕ
binary_by style = codes "acgrep: " ++ (style.name.now ++ codes ": binary file matches\n")

-- whether lines or their matches are written
abbrev pub writes_lines : Shown → Bool
writes_lines Lines = true
writes_lines Matches = true
writes_lines _ = false

-- then they are kept from the output where that is asked for, and a zero byte does not end a line
abbrev pub is_guarded : Job → Bool
is_guarded job = writes_lines job.shown && (job.guards && not (job.style.ending == 0))

-- only the lines before the first that holds one are searched where that is asked for, and again a zero byte does not end a line
abbrev pub takes_text : Job → Bool
takes_text job = not job.guards && (job.text_alone && not (job.style.ending == 0))

abbrev pub lines_by : (text_alone : Bool) → (ending : ℕ) → List ℕ → List (List ℕ)
lines_by true ending text = text_lines (lines ending text)
lines_by false ending text = lines ending text

-- the lines of a text that are searched
abbrev pub lines_sought : Job → List ℕ → List (List ℕ)
lines_sought job text = lines_by (takes_text job) job.style.ending text

-- whether one of these lines is selected, whatever is written of it
abbrev pub seeking : Job → Job
seeking job = record job { shown = Nothing }

-- what is told of a text: its lines up to the first that holds a zero byte, and of the others whether one is selected, unless so many
-- are selected before them as are asked for; `any` says whether a line is selected
pub record TellsGuarded (p : Patterns) (job : Job) (text : List ℕ) (any : Bool) (bytes : List ℕ) : Type 0 where
  pub told : List ℕ
  pub count : ℕ
  pub tells : TellsFile p job (text_lines (lines job.style.ending text)) told count
  pub some : Bool
  pub selected : IsAny p job.fit job.invert (text_lines (lines job.style.ending text)) some
  pub more : Bool
  pub others : MatchBool (is_full job.most count) (more ≡ false) (IsAny p job.fit job.invert (binary_lines (lines job.style.ending text)) more)
  pub is_any : any ≡ (some || more)
  pub all : bytes ≡ told ++ (if more then binary_by job.style else [])

-- these are all lines without a zero byte, and of the others is told that one is selected
abbrev pub TellsBinary : Patterns → Job → List ℕ → (first : List (List ℕ)) → ℕ → Type 0
TellsBinary p job text first count =
    (first ≡ text_lines (lines job.style.ending text)) × (is_full job.most count ≡ false) × SomeLine (IsSelected p job.fit job.invert) (binary_lines (lines job.style.ending text))
