-- What is written of all that a reader gives.
use Rattle.acgrep.specs.Common.{Consumes, Patterns}
use Rattle.std.specs.Prelude.{◌++◌, ◌≡◌, Bool, IfSome, List, Option, true, ℕ}
use Rattle.acgrep.specs.Binary.{is_text, lines_by}
use Rattle.acgrep.specs.Contexts.{BeginsSearched, SearchesText}
use Rattle.acgrep.specs.Lines.{EndsLine}
use Rattle.acgrep.specs.declared.job.Job.{Job}
use Rattle.acgrep.specs.declared.job.State.{State}

-- whether bytes hold no zero byte, where that is asked
abbrev pub TextIf : Bool → List ℕ → Type 0
TextIf asked bytes = asked ≡ true → is_text bytes ≡ true

-- bytes come behind those that are there, and a front of both is searched, in which there is no zero byte where that is asked; what
-- follows it is kept. These are states, what the writer holds and what the reader has left, before and after
pub record SearchesRead (p : Patterns) (job : Job) (alone : Bool) (before after : State) (held held' left left' : Option (List ℕ)) (first kept : List ℕ) : Type 0 where
  pub came : List ℕ
  pub searched : List ℕ
  pub consumed : Consumes left left' came
  pub cut : first ++ came ≡ searched ++ kept
  pub text : TextIf alone searched
  pub searches : SearchesText p job before after held held' searched

-- the whole lines of bytes are searched, and what follows is kept
pub record SearchesWhole (p : Patterns) (job : Job) (before after : State) (old new : Option (List ℕ)) (bytes kept : List ℕ) : Type 0 where
  pub searched : List ℕ
  pub cut : bytes ≡ searched ++ kept
  pub whole : EndsLine job.style.ending searched
  pub searches : SearchesText p job before after old new searched

-- of a search that is broken off: of first lines of the bytes that are there and of those that the reader has left behind
-- them, or of the lines before the first that holds a zero byte alone, a beginning of what is told is written
pub record BeginsBehind (p : Patterns) (job : Job) (alone : Bool) (before after : State) (old new left : Option (List ℕ)) (kept : List ℕ) : Type 0 where
  pub text : List ℕ
  pub of : IfSome left (λ bytes. text ≡ kept ++ bytes)
  pub begins : BeginsSearched p job before after.selected old new (lines_by alone job.style.ending text)

-- whatever the reader has left
abbrev pub BeginsWhole : Patterns → Job → (before after : State) → (old new : Option (List ℕ)) → List ℕ → Type 0
BeginsWhole p job before after old new bytes =
    (alone : Bool) → TextIf alone bytes → (left : Option (List ℕ)) → BeginsBehind p job alone before after old new left bytes
