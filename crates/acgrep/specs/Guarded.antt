-- How lines are searched up to the first that holds a zero byte, and then those from it on.
use Rattle.acgrep.specs.Common.{IsAtEnd, Patterns}
use Rattle.std.specs.Prelude.{◌++◌, ◌==◌, ◌∷◌, ◌≡◌, ◌⊎◌, Bool, List, MatchBool, None, Option, Some, [], drop, false, take, true, ℕ}
use Rattle.acgrep.specs.Binary.{is_text}
use Rattle.acgrep.specs.Lines.{EndsLine, lines}
use Rattle.acgrep.specs.Streamed.{SearchesRead}
use Rattle.acgrep.specs.Written.{IsSettled}
use Rattle.acgrep.specs.declared.job.Job.{Job}
use Rattle.acgrep.specs.declared.job.State.{State}

-- the first of some lines holds a zero byte
abbrev pub IsFirstBinary : List (List ℕ) → Type 0
IsFirstBinary [] = ⊥
IsFirstBinary (line ∷ rest) = is_text line ≡ false

-- whatever follows these bytes, their first line does; but for where such a byte ends a line
abbrev pub BeginsBinary : (ending : ℕ) → List ℕ → Type 0
BeginsBinary ending bytes = (ending == 0) ≡ false → (more : List ℕ) → IsFirstBinary (lines ending (bytes ++ more))

-- where the first such line begins, if one does
abbrev pub IsZeroLine : (ending : ℕ) → List ℕ → Option ℕ → Type 0
IsZeroLine ending bytes None = is_text bytes ≡ true
IsZeroLine ending bytes (Some start) = (is_text (take start bytes) ≡ true) × BeginsBinary ending (drop start bytes)

-- whole lines of the bytes that were there and of what was read are searched, and these bytes are kept
pub record SearchesFront (p : Patterns) (job : Job) (alone : Bool) (before after : State) (held held' left left' : Option (List ℕ)) (first kept : List ℕ) : Type 0 where
  pub some : SearchesRead p job alone before after held held' left left' first kept
  pub whole : EndsLine job.style.ending some.searched

-- all are, or those before lines behind which nothing more is told
pub record SearchesPast (p : Patterns) (job : Job) (alone : Bool) (before after : State) (held held' left left' : Option (List ℕ)) (first : List ℕ) : Type 0 where
  pub kept : List ℕ
  pub some : SearchesRead p job alone before after held held' left left' first kept
  pub ends : ((kept ≡ []) × IsAtEnd left') ⊎ (EndsLine job.style.ending some.searched × IsSettled job after)

-- the lines up to one that holds a zero byte are searched, which is kept, or there is none
abbrev pub EndsFront : Patterns → Job → (alone : Bool) → (before after : State) → (held held' left left' : Option (List ℕ)) → (first kept : List ℕ) → Bool → Type 0
EndsFront p job alone before after held held' left left' first kept binary =
    MatchBool binary ((alone ≡ true) × SearchesFront p job alone before after held held' left left' first kept × BeginsBinary job.style.ending kept)
    (SearchesPast p job alone before after held held' left left' first)
