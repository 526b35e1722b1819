-- How many lines are too long, and so covered whole.
use Rattle.acredact.specs.Common.{Covering, Errors, SinkGhosts, TellsBytes, stream_lines}
use Rattle.std.specs.Prelude.{◌≡◌, ℕ, ◌+◌, ◌-◌, ◌^◌, ◌==◌, min, nat_lt, List, [], ◌∷◌, ◌++◌, Option, codes, decimal, filter, if◌then◌else◌, length}
use Rattle.secret_rules.specs.Lines.{Line}
use Rattle.acredact.specs.Deeds.{WholeText}
use Rattle.acredact.specs.Reads.{OfName}
use Rattle.acredact.specs.Messages.{numbered_line}

-- the number of such a line, behind those of patterns and rules
abbrev pub whole_number : Covering → ℕ
whole_number covering = length covering.patterns.words + length covering.rules

-- how many of some lines have more bytes than this
abbrev pub long_among : ℕ → List Line → ℕ
long_among most lines = length (filter (λ (line : Line). nat_lt most (length line.bytes)) lines)

-- a text was read to its end, and has so many lines with more bytes
abbrev pub HasLong : (most count : ℕ) → (left left' : Option (List ℕ)) → Type 0
HasLong most count left left' = WholeText (λ text. count ≡ long_among most (stream_lines text)) left left'

-- all files together, one after another, have so many
abbrev pub HaveLong : (holds : List ℕ → Option (List ℕ)) → (most : ℕ) → List (List ℕ) → ℕ → (left left' : Option (List ℕ)) → Type 0
HaveLong holds most [] count left left' = (count ≡ 0) × (left' ≡ left)
HaveLong holds most (name ∷ names) count left left' = (first : ℕ) × (rest : ℕ) × (count ≡ first + rest)
    × (between : Option (List ℕ)) × OfName holds name (HasLong most first) left between × HaveLong holds most names rest between left'

-- the line that tells how many lines were too long: none where no line was
abbrev pub too_long_line : (most count : ℕ) → List ℕ
too_long_line most count =
    numbered_line (codes ": lines of more than ") most (codes " bytes, each covered whole: " ++ (decimal count ++ codes "\n"))

-- what is told of so many: nothing where there is none
abbrev pub long_told : (most count : ℕ) → List ℕ
long_told most count = if count == 0 then [] else too_long_line most count

-- it is told how many lines of all files are too long. The count stops at the greatest number of 64 bits
pub record TellsLong {E : Type 0} (K : SinkGhosts E) (holds : List ℕ → Option (List ℕ)) (most : ℕ) (names : List (List ℕ)) (left left' : Option (List ℕ)) (errors errors' : Errors E) : Type 0 where
  pub count : ℕ
  pub have : HaveLong holds most names count left left'
  pub told : TellsBytes K errors errors' (long_told most (min count (2 ^ 64 - 1)))
