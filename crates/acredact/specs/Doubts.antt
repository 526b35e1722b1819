-- Which patterns of lists may be meant otherwise than they stand there, which are too short for forms, and what is told of them.
use Rattle.acredact.specs.Common.{Errors, SinkGhosts, TellsBytes, concat, flat_map}
use Rattle.std.specs.Prelude.{◌≡◌, ◌⊎◌, ℕ, ◌-◌, ◌==◌, ◌&&◌, ◌||◌, Bool, MatchBool, true, List, [], ◌∷◌, ◌++◌, Option, Some, None, codes, get_or, map, if◌then◌else◌, length, nat_lt, slice_index}
use Rattle.acredact.specs.Arguments.{Given}
use Rattle.acredact.specs.Failures.{bad_line}
use Rattle.acredact.specs.Messages.{told_line}
use Rattle.acredact.specs.Pieces.{TellsOfPieces}
use Rattle.acredact.specs.Secrets.{Redactor}
use Rattle.acredact.specs.Short.{AreLongAsked, RefusesShortAsked, short_told}
use Rattle.acredact.specs.Tables.{Secret}
use Rattle.acredact.specs.declared.failure.Failure.{Failure}
use Rattle.acredact.specs.declared.failure.Failure.TheVariants.{Line}
use Rattle.acredact.specs.declared.patterns.BadLine.{BadLine}
use Rattle.acredact.specs.declared.patterns.LineFault.{LineFault}
use Rattle.acredact.specs.declared.patterns.LineFault.TheVariants.{Blank, Quotes}

-- a space or a TAB
abbrev pub is_blank : ℕ → Bool
is_blank byte = byte == 32 || byte == 9

-- a quote of one of three kinds
abbrev pub is_quote : ℕ → Bool
is_quote byte = byte == 34 || byte == 39 || byte == 96

abbrev pub last_of : List ℕ → ℕ
last_of text = slice_index text (length text - 1)

-- a blank stands at an end of a line, or a quote of one kind at both
abbrev pub doubt_in : List ℕ → Option LineFault
doubt_in [] = None
doubt_in (byte ∷ bytes) =
    if is_blank byte || is_blank (last_of (byte ∷ bytes)) then Some Blank
    else if nat_lt 1 (length (byte ∷ bytes)) && byte == last_of (byte ∷ bytes) && is_quote byte then Some Quotes
    else None

-- that is so of the pattern of a list
abbrev pub doubt_of : Secret → Option LineFault
doubt_of secret = if secret.line == 0 then None else doubt_in secret.pattern

abbrev pub bad_at : ℕ → LineFault → BadLine
bad_at number fault = record { number = number; fault = fault }

-- the file of the option of this number
abbrev pub list_name : List Given → ℕ → List ℕ
list_name given number = get_or (map (λ item. item.value) given) number (codes "-")

-- the line that tells it: of which file and which line, and why
abbrev pub lines_of_doubt : List ℕ → ℕ → Option LineFault → List (List ℕ)
lines_of_doubt list number None = []
lines_of_doubt list number (Some fault) = told_line (bad_line list (bad_at number fault)) ∷ []

abbrev pub doubt_lines : List Given → Secret → List (List ℕ)
doubt_lines given secret = lines_of_doubt (list_name given secret.list) secret.line (doubt_of secret)

-- those of all patterns, in order
abbrev pub list_doubt_lines : List Given → List Secret → List (List ℕ)
list_doubt_lines given secrets = flat_map (doubt_lines given) secrets

-- and those of patterns that are too short for forms
abbrev pub all_doubt_lines : List Given → List Secret → List (List ℕ)
all_doubt_lines given secrets = list_doubt_lines given secrets ++ short_told given secrets

-- the first of them: the number of the option that gives it, and its line
abbrev pub doubt_or : Secret → Option LineFault → Option (ℕ × BadLine) → Option (ℕ × BadLine)
doubt_or secret None later = later
doubt_or secret (Some fault) later = Some (secret.list, bad_at secret.line fault)

abbrev pub first_doubt : List Secret → Option (ℕ × BadLine)
first_doubt [] = None
first_doubt (secret ∷ secrets) = doubt_or secret (doubt_of secret) (first_doubt secrets)

abbrev pub AreUndoubted : List Secret → Type 0
AreUndoubted secrets = first_doubt secrets ≡ None

-- it is refused
pub record RefusesFirstDoubt (given : List Given) (secrets : List Secret) (failure : Failure) : Type 0 where
  pub list : ℕ
  pub bad : BadLine
  pub first : first_doubt secrets ≡ Some (list, bad)
  pub name : _
  pub is : failure ≡ Line name bad
  pub named : name.now ≡ list_name given list

-- or there is none, and the first that is too short for forms is
abbrev pub IsDoubtFailure : (strict : Bool) → List Given → List Secret → Failure → Type 0
IsDoubtFailure strict given secrets failure =
    (strict ≡ true) × (RefusesFirstDoubt given secrets failure ⊎ (AreUndoubted secrets × RefusesShortAsked given secrets failure))

module _ {E : Type 0} (K : SinkGhosts E) (strict : Bool) where
  -- of each it is told, but where the first is to be refused: then there is none
  abbrev pub TellsDoubts : List Given → List Secret → (errors errors' : Errors E) → Type 0
  TellsDoubts given secrets errors errors' =
      MatchBool strict ((AreUndoubted secrets × AreLongAsked given secrets) × (errors' ≡ errors)) (TellsBytes K errors errors' (concat (all_doubt_lines given secrets)))

  -- what is told before a file is read: of patterns of lists, and then of pieces
  abbrev pub TellsWarnings : List Given → List Secret → Redactor → (errors errors' : Errors E) → Type 0
  TellsWarnings given secrets r errors errors' =
      (between : Errors E) × TellsDoubts given secrets errors between × TellsOfPieces K strict r between errors'
