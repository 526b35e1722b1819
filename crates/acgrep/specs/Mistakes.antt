-- Which mistake is told of wrong arguments: the first one, in order.
use Rattle.acgrep.specs.Common.{Errors, SinkGhosts, is_ascii_digit, meant}
use Rattle.std.specs.List.{concat}
use Rattle.std.specs.Prelude.{◌++◌, ◌==◌, ◌||◌, ◌∷◌, ◌≡◌, ◌⊎◌, Err, IfErr, List, None, Ok, Option, Result, Some, [], codes, if◌then◌else◌, ℕ}
use Rattle.tool_parts.specs.ArgumentForms.{Form, argument_form, joined_letters, long_name, long_with}
use Rattle.tool_parts.specs.Messages.{message_by, reason_text}
use Rattle.tool_parts.specs.Telling.{TellsBytes}
use Rattle.tool_parts.specs.declared.options.found.NotFound.{NotFound}
use Rattle.tool_parts.specs.declared.options.misuse.Misuse.TheVariants.{NoArgument, NotFound as NoName, TakesNone, UnknownLetter}
use Rattle.tool_parts.specs.declared.reason.Reason.TheVariants.{OutOfMemory as NoMemory}
use Rattle.acgrep.specs.Arguments.{ReadSoFar, Said, argument_by, nothing_said, number_by, switch_by, valued_letter}
use Rattle.acgrep.specs.Long.{found_by, option_by}
use Rattle.acgrep.specs.Folders.{Known}
use Rattle.acgrep.specs.Told.{IsMessage, MaySaid, TellsWrong, binary_parts, color_parts, devices_parts, folders_parts, format_parts, kind_parts, misuse_parts, number_parts, valued_name, wrong_parts}
use Rattle.acgrep.specs.declared.arguments.Awaited.{Awaited}
use Rattle.acgrep.specs.declared.arguments.Awaited.TheVariants.{Argument, Fresh, Operands}
use Rattle.acgrep.specs.declared.wrong.Refusal.{Refusal}
use Rattle.acgrep.specs.declared.wrong.Refusal.TheVariants.{OutOfMemory, Wrong}
use Rattle.acgrep.specs.declared.wrong.Wrong.TheVariants.{NoPattern}
use Rattle.acgrep.specs.declared.long.Long.{Long}
use Rattle.acgrep.specs.declared.long.Long.TheVariants.{Plain, Takes, When}
use Rattle.acgrep.specs.declared.all_options.Valued.{Valued}
use Rattle.acgrep.specs.declared.all_options.Valued.TheVariants.{After, Around, Before, BinaryFiles, Devices, FirstLine, Folders, Format, Kind, LineLimit, MaxCount, Offset}

-- what is told of an argument that an option cannot have; any is a pattern, a file's name, a separator, a label or a glob
abbrev pub wrong_value : Valued → List ℕ → List (List ℕ)
wrong_value Kind argument = kind_parts argument
wrong_value Offset argument = number_parts (valued_name Offset) argument
wrong_value FirstLine argument = number_parts (valued_name FirstLine) argument
wrong_value MaxCount argument = number_parts (valued_name MaxCount) argument
wrong_value After argument = number_parts (valued_name After) argument
wrong_value Before argument = number_parts (valued_name Before) argument
wrong_value Around argument = number_parts (valued_name Around) argument
wrong_value Format argument = format_parts argument
wrong_value Folders argument = folders_parts argument
wrong_value Devices argument = devices_parts argument
wrong_value BinaryFiles argument = binary_parts argument
wrong_value LineLimit argument = number_parts (valued_name LineLimit) argument
wrong_value _ argument = []

-- of a long name that means no option
abbrev pub wrong_found : Result Long NotFound → List ℕ → List (List ℕ)
wrong_found (Ok long) name = []
wrong_found (Err why) name = misuse_parts (NoName why) name

abbrev pub wrong_name : List ℕ → List (List ℕ)
wrong_name name = wrong_found (meant (found_by name)) name

-- of a long name with an argument behind an equals sign, where its option cannot have that one
abbrev pub wrong_joined : Option Long → (name value : List ℕ) → List (List ℕ)
wrong_joined None name value = wrong_name name
wrong_joined (Some (Plain switch)) name value = misuse_parts TakesNone name
wrong_joined (Some (Takes valued)) name value = wrong_value valued value
wrong_joined (Some When) name value = color_parts value

-- the first where there is no value, and else the other
abbrev pub if_none : {A : Type 0} → Option A → List (List ℕ) → List (List ℕ) → List (List ℕ)
if_none None one other = one
if_none (Some value) one other = other

-- of what stands behind the letter of an option that takes an argument, where it is not empty
abbrev pub wrong_behind : Valued → List ℕ → List (List ℕ)
wrong_behind valued [] = []
wrong_behind valued (first ∷ rest) = wrong_value valued (first ∷ rest)

-- of digits that write no number
abbrev pub wrong_digits : List ℕ → List (List ℕ)
wrong_digits digits = number_parts (valued_name Around) digits

-- whether digits write a number, or there are none
abbrev pub digits_value_of : List ℕ → Option ℕ
digits_value_of [] = Some 0
digits_value_of (digit ∷ digits) = number_by (digit ∷ digits)

-- of a letter that gives no patterns, and those behind it
abbrev pub wrong_else : Option Valued → ℕ → List ℕ → List (List ℕ) → List (List ℕ)
wrong_else (Some valued) letter rest others = wrong_behind valued rest
wrong_else None letter rest others = if_none (switch_by letter) (misuse_parts UnknownLetter (letter ∷ [])) others

-- of a letter that is no digit, and those behind it; what stands behind that of an option with an argument is no letter
abbrev pub wrong_letter : ℕ → List ℕ → List (List ℕ) → List (List ℕ)
wrong_letter letter rest others =
    if letter == 101 || letter == 102 then [] else wrong_else (valued_letter letter) letter rest others

-- of joined letters behind some digits: of the first mistake
abbrev pub wrong_from_digits : List ℕ → List ℕ → List (List ℕ)
wrong_from_digits digits [] = if_none (digits_value_of digits) (wrong_digits digits) []
wrong_from_digits digits (letter ∷ rest) =
    if is_ascii_digit letter then wrong_from_digits (digits ++ (letter ∷ [])) rest
    else if_none (digits_value_of digits) (wrong_digits digits) (wrong_letter letter rest (wrong_from_digits [] rest))

abbrev pub wrong_letters : List ℕ → List (List ℕ)
wrong_letters letters = wrong_from_digits [] letters

-- of an argument that stands where an option may, by what it is; an operand is never wrong
abbrev pub wrong_form : Form → List (List ℕ)
wrong_form (long_name name) = wrong_name name
wrong_form (long_with name value) = wrong_joined (option_by name) name value
wrong_form (joined_letters letters) = wrong_letters letters
wrong_form _ = []

abbrev pub wrong_fresh : List ℕ → List (List ℕ)
wrong_fresh argument = wrong_form (argument_form argument)

-- of a wrong argument, by what the one before waits for
abbrev pub mistake_at : Awaited → List ℕ → List (List ℕ)
mistake_at Fresh argument = wrong_fresh argument
mistake_at (Argument valued) argument = wrong_value valued argument
mistake_at Operands argument = []

-- an option has no argument at the end
abbrev pub wrong_end : Awaited → Option (List (List ℕ))
wrong_end (Argument valued) = Some (misuse_parts NoArgument (valued_name valued))
wrong_end _ = None

-- what is told of an argument where it is wrong, and else of those behind it
abbrev pub mistake_or : List (List ℕ) → (ReadSoFar → Option (List (List ℕ))) → Option ReadSoFar → Option (List (List ℕ))
mistake_or wrong rest None = Some wrong
mistake_or wrong rest (Some read) = rest read

abbrev pub wrong_from : Awaited → List (List ℕ) → Said → Option (List (List ℕ))
wrong_from awaits [] s = wrong_end awaits
wrong_from awaits (argument ∷ rest) s = mistake_or (mistake_at awaits argument) (λ read. wrong_from read.awaits rest read.said) (argument_by awaits argument s)

-- what is told of all arguments: nothing where they are right
abbrev pub mistake_by : List (List ℕ) → Option (List (List ℕ))
mistake_by arguments = wrong_from Fresh arguments nothing_said

-- a refusal tells this, or that memory ran out
abbrev pub IsTold : List (List ℕ) → Refusal → Type 0
IsTold parts (Wrong wrong) = wrong_parts wrong ≡ parts
IsTold parts OutOfMemory = Unit {0}

-- where a call fails it tells this
abbrev pub TellsBy : {T : Type 0} → List (List ℕ) → Result T Refusal → Type 0
TellsBy parts result = IfErr result (IsTold parts)

-- a refusal tells the first mistake
abbrev pub IsFirstMistake : List (List ℕ) → Refusal → Type 0
IsFirstMistake arguments (Wrong wrong) = mistake_by arguments ≡ Some (wrong_parts wrong)
IsFirstMistake arguments OutOfMemory = Unit {0}

-- a line tells the first mistake of these arguments
abbrev pub IsMistakeLine : List (List ℕ) → List ℕ → Type 0
IsMistakeLine arguments line = (parts : List (List ℕ)) × (mistake_by arguments ≡ Some parts) × (line ≡ concat parts)

-- a line that a call with these arguments may write to standard error, by what they say: where they are wrong, their first mistake, or a
-- message that names no file
abbrev pub MayTellOf : Known → (left : Option (List ℕ)) → (arguments : List (List ℕ)) → Option Said → List ℕ → Type 0
MayTellOf known left arguments None = λ line. IsMessage [] line ⊎ IsMistakeLine arguments line
MayTellOf known left arguments (Some given) = MaySaid known left (Some given)

-- the line that memory ran out
abbrev pub memory_line : List ℕ
memory_line = message_by (codes "acgrep") (record { name = None; line = None; cause = reason_text NoMemory })

module _ {E : Type 0} (K : SinkGhosts E) where
  -- what a refusal tells is written, and nothing else
  abbrev pub TellsRefused : Refusal → Errors E → Errors E → Type 0
  TellsRefused (Wrong wrong) old new = TellsWrong K wrong old new
  TellsRefused OutOfMemory old new = TellsBytes K old new memory_line

  -- the first mistake is, or that memory ran out
  abbrev pub TellsMistake : List (List ℕ) → Errors E → Errors E → Type 0
  TellsMistake arguments old new =
      TellsBytes K old new memory_line ⊎ ((parts : List (List ℕ)) × (mistake_by arguments ≡ Some parts) × TellsBytes K old new (concat parts))

  -- that there is no pattern
  abbrev pub TellsNoPattern : Errors E → Errors E → Type 0
  TellsNoPattern old new = TellsWrong K NoPattern old new

  -- a line is told, or that memory ran out
  abbrev pub TellsUnfit : List ℕ → Errors E → Errors E → Type 0
  TellsUnfit line old new = TellsBytes K old new memory_line ⊎ TellsBytes K old new line

  -- or that memory ran out
  abbrev pub TellsLacking : Errors E → Errors E → Type 0
  TellsLacking old new = TellsBytes K old new memory_line ⊎ TellsNoPattern old new
