-- Arguments that are not UTF-8: which of them name files, and what is told of these.
use Rattle.acredact.specs.Common.{Form, OtherFailure, OutOfMemory, argument_form, concat, joined_letters, long_name, long_with, no_more, no_option}
use Rattle.std.specs.Prelude.{◌≡◌, ◌⊎◌, ℕ, ◌==◌, ◌++◌, ◌||◌, not, Bool, MatchBool, MatchOption, true, false, List, [], ◌∷◌, Option, Some, None, Result, Ok, Err, IfOk, codes, length, map, if◌then◌else◌}
use Rattle.std.specs.Str.{IsUtf8}
use Rattle.tool_parts.specs.Arguments.{texts}
use Rattle.tool_parts.specs.declared.failure.Failure.TheVariants.{Usage}
use Rattle.acredact.specs.Arguments.{Given, ReadOrLine, all_asked, by_argument, gives_pattern, gives_rules, has}
use Rattle.acredact.specs.Messages.{line_about}
use Rattle.acredact.specs.Reads.{bytes_of_names}
use Rattle.acredact.specs.declared.apart.Apart.{Apart}
use Rattle.acredact.specs.declared.apart.Told.{Told}
use Rattle.acredact.specs.declared.apart.Told.TheVariants.{Nothing, Each, EachAlone}
use Rattle.acredact.specs.declared.arguments.Expects.{Expects}
use Rattle.acredact.specs.declared.arguments.Expects.TheVariants.{Any, Value, Name}
use Rattle.acredact.specs.declared.options.Word.TheVariants.{File, Help, Output, Version}

-- what is expected behind an argument; behind one that is wrong that does not matter
abbrev pub expected_by : ReadOrLine → Expects
expected_by (Ok read) = read.next
expected_by (Err line) = Any

abbrev pub next_behind : Expects → List ℕ → Expects
next_behind expects argument = expected_by (by_argument expects argument [])

-- no option
abbrev pub is_no_option : Form → Bool
is_no_option no_more = false
is_no_option (long_name name) = false
is_no_option (long_with name value) = false
is_no_option (joined_letters letters) = false
is_no_option no_option = true

-- an argument that is not UTF-8 names a file: no option takes it for its value, and it begins as one only behind '--'
abbrev pub names_file : Expects → List ℕ → Bool
names_file Any argument = is_no_option (argument_form argument)
names_file (Value word) argument = false
names_file Name argument = true

-- behind these that are UTF-8 and these names, each of some arguments is UTF-8 or names a file: all that are, and all names, in order. Or
-- one of them is neither
abbrev pub SetsApart : Expects → List (List ℕ) → (arguments names : List (List ℕ)) → Option (List (List ℕ) × List (List ℕ)) → Type 0
SetsApart expects [] arguments names all = all ≡ Some (arguments, names)
SetsApart expects (one ∷ rest) arguments names all =
    (IsUtf8 one × SetsApart (next_behind expects one) rest (arguments ++ (one ∷ [])) names all)
    ⊎ ((IsUtf8 one → ⊥) × MatchBool (names_file expects one) (SetsApart expects rest arguments (names ++ (one ∷ [])) all) (all ≡ None))

-- so all arguments of a call were set apart
abbrev pub IsSetApart : Expects → List (List ℕ) → Apart → Type 0
IsSetApart expects given apart =
    SetsApart expects given [] [] (Some (texts apart.arguments.items, bytes_of_names apart.names.items))

-- or they were not, since memory ran out or one of them is wrong
abbrev pub IsNotApart : List (List ℕ) → OtherFailure → Type 0
IsNotApart given failure = (failure ≡ OutOfMemory) ⊎ ((failure ≡ Usage) × SetsApart Any given [] [] None)

-- an argument was put to those that are UTF-8, or to the names, or is wrong: what comes of it and of those behind it is what comes of
-- these behind what was put
abbrev pub Puts : {X : Type 0} → Expects → List ℕ → Result (Option Expects) X → (apart apart' : Apart) → Type 0
Puts expects argument result apart apart' = IfOk result (λ next. (rest : List (List ℕ)) (all : Option (List (List ℕ) × List (List ℕ)))
    → MatchOption next (all ≡ None) (λ after. SetsApart after rest (texts apart'.arguments.items) (bytes_of_names apart'.names.items) all)
    → SetsApart expects (argument ∷ rest) (texts apart.arguments.items) (bytes_of_names apart.names.items) all)

-- the line that tells that such a file cannot be opened
abbrev pub unnamed_line : List ℕ → List ℕ
unnamed_line name = line_about name (codes "its name is not UTF-8, so it cannot be opened")

abbrev pub unnamed_lines : List (List ℕ) → List ℕ
unnamed_lines names = concat (map unnamed_line names)

-- what is to be told of such files, by what else is given: where no file is read, for patterns or for what rules mark, nothing. Where no
-- other file is given, and where all files have one output, nothing else is to be done
abbrev pub told_by : List Given → (none : Bool) → Told
told_by given none =
    if none || has Help given || has Version given || not (gives_pattern given || gives_rules given) then Nothing
    else if has Output given || not (has File given) then EachAlone
    else Each

abbrev pub tells_nothing : Told → Bool
tells_nothing Nothing = true
tells_nothing Each = false
tells_nothing EachAlone = false

-- it is so of the arguments of a call
abbrev pub IsToldOf : Apart → Told → Type 0
IsToldOf apart told = (given : List Given) × (all_asked (texts apart.arguments.items) ≡ Some given)
    × (told ≡ told_by given (length apart.names.items == 0))

-- the lines of that
abbrev pub told_lines : Told → List (List ℕ) → List ℕ
told_lines told names = if tells_nothing told then [] else unnamed_lines names

-- the status of a call of which this was told, by that of its rest
abbrev pub status_behind : Told → ℕ → ℕ
status_behind Nothing status = status
status_behind Each status = 2
status_behind EachAlone status = 2
