-- What the arguments, those after the program's name, ask for.
use Rattle.acredact.specs.Common.{Form, Standard, argument_form, bytes_eq, joined_letters, long_name, long_with, no_more, no_option}
use Rattle.std.specs.Prelude.{◌≡◌, ◌⊎◌, ℕ, ◌==◌, ◌++◌, ◌||◌, ◌&&◌, not, Bool, true, false, List, [], ◌∷◌, Option, Some, None, Result, Ok, Err, IfErr, IfOk, codes, is_some, map, option_and_then, unwrap_or, String, Vec, if◌then◌else◌}
use Rattle.std.specs.Result.{result_ok}
use Rattle.aho_core.specs.declared.search.MatchKind.{MatchKind}
use Rattle.tool_parts.specs.Arguments.{kind_by, texts}
use Rattle.tool_parts.specs.declared.options.misuse.Misuse.TheVariants.{NoArgument, TakesNone}
use Rattle.acredact.specs.Forms.{are_forms}
use Rattle.acredact.specs.Long.{word_by_name}
use Rattle.acredact.specs.LineSizes.{is_size}
use Rattle.acredact.specs.Mistakes.{letter_line, misuse_line, mistake_line, option_name, value_line, value_name}
use Rattle.acredact.specs.Values.{is_variable_name}
use Rattle.acredact.specs.declared.options.Word.{Word}
use Rattle.acredact.specs.declared.options.Word.TheVariants.{IgnoreCase, Kind, Pattern, Patterns, Table, Env, EnvFile, Whole, With, Pseudonym, Forms, AsWord, Rules, After, MaxLine, Output, InPlace, KeepMode, Overwrite, Count, Summary, Crlf, AllowEmpty, Strict, Check, Help, Version, File}
use Rattle.acredact.specs.declared.arguments.Expects.{Expects}
use Rattle.acredact.specs.declared.arguments.Expects.TheVariants.{Any, Value, Name}
use Rattle.acredact.specs.declared.destination.Destination.{Destination}
use Rattle.acredact.specs.declared.destination.Destination.TheVariants.{EachFile, NewFile, StandardOutput}
use Rattle.acredact.specs.declared.options.Aim.{Aim}
use Rattle.acredact.specs.declared.options.Aim.TheVariants.{CheckLines, CheckTexts, Explain, RedactLines, RedactTexts}
use Rattle.acredact.specs.declared.options.Item.{Item}
use Rattle.acredact.specs.declared.options.Rights.{Rights}
use Rattle.acredact.specs.declared.options.Rights.TheVariants.{Every, Mode, Shared}
use Rattle.acredact.specs.declared.mistakes.Mistake.{Mistake}
use Rattle.acredact.specs.declared.mistakes.Mistake.TheVariants.{Mixed, OutOfMemory}
use Rattle.acredact.specs.declared.mistakes.Mixture.{Mixture}
use Rattle.acredact.specs.declared.mistakes.Mixture.TheVariants.{StrictKind, PseudonymKind, PseudonymWith, PseudonymTable, FormsKind, WordsKind, WordsForms, RulesKind, RulesInPlace, RulesStrict, RightsAlone, MaxLineAlone, CountCheck, SummaryCheck, OutputCheck, InPlaceCheck, InPlaceOutput}

-- an option with its value, or a file with its name
pub record Given : Type 0 where
  pub word : Word
  pub value : List ℕ

abbrev pub given : Word → List ℕ → Given
given word value = record { word = word; value = value }

abbrev pub given_of : Item → Given
given_of item = given item.word item.value.now

abbrev pub all_given : List Item → List Given
all_given items = map given_of items

-- the options that need a value
abbrev pub takes_value : Word → Bool
takes_value word = is_some (value_name word)

-- the kind that covers each byte of each match
abbrev pub is_cover : List ℕ → Bool
is_cover name = bytes_eq name (codes "cover")

-- the values that an option can have
abbrev pub is_value_of : Word → List ℕ → Bool
is_value_of Kind value = is_cover value || is_some (kind_by value)
is_value_of Forms value = are_forms value
is_value_of Env value = is_variable_name value
is_value_of MaxLine value = is_size value
is_value_of other value = true

-- what was read, and what is expected of the next argument
pub record ItemsSoFar : Type 0 where
  pub next : Expects
  pub items : List Given

-- that, or the line that tells what is wrong
abbrev pub ReadOrLine : Type 0
ReadOrLine = Result ItemsSoFar (List ℕ)

abbrev pub items_so_far : Expects → List Given → ReadOrLine
items_so_far next items = Ok (record { next = next; items = items })

-- what follows, where nothing is wrong so far
abbrev pub if_right : {X Y : Type 0} → (X → Result Y (List ℕ)) → Result X (List ℕ) → Result Y (List ℕ)
if_right follows (Ok so_far) = follows so_far
if_right follows (Err line) = Err line

-- an item more
abbrev pub with_item : Word → List ℕ → Expects → List Given → ReadOrLine
with_item word value next items = items_so_far next (items ++ (given word value ∷ []))

-- the value of an option
abbrev pub by_value : Word → List ℕ → List Given → ReadOrLine
by_value word value items = if is_value_of word value then with_item word value Any items else Err (value_line word)

-- an option that needs a value waits for it
abbrev pub word_by : Word → List Given → ReadOrLine
word_by word items = if takes_value word then items_so_far (Value word) items else with_item word [] Any items

-- a long name without a value
abbrev pub by_name : List ℕ → List Given → ReadOrLine
by_name name items = if_right (λ word. word_by word items) (word_by_name name)

-- one with a value behind an equals sign, which the option has to take
abbrev pub by_valued : Word → (name value : List ℕ) → List Given → ReadOrLine
by_valued word name value items =
    if takes_value word then by_value word value items else Err (misuse_line TakesNone name)

abbrev pub by_joined : (name value : List ℕ) → List Given → ReadOrLine
by_joined name value items = if_right (λ word. by_valued word name value items) (word_by_name name)

-- the value of an option stands behind its letter, or is the next argument
abbrev pub by_taken : Word → List ℕ → List Given → ReadOrLine
by_taken word [] items = items_so_far (Value word) items
by_taken word (first ∷ rest) items = with_item word (first ∷ rest) Any items

-- joined letters: those of options without a value stand in front of that of an option with one, and behind that its value
abbrev pub by_letters : List ℕ → List Given → ReadOrLine
by_letters [] items = items_so_far Any items
by_letters (letter ∷ rest) items =
    if letter == 105 then by_letters rest (items ++ (given IgnoreCase [] ∷ []))
    else if letter == 119 then by_letters rest (items ++ (given AsWord [] ∷ []))
    else if letter == 101 then by_taken Pattern rest items
    else if letter == 102 then by_taken Patterns rest items
    else if letter == 116 then by_taken Table rest items
    else Err (letter_line letter)

-- an argument that stands where an option may, by what it is; behind '--' there are files alone
abbrev pub by_form : Form → List ℕ → List Given → ReadOrLine
by_form no_more argument items = items_so_far Name items
by_form (long_name name) argument items = by_name name items
by_form (long_with name value) argument items = by_joined name value items
by_form (joined_letters letters) argument items = by_letters letters items
by_form no_option argument items = with_item File argument Any items

abbrev pub by_any : List ℕ → List Given → ReadOrLine
by_any argument items = by_form (argument_form argument) argument items

-- an argument, by what is expected of it
abbrev pub by_argument : Expects → List ℕ → List Given → ReadOrLine
by_argument Any argument items = by_any argument items
by_argument (Value word) argument items = by_value word argument items
by_argument Name argument items = with_item File argument Name items

-- no option may wait for its value at the end
abbrev pub items_at_end : Expects → List Given → Result (List Given) (List ℕ)
items_at_end Any items = Ok items
items_at_end (Value word) items = Err (misuse_line NoArgument (option_name word))
items_at_end Name items = Ok items

-- one argument after another
abbrev pub given_from : Expects → List (List ℕ) → List Given → Result (List Given) (List ℕ)
given_from expects [] items = items_at_end expects items
given_from expects (argument ∷ rest) items =
    if_right (λ read. given_from read.next rest read.items) (by_argument expects argument items)

-- all options and files, in order; or the line that tells the first argument that is wrong, or the value that is missing at the end
abbrev pub given_by : List (List ℕ) → Result (List Given) (List ℕ)
given_by arguments = given_from Any arguments []

-- where it does not fail an argument was read by this
abbrev pub ReadsAs : {X Z : Type 0} → (List Given → ReadOrLine) → Vec Item Z → Vec Item Z → Result Expects X → Type 0
ReadsAs reads old new result =
    IfOk result (λ next. reads (all_given old.items) ≡ items_so_far next (all_given new.items))

-- where it fails it is wrong by this, and that is told; or memory runs out
abbrev pub FailsAs : {X Z : Type 0} → (List Given → ReadOrLine) → Vec Item Z → Result X Mistake → Type 0
FailsAs reads old result =
    IfErr result (λ mistake. (mistake ≡ OutOfMemory) ⊎ (reads (all_given old.items) ≡ Err (mistake_line mistake)))

-- this option
abbrev pub is_same : Word → Word → Bool
is_same IgnoreCase IgnoreCase = true
is_same Kind Kind = true
is_same Pattern Pattern = true
is_same Rules Rules = true
is_same After After = true
is_same MaxLine MaxLine = true
is_same Patterns Patterns = true
is_same Table Table = true
is_same Env Env = true
is_same EnvFile EnvFile = true
is_same Whole Whole = true
is_same With With = true
is_same Pseudonym Pseudonym = true
is_same Forms Forms = true
is_same AsWord AsWord = true
is_same Output Output = true
is_same InPlace InPlace = true
is_same KeepMode KeepMode = true
is_same Overwrite Overwrite = true
is_same Count Count = true
is_same Summary Summary = true
is_same Crlf Crlf = true
is_same AllowEmpty AllowEmpty = true
is_same Strict Strict = true
is_same Check Check = true
is_same Help Help = true
is_same Version Version = true
is_same File File = true
is_same x y = false

-- the value of an item of this option
abbrev pub value_of : Word → Given → Option (List ℕ)
value_of word item = if is_same word item.word then Some item.value else None

-- the first of two that there is
abbrev pub or_else : Option (List ℕ) → Option (List ℕ) → Option (List ℕ)
or_else None second = second
or_else (Some x) second = Some x

-- the last value of this option
abbrev pub last_value : Word → List Given → Option (List ℕ)
last_value word [] = None
last_value word (item ∷ items) = or_else (last_value word items) (value_of word item)

-- this option is given
abbrev pub has : Word → List Given → Bool
has word items = is_some (last_value word items)

-- the file that is written in the place of standard output, where one is asked for; help and the version go to that
abbrev pub output_asked : List Given → Option (List ℕ)
output_asked items = if has Help items || has Version items then None else last_value Output items

-- whether a cover is asked for: so it is where no kind is given
abbrev pub covers_asked : List Given → Bool
covers_asked items = is_cover (unwrap_or (last_value Kind items) (codes "cover"))

-- the match kind that is searched by: for a cover all matches count, wherever they end
abbrev pub kind_asked : List Given → MatchKind
kind_asked items = unwrap_or (option_and_then kind_by (last_value Kind items)) Standard

-- whether it is asked for how often the text of each pattern is written: as lines, or in a summary
abbrev pub counts_asked : List Given → Bool
counts_asked items = has Count items || has Summary items

abbrev pub counts_given : List Item → Bool
counts_given items = counts_asked (all_given items)

-- whether words alone count: of a cover
abbrev pub words_asked : List Given → Bool
words_asked items = covers_asked items && has AsWord items

-- whether an option gives rules
abbrev pub gives_rules : List Given → Bool
gives_rules items = has Rules items || has After items

-- the rights of a new file are of one that is replaced
abbrev pub rights_mixture_of : List Given → Option Mixture
rights_mixture_of given =
    if (has KeepMode given || has Overwrite given) && not (has InPlace given || has Output given) then Some RightsAlone
    else None

-- which rights a new file gets
abbrev pub rights_asked : List Given → Rights
rights_asked given =
    if has Overwrite given then Every
    else if has KeepMode given then Mode
    else Shared

-- the options that do not go together with rules; the length of lines is that of rules
abbrev pub rules_mixture_of : List Given → Option Mixture
rules_mixture_of given =
    if not (gives_rules given) && has MaxLine given then Some MaxLineAlone
    else if gives_rules given && not (covers_asked given) then Some RulesKind
    else if gives_rules given && has InPlace given then Some RulesInPlace
    else if gives_rules given && has Strict given then Some RulesStrict
    else rights_mixture_of given

-- those of --word and --in-place
abbrev pub words_mixture_of : List Given → Option Mixture
words_mixture_of given =
    if has AsWord given && not (covers_asked given) then Some WordsKind
    else if has AsWord given && has Forms given then Some WordsForms
    else if has InPlace given && has Check given then Some InPlaceCheck
    else if has InPlace given && has Output given then Some InPlaceOutput
    else rules_mixture_of given

-- the options that do not go together, where some do not: pieces are refused of covers alone, pseudonyms are of covers and leave no
-- choice of what is written, and a check counts nothing
abbrev pub mixture_of : List Given → Option Mixture
mixture_of given =
    if has Strict given && not (covers_asked given) then Some StrictKind
    else if has Pseudonym given && not (covers_asked given) then Some PseudonymKind
    else if has Pseudonym given && has With given then Some PseudonymWith
    else if has Pseudonym given && has Table given then Some PseudonymTable
    else if has Forms given && not (covers_asked given) then Some FormsKind
    else if has Count given && has Check given then Some CountCheck
    else if has Summary given && has Check given && not (gives_rules given) then Some SummaryCheck
    else if has Output given && has Check given then Some OutputCheck
    else words_mixture_of given

-- all options and files, where they go together
abbrev pub fitting_by : Option Mixture → List Given → Option (List Given)
fitting_by None given = Some given
fitting_by (Some mixture) given = None

-- all options and files that arguments ask for; none where the arguments are wrong
abbrev pub all_asked : List (List ℕ) → Option (List Given)
all_asked arguments = option_and_then (λ given. fitting_by (mixture_of given) given) (result_ok (given_by arguments))

-- this is what is wrong with one of the arguments, or memory runs out
abbrev pub IsMistake : List (List ℕ) → Mistake → Type 0
IsMistake arguments mistake = (mistake ≡ OutOfMemory) ⊎ (given_by arguments ≡ Err (mistake_line mistake))

-- options that are right each do not go together
abbrev pub AreMixed : List (List ℕ) → Mistake → Type 0
AreMixed arguments mistake =
    (given : List Given) × (mixture : Mixture) × (given_by arguments ≡ Ok given)
    × (mixture_of given ≡ Some mixture) × (mistake ≡ Mixed mixture)

-- what is wrong with the arguments of a call: one of them, or that they do not go together
abbrev pub IsMistakeOfCall : List (List ℕ) → Mistake → Type 0
IsMistakeOfCall arguments mistake = IsMistake arguments mistake ⊎ AreMixed arguments mistake

-- what a call is to do, by whether it is a check, and whether there are rules
abbrev pub aim_by : (check rules : Bool) → Aim
aim_by false false = RedactTexts
aim_by false true = RedactLines
aim_by true false = CheckTexts
aim_by true true = CheckLines

-- where the help or the version is asked for that is written, and nothing else is done
abbrev pub aim_of : List Given → Aim
aim_of given = if has Help given || has Version given then Explain else aim_by (has Check given) (gives_rules given)

-- a redaction is asked for: no help, no version and no check; and there are no rules
abbrev pub AsksToRedact : List Given → Type 0
AsksToRedact given = aim_of given ≡ RedactTexts

-- or a check of patterns alone
abbrev pub AsksToCheck : List Given → Type 0
AsksToCheck given = aim_of given ≡ CheckTexts

-- or a redaction by rules
abbrev pub AsksForRules : List Given → Type 0
AsksForRules given = aim_of given ≡ RedactLines

-- or a check by rules
abbrev pub AsksForRulesCheck : List Given → Type 0
AsksForRulesCheck given = aim_of given ≡ CheckLines

-- a check of either kind
abbrev pub is_check : Aim → Bool
is_check CheckTexts = true
is_check CheckLines = true
is_check other = false

abbrev pub AsksAnyCheck : List Given → Type 0
AsksAnyCheck given = is_check (aim_of given) ≡ true

-- whether files are to be replaced in place
abbrev pub in_place_asked : List Given → Bool
in_place_asked given = has InPlace given && not (has Help given) && not (has Version given)

-- pieces of a cover that are not clean are to be refused, and all that occurs counts
pub record RefusesUnclean (given : List Given) : Type 0 where
  pub strict : has Strict given ≡ true
  pub covers : covers_asked given ≡ true
  pub all : words_asked given ≡ false

-- whether an option gives patterns
abbrev pub gives_pattern : List Given → Bool
gives_pattern given = has Pattern given || has Patterns given || has Table given || has Env given || has EnvFile given || has Whole given

abbrev pub GivesNoPattern : List Given → Type 0
GivesNoPattern given = gives_pattern given ≡ false

-- what holds of the options and files that are given, where the arguments are right
abbrev pub IfRight : {Z : Type 0} → List (String Z) → (List Given → Type 0) → Type 0
IfRight arguments Holds = (given : List Given) → all_asked (texts arguments) ≡ Some given → Holds given

-- where they ask for a redaction
abbrev pub IfAsked : {Z : Type 0} → List (String Z) → (List Given → Type 0) → Type 0
IfAsked arguments Holds = IfRight arguments (λ given. AsksToRedact given → Holds given)

-- or for a check
abbrev pub IfChecking : {Z : Type 0} → List (String Z) → (List Given → Type 0) → Type 0
IfChecking arguments Holds = IfRight arguments (λ given. AsksToCheck given → Holds given)

-- or for a redaction by rules
abbrev pub IfRuled : {Z : Type 0} → List (String Z) → (List Given → Type 0) → Type 0
IfRuled arguments Holds = IfRight arguments (λ given. AsksForRules given → Holds given)

-- or for a check by rules
abbrev pub IfRulesCheck : {Z : Type 0} → List (String Z) → (List Given → Type 0) → Type 0
IfRulesCheck arguments Holds = IfRight arguments (λ given. AsksForRulesCheck given → Holds given)

-- where the output of a call with these options goes: into each file itself, to a new file of a name, or to standard output
abbrev pub GoesTo : List Given → Destination → Type 0
GoesTo given EachFile = in_place_asked given ≡ true
GoesTo given (NewFile name) = (in_place_asked given ≡ false) × (output_asked given ≡ Some name.now)
GoesTo given StandardOutput = (in_place_asked given ≡ false) × (output_asked given ≡ None)

-- and with these arguments
abbrev pub IsDestination : {Z : Type 0} → List (String Z) → Destination → Type 0
IsDestination arguments destination =
    (given : List Given) × (all_asked (texts arguments) ≡ Some given) × GoesTo given destination

-- these arguments ask for a check
abbrev pub IsCheck : {Z : Type 0} → List (String Z) → Type 0
IsCheck arguments = (given : List Given) × (all_asked (texts arguments) ≡ Some given) × AsksAnyCheck given

-- what holds where they do not
abbrev pub IfNoCheck : {Z : Type 0} → List (String Z) → Type 0 → Type 0
IfNoCheck arguments Holds = (IsCheck arguments → ⊥) → Holds

-- the arguments are wrong
abbrev pub AreMistaken : {Z : Type 0} → List (String Z) → Type 0
AreMistaken arguments = all_asked (texts arguments) ≡ None
