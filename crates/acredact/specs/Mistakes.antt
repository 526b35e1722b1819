-- What is wrong with arguments, as a line.
use Rattle.acredact.specs.Common.{as_shown}
use Rattle.std.specs.Prelude.{ℕ, ◌++◌, List, [], ◌∷◌, Option, Some, None, codes, unwrap_or}
use Rattle.tool_parts.specs.Misuses.{text_before, text_behind}
use Rattle.tool_parts.specs.declared.options.misuse.Misuse.{Misuse}
use Rattle.tool_parts.specs.declared.options.misuse.Misuse.TheVariants.{UnknownLetter as NoLetter, NotFound as NoName, NoArgument, TakesNone as Argued}
use Rattle.acredact.specs.Messages.{alone, told_line}
use Rattle.acredact.specs.declared.mistakes.Mistake.{Mistake}
use Rattle.acredact.specs.declared.mistakes.Mistake.TheVariants.{UnknownLetter, NotFound, NoValue, TakesNone, UnknownKind, UnknownForm, BadName, BadSize, NoPattern, Mixed, OutOfMemory}
use Rattle.acredact.specs.declared.mistakes.Mixture.{Mixture}
use Rattle.acredact.specs.declared.mistakes.Mixture.TheVariants.{StrictKind, PseudonymKind, PseudonymWith, PseudonymTable, FormsKind, WordsKind, WordsForms, RulesKind, RulesInPlace, RulesStrict, RightsAlone, MaxLineAlone, CountCheck, SummaryCheck, OutputCheck, InPlaceCheck, InPlaceOutput}
use Rattle.acredact.specs.declared.options.Word.{Word}
use Rattle.acredact.specs.declared.options.Word.TheVariants.{Kind, Pattern, Patterns, Table, Env, EnvFile, Whole, With, Pseudonym, Forms, Rules, After, MaxLine, Output}

-- what is told of options that do not go together
abbrev pub mixture_text : Mixture → List ℕ
mixture_text StrictKind = codes "--strict needs --kind cover: it promises nothing by another kind"
mixture_text PseudonymKind = codes "--pseudonym needs --kind cover: other kinds have no runs"
mixture_text PseudonymWith = codes "--pseudonym and --with do not go together: each says what is written"
mixture_text PseudonymTable = codes "--pseudonym and -t do not go together: a table says what is written"
mixture_text FormsKind = codes "--forms needs --kind cover: by other kinds a part of a form can stay"
mixture_text WordsKind = codes "--word needs --kind cover: by other kinds a match that is no word can hide one"
mixture_text WordsForms = codes "--word and --forms do not go together: a form can stand within a word"
mixture_text RulesKind = codes "--rules and --after need --kind cover: what rules mark may overlap"
mixture_text RulesInPlace = codes "--in-place does not go with --rules and --after: give --output"
mixture_text RulesStrict = codes "--strict does not go with --rules and --after: it promises nothing of what rules mark"
mixture_text RightsAlone = codes "--keep-mode and --overwrite need --in-place or --output: without them no file is replaced"
mixture_text MaxLineAlone = codes "--max-line needs --rules or --after: without them no line is kept"
mixture_text SummaryCheck = codes "--summary and --check do not go together without rules: a check counts nothing"
mixture_text OutputCheck = codes "--output and --check do not go together: a check writes nothing"
mixture_text InPlaceCheck = codes "--in-place and --check do not go together: a check writes nothing"
mixture_text InPlaceOutput = codes "--in-place and --output do not go together: each says which file is replaced"
mixture_text CountCheck = codes "--count and --check do not go together: a check counts nothing"

-- the line that tells what is wrong with something that was given
abbrev pub named_line : (before name behind : List ℕ) → List ℕ
named_line before name behind = codes "acredact" ++ (codes ": " ++ (before ++ (as_shown name ++ (behind ++ codes "\n"))))

-- an option that is called so is misused, or one of this letter or long name
abbrev pub misuse_line : Misuse → List ℕ → List ℕ
misuse_line misuse name = named_line (text_before misuse) name (text_behind misuse)

-- no option has this letter, as `-h` for help
abbrev pub letter_line : ℕ → List ℕ
letter_line letter = named_line (text_before NoLetter) (letter ∷ []) (codes "': --help lists all")

-- there is no such kind: the value is not told
abbrev pub kind_line : List ℕ
kind_line = told_line (alone (codes "option '--kind' takes cover, first, longest or standard"))

-- nor are there such forms
abbrev pub form_line : List ℕ
form_line = told_line (alone (codes "option '--forms' takes all, or some of base64,hex,url,json,xml,shell,lines, or two as json+base64"))

-- nor can a variable have such a name
abbrev pub variable_line : List ℕ
variable_line = told_line (alone (codes "option '--env' takes a name of letters, digits and '_', and at its end a star"))

-- nor is this a number of bytes
abbrev pub size_line : List ℕ
size_line = told_line (alone (codes "option '--max-line' takes a number of bytes, from 1 on"))

-- an option cannot have a value
abbrev pub value_line : Word → List ℕ
value_line Forms = form_line
value_line Env = variable_line
value_line MaxLine = size_line
value_line other = kind_line

-- how an option is called, if it needs a value
abbrev pub value_name : Word → Option (List ℕ)
value_name Kind = Some (codes "--kind")
value_name Pattern = Some (codes "-e")
value_name Patterns = Some (codes "-f")
value_name Table = Some (codes "-t")
value_name Env = Some (codes "--env")
value_name EnvFile = Some (codes "--env-file")
value_name Whole = Some (codes "--whole")
value_name With = Some (codes "--with")
value_name Pseudonym = Some (codes "--pseudonym")
value_name Forms = Some (codes "--forms")
value_name Rules = Some (codes "--rules")
value_name After = Some (codes "--after")
value_name MaxLine = Some (codes "--max-line")
value_name Output = Some (codes "--output")
value_name other = None

abbrev pub option_name : Word → List ℕ
option_name word = unwrap_or (value_name word) (codes "-e")

-- the line that tells a mistake
abbrev pub mistake_line : Mistake → List ℕ
mistake_line (UnknownLetter letter) = letter_line letter
mistake_line (NotFound why name) = misuse_line (NoName why) name.now
mistake_line (NoValue word) = misuse_line NoArgument (option_name word)
mistake_line (TakesNone name) = misuse_line Argued name.now
mistake_line UnknownKind = kind_line
mistake_line UnknownForm = form_line
mistake_line BadName = variable_line
mistake_line BadSize = size_line
mistake_line NoPattern = told_line (alone (codes "no pattern: give -e, -f, -t or --rules builtin, or --help"))
mistake_line (Mixed mixture) = told_line (alone (mixture_text mixture))
mistake_line OutOfMemory = told_line (alone (codes "out of memory"))
