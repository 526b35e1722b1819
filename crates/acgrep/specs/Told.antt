-- What is told on standard error.
use Rattle.acgrep.specs.Common.{Errors, SinkGhosts}
use Rattle.std.specs.List.{concat}
use Rattle.std.specs.Prelude.{◌++◌, ◌<◌, ◌∷◌, ◌≡◌, ◌⊎◌, Bool, IfSome, List, MatchBool, None, Option, Some, [], codes, false, if◌then◌else◌, map, true, ℕ}
use Rattle.std.specs.Str.{is_utf8}
use Rattle.aho_core.specs.Texts.{build_error_text, match_error_text}
use Rattle.aho_core.specs.declared.error.BuildError.{BuildError}
use Rattle.aho_core.specs.declared.error.MatchErrorKind.{MatchErrorKind}
use Rattle.tool_parts.specs.Messages.{Message, message_by, reason_text}
use Rattle.tool_parts.specs.Misuses.{text_before, text_behind}
use Rattle.tool_parts.specs.Names.{IsOneOf, or_input}
use Rattle.tool_parts.specs.Telling.{Tells, TellsBytes, TellsSome}
use Rattle.tool_parts.specs.declared.options.misuse.Misuse.{Misuse}
use Rattle.tool_parts.specs.declared.options.misuse.Misuse.TheVariants.{NoArgument as Unargued, NotFound as NoName, TakesNone as Argued, UnknownLetter as NoLetter}
use Rattle.tool_parts.specs.declared.reason.Reason.{Reason}
use Rattle.acgrep.specs.Arguments.{Origin, Said, shown_by}
use Rattle.acgrep.specs.Files.{shown_name}
use Rattle.acgrep.specs.Folders.{Known, Tree}
use Rattle.acgrep.specs.Formats.{unknown_in}
use Rattle.acgrep.specs.Rules.{RuleSaid, is_from_file}
use Rattle.acgrep.specs.Runs.{AfterRules, AreReached, IsByPatterns, names_by, origins_of, sources_by}
use Rattle.acgrep.specs.declared.arguments.Source.{Source}
use Rattle.acgrep.specs.declared.wrong.Wrong.{Wrong}
use Rattle.acgrep.specs.declared.wrong.Wrong.TheVariants.{NoArgument, NoNumber, NoPattern, NotFound, TakesNone, UnknownBinary, UnknownColor, UnknownDevices, UnknownField, UnknownFolders, UnknownKind, UnknownLetter}
use Rattle.acgrep.specs.declared.failure.Obstacle.{Obstacle}
use Rattle.acgrep.specs.declared.failure.Obstacle.TheVariants.{Closed, Fault, Loop, Output}
use Rattle.acgrep.specs.declared.files.Outcome.{Outcome}
use Rattle.acgrep.specs.declared.files.Outcome.TheVariants.{Searched, Stopped, Unread}
use Rattle.acgrep.specs.declared.all_options.Valued.{Valued}
use Rattle.acgrep.specs.declared.all_options.Valued.TheVariants.{After, Around, Before, BinaryFiles, Devices, Excluded, ExcludedFolder, ExcludedFrom, FirstLine, Folders, Format, Included, Kind, Label, LineLimit, MaxCount, Offset, PatternFile, Regexp, RuleFile, Separator}
use Rattle.acgrep.specs.declared.options.Shown.{Shown}
use Rattle.acgrep.specs.declared.options.Shown.TheVariants.{Nothing}

-- what a message may tell of beside a file
abbrev pub others_told : List (List ℕ)
others_told = codes "write error" ∷ codes "search" ∷ codes "patterns" ∷ codes "pattern" ∷ []

-- what is told of a folder that stands in itself
abbrev pub loop_text : List ℕ
loop_text = codes "warning: recursive directory loop"

-- and of a file to which the output goes
abbrev pub output_text : List ℕ
output_text = codes "input file is also the output"

-- what is told of a pattern that holds a zero byte where that ends a line
abbrev pub zero_text : List ℕ
zero_text = codes "the pattern holds a zero byte, which ends a line under -z"

-- and of one whose name is not UTF-8
abbrev pub no_text_text : List ℕ
no_text_text = codes "its name is not UTF-8, so it cannot be opened"

-- why a file of this name is not searched, as it is told
abbrev pub obstacle_text : List ℕ → Obstacle → List ℕ
obstacle_text name Output = output_text
obstacle_text name Loop = loop_text
obstacle_text name (Closed reason) = if is_utf8 name then reason_text reason else no_text_text
obstacle_text name (Fault reason) = reason_text reason

abbrev pub obstacle_line : List ℕ → Obstacle → List ℕ
obstacle_line name why = message_by (codes "acgrep") (record { name = Some name; line = None; cause = obstacle_text name why })

-- its name is why, and it is told only where that is so
abbrev pub IsUnopened : Option (List ℕ) → List ℕ → Type 0
IsUnopened None cause = ⊥
IsUnopened (Some name) cause = (is_utf8 name ≡ false) × (cause ≡ no_text_text)

-- a call of the system failed, the patterns or the search were refused, a folder stands in itself, a file is the output, or a pattern
-- holds a zero byte
abbrev pub IsToldCause : List ℕ → Type 0
IsToldCause cause = ((reason : Reason) × (cause ≡ reason_text reason))
    ⊎ (((error : BuildError) × (cause ≡ build_error_text error)) ⊎ (((error : MatchErrorKind) × (cause ≡ match_error_text error))
    ⊎ ((cause ≡ loop_text) ⊎ ((cause ≡ output_text) ⊎ (cause ≡ zero_text)))))

-- that, or one of these files
abbrev pub MayName : List (List ℕ) → List ℕ → Type 0
MayName names name = IsOneOf name others_told ⊎ IsOneOf name names

-- a line of the program's name, a file's name, which is one of these, a line's number and a cause
pub record IsMessage (names : List (List ℕ)) (line : List ℕ) : Type 0 where
  pub message : Message
  pub name : IfSome message.name (MayName names)
  pub cause : IsToldCause message.cause ⊎ IsUnopened message.name message.cause
  pub is : line ≡ message_by (codes "acgrep") message

-- why something was not done is told
module _ {E : Type 0} (K : SinkGhosts E) where
  -- with no file
  abbrev pub TellsCause : Errors E → Errors E → Type 0
  TellsCause old new = (names : List (List ℕ)) → TellsSome K (IsMessage names) old new

  -- a status stays and nothing is told, or the output could not be written, which is told
  abbrev pub StaysOrFails : (status status' : ℕ) → Errors E → Errors E → Type 0
  StaysOrFails status status' old new = ((status' ≡ status) × (new ≡ old)) ⊎ ((status' ≡ 2) × TellsCause old new)

  -- with the file of a name
  abbrev pub TellsOfFile : List ℕ → Errors E → Errors E → Type 0
  TellsOfFile name old new = (names : List (List ℕ)) → IsOneOf name names → TellsSome K (IsMessage names) old new

  -- with what is called so: a file or something else
  abbrev pub TellsOfNamed : List ℕ → Errors E → Errors E → Type 0
  TellsOfNamed name old new = (names : List (List ℕ)) → MayName names name → TellsSome K (IsMessage names) old new

-- what a call with wrong arguments writes behind the reason
abbrev pub usage_text : List ℕ
usage_text = codes "usage: acgrep [OPTIONS] [PATTERN] [FILE..]\nTry 'acgrep --help' for more.\n"

-- how an option that takes an argument is called
abbrev pub valued_name : Valued → List ℕ
valued_name Regexp = codes "-e"
valued_name PatternFile = codes "-f"
valued_name Kind = codes "--kind"
valued_name Offset = codes "--offset"
valued_name FirstLine = codes "--first-line"
valued_name MaxCount = codes "-m"
valued_name After = codes "-A"
valued_name Before = codes "-B"
valued_name Around = codes "-C"
valued_name Separator = codes "--group-separator"
valued_name Label = codes "--label"
valued_name Format = codes "--format"
valued_name Included = codes "--include"
valued_name Excluded = codes "--exclude"
valued_name ExcludedFrom = codes "--exclude-from"
valued_name ExcludedFolder = codes "--exclude-dir"
valued_name Folders = codes "-d"
valued_name Devices = codes "-D"
valued_name BinaryFiles = codes "--binary-files"
valued_name RuleFile = codes "--rules"
valued_name LineLimit = codes "--max-line"

-- what is told of something that was given, between what stands before and behind it
abbrev pub named_parts : (before name behind : List ℕ) → List (List ℕ)
named_parts before name behind = codes "acgrep" ∷ codes ": " ∷ before ∷ name ∷ behind ∷ codes "\n" ∷ usage_text ∷ []

-- an option that is called so is misused, or one of this letter or long name
abbrev pub misuse_parts : Misuse → List ℕ → List (List ℕ)
misuse_parts misuse name = named_parts (text_before misuse) name (text_behind misuse)

-- its argument is no number
abbrev pub number_parts : (name argument : List ℕ) → List (List ℕ)
number_parts name argument =
    codes "acgrep: option '" ∷ name ∷ codes "' takes a number below 2^64, not '" ∷ argument ∷ codes "'\n" ∷ usage_text ∷ []

-- there is no such match kind, or no such time for colours
abbrev pub kind_parts : List ℕ → List (List ℕ)
kind_parts kind = codes "acgrep: option '--kind' takes first, longest or standard, not '" ∷ kind ∷ codes "'\n" ∷ usage_text ∷ []

abbrev pub color_parts : List ℕ → List (List ℕ)
color_parts time = codes "acgrep: option '--color' takes auto, always or never, not '" ∷ time ∷ codes "'\n" ∷ usage_text ∷ []

-- there is nothing like that to be done with folders, with devices, or with lines from the first on that holds a zero byte
abbrev pub folders_parts : List ℕ → List (List ℕ)
folders_parts action = codes "acgrep: option '-d' takes read, recurse or skip, not '" ∷ action ∷ codes "'\n" ∷ usage_text ∷ []

abbrev pub devices_parts : List ℕ → List (List ℕ)
devices_parts action = codes "acgrep: option '-D' takes read or skip, not '" ∷ action ∷ codes "'\n" ∷ usage_text ∷ []

abbrev pub binary_parts : List ℕ → List (List ℕ)
binary_parts type = codes "acgrep: option '--binary-files' takes binary, text or without-match, not '" ∷ type ∷ codes "'\n" ∷ usage_text ∷ []

-- there is no such field, or this format has this where a field stands
abbrev pub field_parts : List ℕ → List (List ℕ)
field_parts field = codes "acgrep: option '--format' has no field '" ∷ field ∷ codes "'\n" ∷ usage_text ∷ []

abbrev pub format_parts : List ℕ → List (List ℕ)
format_parts format = field_parts (unknown_in format)

-- why arguments are wrong, and how to get help
abbrev pub wrong_parts : Wrong → List (List ℕ)
wrong_parts NoPattern = codes "acgrep: no pattern is given\n" ∷ usage_text ∷ []
wrong_parts (UnknownLetter letter) = misuse_parts NoLetter (letter ∷ [])
wrong_parts (NotFound why name) = misuse_parts (NoName why) name.now
wrong_parts (NoArgument valued) = misuse_parts Unargued (valued_name valued)
wrong_parts (TakesNone name) = misuse_parts Argued name.now
wrong_parts (UnknownKind name) = kind_parts name.now
wrong_parts (UnknownColor name) = color_parts name.now
wrong_parts (UnknownFolders action) = folders_parts action.now
wrong_parts (UnknownDevices action) = devices_parts action.now
wrong_parts (UnknownBinary name) = binary_parts name.now
wrong_parts (UnknownField field) = field_parts field.now
wrong_parts (NoNumber valued number) = number_parts (valued_name valued) number.now

-- right arguments may lack a pattern, and nothing else is told of them; it names none of them
abbrev pub IsUsage : List ℕ → Type 0
IsUsage line = line ≡ concat (wrong_parts NoPattern)

-- the files of patterns and those that are searched, as they are told; a pattern among the arguments stands there too
abbrev pub source_names : List Origin → List (List ℕ)
source_names sources = map (λ source. source.bytes) sources

abbrev pub shown_names : List ℕ → List (List ℕ) → List (List ℕ)
shown_names label names = map (λ name. shown_name label name) names

-- none of those that are searched where nothing is told of files that cannot be read
abbrev pub files_told : Bool → List ℕ → List (List ℕ) → List (List ℕ)
files_told hushed label names = if hushed then [] else shown_names label names

abbrev pub names_told : Bool → List ℕ → List Origin → List (List ℕ) → List (List ℕ)
names_told hushed label sources names = source_names sources ++ files_told hushed label (or_input names)

-- the files of rules
abbrev pub rule_files : List RuleSaid → List (List ℕ)
rule_files [] = []
rule_files (rule ∷ rules) = if is_from_file rule.sense then rule.glob ∷ rule_files rules else rule_files rules

abbrev pub names_said : Option Said → List (List ℕ)
names_said None = []
names_said (Some said) =
    rule_files said.rules ++ names_told said.flags.no_messages said.label (sources_by said.sources said.operands) (names_by said.sources said.operands)

-- whether nothing is told of files that cannot be read
abbrev pub is_hushed : Option Said → Bool
is_hushed None = false
is_hushed (Some said) = said.flags.no_messages

-- a call by patterns, where something is
abbrev pub IsLoud : Option Said → Type 0
IsLoud given = IsByPatterns given × (is_hushed given ≡ false)

-- a line of a call may name a file that an operand names or that is below it, or what cannot be looked at or read
pub record NamesReached (tree : Tree) (given : Said) (names : List (List ℕ)) (line : List ℕ) : Type 0 where
  pub files : List (List ℕ)
  pub unread : List (List ℕ)
  pub reached : AreReached tree given names files unread
  pub message : IsMessage (if given.flags.no_messages then [] else (shown_names given.label files ++ unread)) line

-- a file that cannot be read, or nothing more can be searched
abbrev pub stopped_if : Bool → Outcome
stopped_if false = Unread
stopped_if true = Stopped

-- a line that a call may write to standard error whose arguments name these files
abbrev pub MayTell : List (List ℕ) → List ℕ → Type 0
MayTell names line = IsMessage names line ⊎ IsUsage line

-- or, where operands are looked at, such a line
abbrev pub MaySay : Tree → Said → List Origin → List (List ℕ) → List ℕ → Type 0
MaySay tree given sources names line =
    MayTell (names_told given.flags.no_messages given.label sources names) line ⊎ NamesReached tree given names line

-- the rules in files were read, and a line names what is so reached; `left` is what the input has left
abbrev pub NamesRuled : Known → (left : Option (List ℕ)) → Said → List ℕ → Type 0
NamesRuled known left given line = AfterRules known given left (λ ruled between. NamesReached known.tree ruled (names_by given.sources given.operands) line)

abbrev pub MaySaid : Known → (left : Option (List ℕ)) → Option Said → List ℕ → Type 0
MaySaid known left None line = MayTell [] line
MaySaid known left (Some said) line = MayTell (names_said (Some said)) line ⊎ NamesRuled known left said line

-- where `hushed` is so nothing is told of files that cannot be read
module _ {E : Type 0} (K : SinkGhosts E) (IsLine : List ℕ → Type 0) (hushed : Bool) where
  -- one line or more is told where a file was not searched, and else nothing
  abbrev pub TellsOutcome : Outcome → Errors E → Errors E → Type 0
  TellsOutcome (Searched any) old new = new ≡ old
  TellsOutcome Unread old new = MatchBool hushed (new ≡ old) (TellsSome K IsLine old new)
  TellsOutcome Stopped old new = TellsSome K IsLine old new

  -- one line or more is told where one of several was not, and else nothing
  abbrev pub TellsIf : Bool → Errors E → Errors E → Type 0
  TellsIf failed old new = MatchBool failed (MatchBool hushed (Tells K IsLine old new) (TellsSome K IsLine old new)) (new ≡ old)

  -- only such lines are told: none where the status tells of no error, but for files that cannot be read under `-q`, and else one or more
  pub record TellsStatus (shown : Shown) (status : ℕ) (old new : Errors E) : Type 0 where
    pub tells : Tells K IsLine old new
    pub silent : status < 2 → (shown ≡ Nothing → ⊥) → new ≡ old
    pub some : hushed ≡ false → status ≡ 2 → TellsSome K IsLine old new

module _ {E : Type 0} (K : SinkGhosts E) where
  -- why arguments are wrong
  abbrev pub TellsWrong : Wrong → Errors E → Errors E → Type 0
  TellsWrong wrong old new = TellsBytes K old new (concat (wrong_parts wrong))

  -- why patterns of these sources are not searched for
  abbrev pub TellsOfSources : List Source → Errors E → Errors E → Type 0
  TellsOfSources sources old new = TellsSome K (IsMessage (source_names (origins_of sources))) old new

  -- what is told of a file of this name by what came of it: where nothing is told of files that cannot be read, no file is named
  abbrev pub TellsOfOutcome : Bool → List ℕ → Outcome → Errors E → Errors E → Type 0
  TellsOfOutcome hushed name outcome old new =
      (names : List (List ℕ)) → (hushed ≡ false → IsOneOf name names) → TellsOutcome K (IsMessage names) hushed outcome old new

  -- and where it was read to its end
  abbrev pub TellsOfEnd : Bool → Outcome → Errors E → Errors E → Type 0
  TellsOfEnd hushed outcome old new = (names : List (List ℕ)) → TellsOutcome K (IsMessage names) hushed outcome old new

  -- what is told of files of these names by the status
  abbrev pub TellsOfFiles : Bool → List ℕ → List (List ℕ) → Shown → ℕ → Errors E → Errors E → Type 0
  TellsOfFiles hushed label names shown status old new = TellsStatus K (IsMessage (files_told hushed label names)) hushed shown status old new

  -- and of a search for the patterns of these sources
  abbrev pub TellsOfSearch : Tree → Said → List Origin → List (List ℕ) → ℕ → Errors E → Errors E → Type 0
  TellsOfSearch tree given sources names status old new =
      TellsStatus K (MaySay tree given sources names) given.flags.no_messages (shown_by given.flags) status old new

  -- and of what a search finds for the files that operands name
  abbrev pub TellsOfReached : Tree → Said → List (List ℕ) → ℕ → Errors E → Errors E → Type 0
  TellsOfReached tree given names status old new =
      TellsStatus K (MaySay tree given [] names) given.flags.no_messages (shown_by given.flags) status old new

  -- and of what was said, by rules that were read
  abbrev pub TellsOfSaid : Tree → Said → ℕ → Errors E → Errors E → Type 0
  TellsOfSaid tree given status old new =
      TellsOfSearch tree given (sources_by given.sources given.operands) (names_by given.sources given.operands) status old new

  -- why the rules in files are not read
  abbrev pub TellsOfRules : List RuleSaid → Errors E → Errors E → Type 0
  TellsOfRules rules old new = TellsSome K (IsMessage (rule_files rules)) old new

  -- and of a call whose arguments say this
  abbrev pub TellsOfCall : Known → (left : Option (List ℕ)) → Said → ℕ → Errors E → Errors E → Type 0
  TellsOfCall known left given status old new = TellsStatus K (MaySaid known left (Some given)) given.flags.no_messages (shown_by given.flags) status old new
