-- What the arguments, those after the program's name, say.
use Rattle.acgrep.specs.Common.{LeftmostLongest, is_ascii_digit}
use Rattle.std.specs.Prelude.{◌&&◌, ◌++◌, ◌==◌, ◌^◌, ◌||◌, ◌∷◌, ◌≡◌, Bool, IfErr, IfOk, List, None, OnOk, Option, Result, Some, [], codes, false, if◌then◌else◌, is_some, length, map, nat_lt, not, option_and_then, option_map, true, unwrap_or, ℕ}
use Rattle.std.specs.Str.{all_ascii_digits}
use Rattle.std.specs.Str.Parse.{digits_value}
use Rattle.tool_parts.specs.ArgumentForms.{Form, argument_form, joined_letters, long_name, long_with, no_more, no_option}
use Rattle.tool_parts.specs.Arguments.{kind_by}
use Rattle.acgrep.specs.Actions.{binary_named, color_named, devices_named, folders_named}
use Rattle.acgrep.specs.Formats.{format_pieces}
use Rattle.acgrep.specs.Long.{option_by}
use Rattle.acgrep.specs.Rules.{RuleSaid, rules_said, without_slashes}
use Rattle.acgrep.specs.declared.arguments.Awaited.{Awaited}
use Rattle.acgrep.specs.declared.arguments.Awaited.TheVariants.{Argument, Fresh, Operands}
use Rattle.acgrep.specs.declared.arguments.Given.{Given}
use Rattle.acgrep.specs.declared.wrong.Refusal.{Refusal}
use Rattle.acgrep.specs.declared.wrong.Refusal.TheVariants.{OutOfMemory, Wrong}
use Rattle.acgrep.specs.declared.arguments.Source.{Source}
use Rattle.acgrep.specs.declared.arguments.Source.TheVariants.{File, Text}
use Rattle.acgrep.specs.declared.format.Piece.{Piece}
use Rattle.acgrep.specs.declared.long.Long.{Long}
use Rattle.acgrep.specs.declared.long.Long.TheVariants.{Plain, Takes, When}
use Rattle.acgrep.specs.declared.all_options.Valued.{Valued}
use Rattle.acgrep.specs.declared.all_options.Valued.TheVariants.{After, Around, Before, BinaryFiles, Devices, Excluded, ExcludedFolder, ExcludedFrom, FirstLine, Folders, Format, Included, Kind, Label, LineLimit, MaxCount, Offset, PatternFile, Regexp, RuleFile, Separator}
use Rattle.acgrep.specs.declared.options.Color.{Color}
use Rattle.acgrep.specs.declared.options.Color.TheVariants.{Auto, Never}
use Rattle.acgrep.specs.declared.options.Context.{Context}
use Rattle.acgrep.specs.declared.options.Fit.{Fit}
use Rattle.acgrep.specs.declared.options.Fit.TheVariants.{AnyPart, WholeLine, WholeWord}
use Rattle.acgrep.specs.declared.options.Flags.{Flags}
use Rattle.acgrep.specs.declared.options.Shown.{Shown}
use Rattle.acgrep.specs.declared.options.Shown.TheVariants.{Count, Lacking, Lines, Matches, Names, Nothing, Objects}
use Rattle.acgrep.specs.declared.all_options.Switch.{Switch}
use Rattle.acgrep.specs.declared.all_options.Switch.TheVariants.{Binary, Counts, Follow, Help, IgnoreCase, InitialTab, Invert, Json, MatchCase, NoMatchOk, NoMessages, NoName, NoSeparator, NullData, NullNames, Numbers, Offsets, OnlyLacking, OnlyMatching, OnlyNames, Quiet, ReadDevices, ReadFolders, Recursive, Same, SkipDevices, SkipFolders, Tallies, Text, TextAlone, Version, WholeLines, WholeWords, WithName}
use Rattle.acgrep.specs.declared.rules.Sense.{Sense}
use Rattle.acgrep.specs.declared.rules.Sense.TheVariants.{Exclude, ExcludeFolder, ExcludeFrom, Include}
use Rattle.acgrep.specs.declared.walk.Ways.{Ways}

-- where patterns come from: a text, or the file of a name
pub record Origin : Type 0 where
  pub is_file : Bool
  pub bytes : List ℕ

-- each option, the patterns in order, and what is no option; what stands between lines that do not follow one another, how standard
-- input is called, the format of matches, the rules of which files are searched, and the files of rules that mark lines
pub record Said : Type 0 where
  pub flags : Flags
  pub sources : List Origin
  pub operands : List (List ℕ)
  pub separator : List ℕ
  pub label : List ℕ
  pub format : List Piece
  pub rules : List RuleSaid
  pub rule_files : List (List ℕ)

abbrev pub origin_of : Source → Origin
origin_of (Text text) = record { is_file = false; bytes = text.now }
origin_of (File name) = record { is_file = true; bytes = name.now }

-- what a `Given` says
abbrev pub said : Given → Said
said given = record {
  flags = given.flags;
  sources = map origin_of given.sources.items;
  operands = map (λ operand. operand.now) given.operands.items;
  separator = given.separator.now;
  label = given.label.now;
  format = given.format.items;
  rules = rules_said given.rules.items;
  rule_files = map (λ name. name.now) given.rule_files.items;
}

-- the option of a letter that takes no argument
abbrev pub switch_by : ℕ → Option Switch
switch_by letter =
    if letter == 105 || letter == 121 then Some IgnoreCase
    else if letter == 118 then Some Invert
    else if letter == 119 then Some WholeWords
    else if letter == 120 then Some WholeLines
    else if letter == 99 then Some Counts
    else if letter == 110 then Some Numbers
    else if letter == 111 then Some OnlyMatching
    else if letter == 98 then Some Offsets
    else if letter == 108 then Some OnlyNames
    else if letter == 76 then Some OnlyLacking
    else if letter == 114 then Some Recursive
    else if letter == 82 then Some Follow
    else if letter == 90 then Some NullNames
    else if letter == 122 then Some NullData
    else if letter == 84 then Some InitialTab
    else if letter == 113 then Some Quiet
    else if letter == 115 then Some NoMessages
    else if letter == 104 then Some NoName
    else if letter == 72 then Some WithName
    else if letter == 86 then Some Version
    else if letter == 97 then Some Text
    else if letter == 73 then Some TextAlone
    else if letter == 70 || (letter == 85 || letter == 117) then Some Same
    else None

-- what such an option changes; of `-h` and `-H` the last counts, of `-l` and `-L`, of `-i` and `--no-ignore-case`, of `-r` and `-d`, and
-- of `-a`, `-I` and `--binary-files`
abbrev pub switched : Switch → Flags → Flags
switched IgnoreCase flags = record flags { ignore_case = true }
switched MatchCase flags = record flags { ignore_case = false }
switched Invert flags = record flags { invert = true }
switched WholeWords flags = record flags { word = true }
switched WholeLines flags = record flags { whole = true }
switched Counts flags = record flags { count = true }
switched Tallies flags = record flags { tallied = true }
switched Numbers flags = record flags { number = true }
switched OnlyMatching flags = record flags { only_matching = true }
switched Offsets flags = record flags { offset = true }
switched OnlyNames flags = record flags { names = true; lacking = false }
switched OnlyLacking flags = record flags { names = false; lacking = true }
switched Recursive flags = record flags { recursive = true; skips_folders = false }
switched Follow flags = record flags { recursive = true; follow = true; skips_folders = false }
switched NullNames flags = record flags { null = true }
switched NullData flags = record flags { null_data = true }
switched Quiet flags = record flags { quiet = true }
switched NoSeparator flags = record flags { joined = true }
switched InitialTab flags = record flags { tab = true }
switched Json flags = record flags { json = true }
switched NoName flags = record flags { with_name = Some false }
switched WithName flags = record flags { with_name = Some true }
switched NoMatchOk flags = record flags { no_match_ok = true }
switched NoMessages flags = record flags { no_messages = true }
switched Help flags = record flags { help = true }
switched Version flags = record flags { version = true }
switched Text flags = record flags { text = true; text_alone = false }
switched TextAlone flags = record flags { text = false; text_alone = true }
switched Binary flags = record flags { text = false; text_alone = false }
switched ReadFolders flags = record flags { recursive = false; skips_folders = false }
switched SkipFolders flags = record flags { recursive = false; skips_folders = true }
switched ReadDevices flags = record flags { devices = Some true }
switched SkipDevices flags = record flags { devices = Some false }
switched Same flags = flags

-- whether this is a number below 2^64 in decimal: one digit or more, and nothing else
abbrev pub is_number : List ℕ → Bool
is_number digits = all_ascii_digits digits && (nat_lt 0 (length digits) && nat_lt (digits_value 10 digits) (2 ^ 64))

-- that number
abbrev pub number_by : List ℕ → Option ℕ
number_by digits = if is_number digits then Some (digits_value 10 digits) else None

-- what was said, and what an argument waits for
pub record ReadSoFar : Type 0 where
  pub awaits : Awaited
  pub said : Said

-- this was said, and that is waited for
abbrev pub so_far : Awaited → Given → ReadSoFar
so_far awaits given = record { awaits = awaits; said = said given }

abbrev pub with_operand : List ℕ → Said → Said
with_operand operand s = record s { operands = s.operands ++ (operand ∷ []) }

-- an option may follow
abbrev pub said_so : Said → ReadSoFar
said_so s = record { awaits = Fresh; said = s }

-- the argument of `-e` is a text, and that of `-f` a file's name
abbrev pub with_source : Bool → List ℕ → Said → Said
with_source is_file argument s = record s { sources = s.sources ++ (record { is_file = is_file; bytes = argument } ∷ []) }

-- the option that gives patterns, or a file of them
abbrev pub source_option : Bool → Valued
source_option false = Regexp
source_option true = PatternFile

-- its argument stands behind its letter, or is the next one
abbrev pub taken_by : Bool → List ℕ → Said → ReadSoFar
taken_by is_file [] s = record { awaits = Argument (source_option is_file); said = s }
taken_by is_file (first ∷ rest) s = said_so (with_source is_file (first ∷ rest) s)

-- what an option with a number changes
abbrev pub numbered_in : Valued → ℕ → Flags → Flags
numbered_in Offset number flags = record flags { first = number }
numbered_in FirstLine number flags = record flags { first_line = number }
numbered_in MaxCount number flags = record flags { most = Some number }
numbered_in After number flags = record flags { after = Some number }
numbered_in Before number flags = record flags { before = Some number }
numbered_in Around number flags = record flags { context = Some number }
numbered_in LineLimit number flags = record flags { longest = Some number }
numbered_in _ number flags = flags

abbrev pub with_number : Valued → ℕ → Said → Said
with_number valued number s = record s { flags = numbered_in valued number s.flags }

abbrev pub number_value : Valued → List ℕ → Said → Option ReadSoFar
number_value valued argument s = option_map (λ number. said_so (with_number valued number s)) (number_by argument)

-- what stands between lines that do not follow one another, and that it does
abbrev pub with_separator : List ℕ → Said → Said
with_separator argument s = record s { flags = record s.flags { joined = false }; separator = argument }

-- each match is written by these pieces
abbrev pub with_pieces : Said → List Piece → Said
with_pieces s pieces = record s { flags = record s.flags { formatted = true }; format = pieces }

abbrev pub with_format : List ℕ → Said → Option Said
with_format argument s = option_map (λ pieces. with_pieces s pieces) (format_pieces argument)

-- a rule more of which files are searched, or a file of such rules
abbrev pub with_rule : Sense → List ℕ → Said → Said
with_rule sense glob s = record s { rules = s.rules ++ (record { sense = sense; glob = glob } ∷ []) }

-- a file more of rules that mark lines
abbrev pub with_rule_file : List ℕ → Said → Said
with_rule_file name s = record s { flags = record s.flags { by_rules = true }; rule_files = s.rule_files ++ (name ∷ []) }

-- what an argument names, if it names something
abbrev pub with_switch : Option Switch → Said → Option Said
with_switch named s = option_map (λ switch. record s { flags = switched switch s.flags }) named

-- what is done with folders that are operands, with devices, and with lines from the first on that holds a zero byte
abbrev pub with_folders : List ℕ → Said → Option Said
with_folders argument s = option_map (λ switch. record s { flags = switched switch s.flags }) (folders_named argument)

abbrev pub with_devices : List ℕ → Said → Option Said
with_devices argument s = option_map (λ switch. record s { flags = switched switch s.flags }) (devices_named argument)

abbrev pub with_binary : List ℕ → Said → Option Said
with_binary argument s = option_map (λ switch. record s { flags = switched switch s.flags }) (binary_named argument)

-- the argument of an option; that of `--exclude-dir` has no slashes at its end
abbrev pub value_by : Valued → List ℕ → Said → Option ReadSoFar
value_by Regexp argument s = Some (said_so (with_source false argument s))
value_by PatternFile argument s = Some (said_so (with_source true argument s))
value_by Kind argument s = option_map (λ kind. said_so (record s { flags = record s.flags { kind = kind } })) (kind_by argument)
value_by Offset argument s = number_value Offset argument s
value_by FirstLine argument s = number_value FirstLine argument s
value_by MaxCount argument s = number_value MaxCount argument s
value_by After argument s = number_value After argument s
value_by Before argument s = number_value Before argument s
value_by Around argument s = number_value Around argument s
value_by Separator argument s = Some (said_so (with_separator argument s))
value_by Label argument s = Some (said_so (record s { label = argument }))
value_by Format argument s = option_map said_so (with_format argument s)
value_by Included argument s = Some (said_so (with_rule Include argument s))
value_by Excluded argument s = Some (said_so (with_rule Exclude argument s))
value_by ExcludedFrom argument s = Some (said_so (with_rule ExcludeFrom argument s))
value_by ExcludedFolder argument s = Some (said_so (with_rule ExcludeFolder (without_slashes argument) s))
value_by Folders argument s = option_map said_so (with_folders argument s)
value_by Devices argument s = option_map said_so (with_devices argument s)
value_by BinaryFiles argument s = option_map said_so (with_binary argument s)
value_by RuleFile argument s = Some (said_so (with_rule_file argument s))
value_by LineLimit argument s = number_value LineLimit argument s

-- the option of a letter that takes an argument, but for those that give patterns
abbrev pub valued_letter : ℕ → Option Valued
valued_letter letter =
    if letter == 109 then Some MaxCount
    else if letter == 65 then Some After
    else if letter == 66 then Some Before
    else if letter == 67 then Some Around
    else if letter == 100 then Some Folders
    else if letter == 68 then Some Devices
    else None

-- that argument stands behind its letter too
abbrev pub behind_by : Valued → List ℕ → Said → Option ReadSoFar
behind_by valued (first ∷ rest) s = value_by valued (first ∷ rest) s
behind_by valued [] s = Some (record { awaits = Argument valued; said = s })

-- digits among joined letters are the number of `-C`
abbrev pub with_digits : List ℕ → Said → Option Said
with_digits [] s = Some s
with_digits (digit ∷ digits) s = option_map (λ number. with_number Around number s) (number_by (digit ∷ digits))

-- a letter that gives no patterns, and those behind it
abbrev pub valued_or : Option Valued → ℕ → List ℕ → (Said → Option ReadSoFar) → Said → Option ReadSoFar
valued_or (Some valued) letter rest follow s = behind_by valued rest s
valued_or None letter rest follow s = option_and_then (λ switch. follow (record s { flags = switched switch s.flags })) (switch_by letter)

-- one that is no digit
abbrev pub letter_by : ℕ → List ℕ → (Said → Option ReadSoFar) → Said → Option ReadSoFar
letter_by letter rest follow s =
    if letter == 101 || letter == 102 then Some (taken_by (letter == 102) rest s)
    else valued_or (valued_letter letter) letter rest follow s

-- joined letters behind some digits
abbrev pub letters_from : List ℕ → List ℕ → Said → Option ReadSoFar
letters_from digits [] s = option_map said_so (with_digits digits s)
letters_from digits (letter ∷ rest) s =
    if is_ascii_digit letter then letters_from (digits ++ (letter ∷ [])) rest s
    else option_and_then (letter_by letter rest (letters_from [] rest)) (with_digits digits s)

abbrev pub letters_by : List ℕ → Said → Option ReadSoFar
letters_by letters s = letters_from [] letters s

-- when matches are coloured
abbrev pub with_color : Color → Said → ReadSoFar
with_color color s = said_so (record s { flags = record s.flags { color = color } })

abbrev pub color_by : List ℕ → Said → Option ReadSoFar
color_by argument s = option_map (λ color. with_color color s) (color_named argument)

-- what a long name turns on, or what it waits for
abbrev pub turned_by : Long → Said → ReadSoFar
turned_by (Plain switch) s = said_so (record s { flags = switched switch s.flags })
turned_by (Takes valued) s = record { awaits = Argument valued; said = s }
turned_by When s = with_color Auto s

-- a long name without an argument
abbrev pub named_by : List ℕ → Said → Option ReadSoFar
named_by name s = option_map (λ long. turned_by long s) (option_by name)

-- one with an argument behind an equals sign, which an option has to take
abbrev pub valued_by : Long → List ℕ → Said → Option ReadSoFar
valued_by (Plain switch) value s = None
valued_by (Takes valued) value s = value_by valued value s
valued_by When value s = color_by value s

abbrev pub joined_by : (name value : List ℕ) → Said → Option ReadSoFar
joined_by name value s = option_and_then (λ long. valued_by long value s) (option_by name)

-- an argument that stands where an option may, by what it is
abbrev pub form_read : Form → List ℕ → Said → Option ReadSoFar
form_read no_more argument s = Some (record { awaits = Operands; said = s })
form_read (long_name name) argument s = named_by name s
form_read (long_with name value) argument s = joined_by name value s
form_read (joined_letters letters) argument s = letters_by letters s
form_read no_option argument s = Some (said_so (with_operand argument s))

abbrev pub fresh_by : List ℕ → Said → Option ReadSoFar
fresh_by argument s = form_read (argument_form argument) argument s

-- an argument, by what the one before waits for
abbrev pub argument_by : Awaited → List ℕ → Said → Option ReadSoFar
argument_by Fresh argument s = fresh_by argument s
argument_by (Argument valued) argument s = value_by valued argument s
argument_by Operands argument s = Some (record { awaits = Operands; said = with_operand argument s })

-- no option may wait for its argument at the end
abbrev pub ended_by : Awaited → Said → Option Said
ended_by (Argument valued) s = None
ended_by _ s = Some s

-- one argument after another
abbrev pub arguments_by : Awaited → List (List ℕ) → Said → Option Said
arguments_by awaited [] s = ended_by awaited s
arguments_by awaited (first ∷ rest) s =
    option_and_then (λ read. arguments_by read.awaits rest read.said) (argument_by awaited first s)

-- where no option is given the longest of the leftmost matches is found, and nothing is coloured
abbrev pub no_flags : Flags
no_flags = record {
  ignore_case = false;
  invert = false;
  word = false;
  whole = false;
  count = false;
  tallied = false;
  number = false;
  only_matching = false;
  offset = false;
  names = false;
  lacking = false;
  recursive = false;
  follow = false;
  skips_folders = false;
  devices = None;
  null = false;
  null_data = false;
  quiet = false;
  after = None;
  before = None;
  context = None;
  joined = false;
  tab = false;
  json = false;
  formatted = false;
  with_name = None;
  color = Never;
  kind = LeftmostLongest;
  first = 0;
  first_line = 1;
  no_match_ok = false;
  no_messages = false;
  most = None;
  text = false;
  text_alone = false;
  by_rules = false;
  longest = None;
  help = false;
  version = false;
}

abbrev pub nothing_said : Said
nothing_said = record { flags = no_flags; sources = []; operands = []; separator = codes "--"; label = codes "(standard input)"; format = []; rules = []; rule_files = [] }

-- what all arguments say: nothing where they are wrong
abbrev pub said_by : List (List ℕ) → Option Said
said_by arguments = arguments_by Fresh arguments nothing_said

-- a refusal tells that the arguments are wrong, or that memory ran out
abbrev pub AreRefused : {A : Type 0} → Option A → Refusal → Type 0
AreRefused outcome (Wrong wrong) = outcome ≡ None
AreRefused outcome OutOfMemory = Unit {0}

-- what is written of a file: of several options `-q` goes first, then `-l` or `-L`, `-c`, `--counts`, `--format` and `--json`, and `-o`
abbrev pub shown_by : Flags → Shown
shown_by flags =
    if flags.quiet then Nothing
    else if flags.names then Names
    else if flags.lacking then Lacking
    else if flags.count then Count
    else if flags.tallied || (flags.json || flags.formatted) then Objects
    else if flags.only_matching then Matches
    else Lines

-- the byte that ends a line
abbrev pub ending_by : Flags → ℕ
ending_by flags = if flags.null_data then 0 else 10

-- whether the matches of each pattern are counted
abbrev pub asks_counts : Flags → Bool
asks_counts flags = flags.tallied && not (flags.quiet || (flags.names || (flags.lacking || flags.count)))

-- how many lines are written around selected ones, where that is asked for: of `-A` and `-C` the former goes first, and of `-B`
-- and `-C`
abbrev pub around_asked : Flags → Context
around_asked flags = record {
  before = unwrap_or flags.before (unwrap_or flags.context 0);
  after = unwrap_or flags.after (unwrap_or flags.context 0);
  parted = not flags.joined;
}

abbrev pub context_by : Flags → Option Context
context_by flags = if is_some flags.before || (is_some flags.after || is_some flags.context) then Some (around_asked flags) else None

-- what is done with links, folders and devices
abbrev pub ways_by : Flags → Ways
ways_by flags = record { follow = flags.follow; skips_folders = flags.skips_folders; devices = flags.devices }

-- what a match has to be: of `-w` and `-x` the latter goes first
abbrev pub fit_by : Flags → Fit
fit_by flags = if flags.whole then WholeLine else if flags.word then WholeWord else AnyPart

-- where it fails the arguments are wrong by this, or memory ran out
abbrev pub FailsBy : {A T : Type 0} → Option A → Result T Refusal → Type 0
FailsBy outcome result = IfErr result (AreRefused outcome)

-- where it does not fail arguments were read by this
abbrev pub ReadsBy : {E : Type 0} → (Said → Option ReadSoFar) → Given → Given → Result Awaited E → Type 0
ReadsBy reads old new result = IfOk result (λ awaited. reads (said old) ≡ Some (so_far awaited new))

-- where it does not fail this was said more
abbrev pub SaysMore : {T E : Type 0} → (Said → Said) → Given → Given → Result T E → Type 0
SaysMore more old new result = OnOk result (said new ≡ more (said old))
