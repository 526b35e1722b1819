-- What a call searches for and in which files, by what its arguments say.
use Rattle.acgrep.specs.Common.{Appends, Consumes, IsAtEnd, Keeps, LeftmostLongest, Patterns, bytes_eq, is_input}
use Rattle.std.specs.Prelude.{◌%◌, ◌&&◌, ◌++◌, ◌+◌, ◌-◌, ◌==◌, ◌^◌, ◌||◌, ◌∷◌, ◌≡◌, ◌⊎◌, Bool, IfSome, List, MatchBool, None, Option, Some, Vec, [], codes, false, if◌then◌else◌, length, map, nat_lt, not, true, unwrap_or, ℕ}
use Rattle.aho_core.specs.declared.search.MatchKind.{MatchKind}
use Rattle.aho_devices.specs.Counts.{AppendsBeginning}
use Rattle.tool_parts.specs.Building.{patterns_by_kind}
use Rattle.tool_parts.specs.Names.{or_input}
use Rattle.acgrep.specs.Arguments.{Origin, Said, asks_counts, context_by, ending_by, fit_by, origin_of, said_by, shown_by, ways_by}
use Rattle.acgrep.specs.Beside.{unfit_said}
use Rattle.acgrep.specs.Binary.{is_guarded, takes_text, writes_lines}
use Rattle.acgrep.specs.Colors.{colors_by, palette_of}
use Rattle.acgrep.specs.Files.{AreFilesBegun, AreSearchedOr}
use Rattle.acgrep.specs.Folders.{AreBelow, AreChosen, Known, Tree, passes}
use Rattle.acgrep.specs.Gathered.{AllGive}
use Rattle.acgrep.specs.Lines.{lines}
use Rattle.acgrep.specs.Listed.{listed_bytes}
use Rattle.acgrep.specs.Rules.{RuleSaid, is_from_file, rules_in}
use Rattle.acgrep.specs.Tallies.{counts_table}
use Rattle.acgrep.specs.Written.{IsPassedOver}
use Rattle.acgrep.specs.declared.arguments.Source.{Source}
use Rattle.acgrep.specs.declared.colors.Screen.{Screen}
use Rattle.acgrep.specs.declared.format.Piece.{Piece}
use Rattle.acgrep.specs.declared.format.Piece.TheVariants.{PatternNumber}
use Rattle.acgrep.specs.declared.options.Color.{Color}
use Rattle.acgrep.specs.declared.options.Color.TheVariants.{Always, Auto, Never}
use Rattle.acgrep.specs.declared.options.Fit.{Fit}
use Rattle.acgrep.specs.declared.options.Fit.TheVariants.{AnyPart}
use Rattle.acgrep.specs.declared.options.Flags.{Flags}
use Rattle.acgrep.specs.declared.options.Shown.{Shown}
use Rattle.acgrep.specs.declared.options.Shown.TheVariants.{Lines, Matches, Objects}
use Rattle.acgrep.specs.declared.print.Form.{Form}
use Rattle.acgrep.specs.declared.print.Form.TheVariants.{Json, Pieces}
use Rattle.acgrep.specs.declared.print.Place.{Place}
use Rattle.acgrep.specs.declared.job.Job.{Job}
use Rattle.acgrep.specs.declared.walk.Ways.{Ways}

-- what holds of what the arguments say, where they are right
abbrev pub IfSaid : {Z : Type 0} → List (Vec ℕ Z) → (Said → Type 0) → Type 0
IfSaid arguments Holds = (given : Said) → said_by (listed_bytes arguments) ≡ Some given → Holds given

-- a search is asked for, and neither `--help` nor `--version`
pub record AsksAny (given : Said) : Type 0 where
  pub no_help : given.flags.help ≡ false
  pub no_version : given.flags.version ≡ false

-- one by patterns, or one by rules, by options that go together
pub record AsksToSearch (given : Said) : Type 0 where
  pub asks : AsksAny given
  pub fits : unfit_said given ≡ None
  pub by_patterns : given.flags.by_rules ≡ false

pub record AsksByRules (given : Said) : Type 0 where
  pub asks : AsksAny given
  pub fits : unfit_said given ≡ None
  pub by_rules : given.flags.by_rules ≡ true

-- a call that does nothing by rules, and whose options go together where they are right
abbrev pub IsByPatterns : Option Said → Type 0
IsByPatterns None = Unit {0}
IsByPatterns (Some given) = (given.flags.by_rules ≡ false) × (unfit_said given ≡ None)

-- neither an option nor an operand gives a pattern
pub record GivesNone (given : Said) : Type 0 where
  pub no_source : given.sources ≡ []
  pub no_operand : given.operands ≡ []

-- where no option gives patterns the first operand is a text of patterns
abbrev pub sources_by : List Origin → List (List ℕ) → List Origin
sources_by [] [] = []
sources_by [] (pattern ∷ names) = record { is_file = false; bytes = pattern } ∷ []
sources_by (source ∷ sources) operands = source ∷ sources

-- and the others name files
abbrev pub names_by : List Origin → List (List ℕ) → List (List ℕ)
names_by [] [] = []
names_by [] (pattern ∷ names) = names
names_by (source ∷ sources) operands = operands

-- where these patterns come from
abbrev pub origins_of : List Source → List Origin
origins_of sources = map origin_of sources

-- the text of the file of this name: all that the input had left, or what is held under the name, where that is known;
-- `left` is what the input has left
abbrev pub IsTextOf : (List ℕ → Option (List ℕ)) → List ℕ → (left left' : Option (List ℕ)) → List ℕ → Type 0
IsTextOf holds name left left' text =
    MatchBool (is_input name) (Consumes left left' text × IsAtEnd left') ((left' ≡ left) × IfSome (holds name) (λ bytes. text ≡ bytes))

-- the patterns of the file of this name are its lines
pub record AreLinesOfFile (holds : List ℕ → Option (List ℕ)) (name : List ℕ) (left left' : Option (List ℕ)) (words : List (List ℕ)) : Type 0 where
  pub text : List ℕ
  pub is : IsTextOf holds name left left' text
  pub are : words ≡ lines 10 text

-- those of a text too, of which an empty one has one
abbrev pub AreOf : (List ℕ → Option (List ℕ)) → Origin → (left left' : Option (List ℕ)) → List (List ℕ) → Type 0
AreOf holds source left left' words =
    MatchBool source.is_file (AreLinesOfFile holds source.bytes left left' words) ((left' ≡ left) × (words ≡ lines 10 (source.bytes ++ codes "\n")))

-- the patterns of all sources, one after another
abbrev pub AreWords : (List ℕ → Option (List ℕ)) → List Origin → (left left' : Option (List ℕ)) → List (List ℕ) → Type 0
AreWords holds sources left left' words = AllGive (AreOf holds) sources left left' words

-- the rules of the file of this name: each line of it is a glob of files that are not searched
pub record AreRulesOfFile (holds : List ℕ → Option (List ℕ)) (name : List ℕ) (left left' : Option (List ℕ)) (rules : List RuleSaid) : Type 0 where
  pub text : List ℕ
  pub is : IsTextOf holds name left left' text
  pub are : rules ≡ rules_in text

-- those that a rule stands for: those of its file, or itself
abbrev pub AreRulesOf : (List ℕ → Option (List ℕ)) → RuleSaid → (left left' : Option (List ℕ)) → List RuleSaid → Type 0
AreRulesOf holds rule left left' rules =
    MatchBool (is_from_file rule.sense) (AreRulesOfFile holds rule.glob left left' rules) ((left' ≡ left) × (rules ≡ rule ∷ []))

-- the rules of which files are searched: those that were said, with those of files in their places
abbrev pub AreRules : (List ℕ → Option (List ℕ)) → List RuleSaid → (left left' : Option (List ℕ)) → List RuleSaid → Type 0
AreRules holds said left left' rules = AllGive (AreRulesOf holds) said left left' rules

-- what was said, by these rules
abbrev pub ruled : Said → List RuleSaid → Said
ruled given rules = record given { rules = rules }

-- whether a word is empty
abbrev pub is_none : List ℕ → Bool
is_none [] = true
is_none (byte ∷ bytes) = false

-- whether all are
abbrev pub are_empty : List (List ℕ) → Bool
are_empty [] = true
are_empty (word ∷ words) = is_none word && are_empty words

-- whether any match is enough
abbrev pub takes_any : Fit → Bool
takes_any AnyPart = true
takes_any _ = false

-- whether no line is selected, whatever it holds: there is no pattern, or under `invert` there are empty ones alone, and they occur in
-- each line
abbrev pub selects_none : Fit → (invert : Bool) → List (List ℕ) → Bool
selects_none fit false [] = true
selects_none fit false (word ∷ words) = false
selects_none fit true [] = false
selects_none fit true (word ∷ words) = takes_any fit && are_empty (word ∷ words)

-- at most no line is asked for
abbrev pub asks_none : Option ℕ → Bool
asks_none None = false
asks_none (Some most) = most == 0

-- then no pattern is searched for, and lines without a match are not selected
abbrev pub words_sought : Flags → List (List ℕ) → List (List ℕ)
words_sought flags words = if asks_none flags.most then [] else words

abbrev pub inverts : Flags → Bool
inverts flags = flags.invert && not (asks_none flags.most)

-- where matches that stand alone or whole lines are asked for, the longest match is searched for
abbrev pub kind_sought : Flags → MatchKind
kind_sought flags = if takes_any (fit_by flags) then flags.kind else LeftmostLongest

-- whether that no line is selected is known without reading a file, and no file is to be named for it
abbrev pub knows_none : Flags → List (List ℕ) → Bool
knows_none flags words = (flags.quiet || not flags.lacking) && selects_none (fit_by flags) (inverts flags) words

-- whether what is written of a line are its matches, or shows them in colour
abbrev pub shows_finds : Shown → Bool → Bool
shows_finds Lines colored = colored
shows_finds Matches colored = true
shows_finds Objects colored = true
shows_finds _ colored = false

-- whether matches are coloured
abbrev pub is_colored : Color → Bool → Bool
is_colored Auto terminal = terminal
is_colored Always terminal = true
is_colored Never terminal = false

-- whether matches are written, or coloured
abbrev pub lists_finds : Flags → Bool → Bool
lists_finds flags terminal = shows_finds (shown_by flags) (is_colored flags.color terminal)

-- where the first line of each file stands: its number is the asked one, as many lines stand before it as one less
abbrev pub first_place : Flags → Place
first_place flags = record { lines = (flags.first_line + (2 ^ 64 - 1)) % 2 ^ 64; bytes = flags.first }

-- on a terminal lines with a zero byte are kept from the output, unless `-a`, `-I` or `-z` is given, where lines or matches are written
abbrev pub guards_by : Flags → Bool → Bool
guards_by flags terminal = writes_lines (shown_by flags) && (terminal && (not flags.text && (not flags.text_alone && not flags.null_data)))

-- under `-I` only the lines before the first with a zero byte are searched, unless `-z` is given
abbrev pub alone_by : Flags → Bool
alone_by flags = flags.text_alone && not flags.null_data

-- how a match is written with its fields: by these pieces, or as an object
abbrev pub form_said : Form → Option (List Piece)
form_said Json = None
form_said (Pieces pieces) = Some pieces.now

-- under `--counts` by the number of its pattern, which is counted then
abbrev pub form_asked : Said → Option (List Piece)
form_asked given = if given.flags.tallied then Some (PatternNumber ∷ []) else (if given.flags.formatted then Some given.format else None)

-- what is written of each file, but for its name
pub record IsJob (given : Said) (screen : Screen) (several : Bool) (job : Job) : Type 0 where
  pub shown : job.shown ≡ shown_by given.flags
  pub invert : job.invert ≡ inverts given.flags
  pub fit : job.fit ≡ fit_by given.flags
  -- where nothing is said of names they stand before the lines of several
  pub with_name : job.style.with_name ≡ unwrap_or given.flags.with_name several
  pub null : job.style.null ≡ given.flags.null
  pub number : job.style.number ≡ given.flags.number
  -- the byte that ends a line
  pub ending : job.style.ending ≡ ending_by given.flags
  pub offset : job.style.offset ≡ given.flags.offset
  pub color : job.style.color ≡ is_colored given.flags.color screen.colored
  -- of which each has the code that the environment gives it
  pub colors : palette_of job.style.colors ≡ colors_by screen.colors.now
  -- where the first line of each file stands
  pub first : job.first ≡ first_place given.flags
  -- how many lines of each are selected at most
  pub most : job.most ≡ given.flags.most
  -- whether nothing is told of those that cannot be read
  pub hushed : job.hushed ≡ given.flags.no_messages
  -- how many lines are written around selected ones
  pub context : job.context ≡ context_by given.flags
  -- with colons behind what stands before a line, and no file before the first
  pub hyphen : job.style.hyphen ≡ false
  pub follows : job.follows ≡ false
  -- whether a tab stands behind that
  pub tab : job.style.tab ≡ given.flags.tab
  -- what stands between lines that do not follow one another
  pub separator : job.style.separator.now ≡ given.separator
  -- how a match is written with its fields
  pub form : form_said job.style.form ≡ form_asked given
  -- how standard input is called
  pub label : job.label.now ≡ given.label
  -- whether lines from the first on that holds a zero byte are kept from the output
  pub guards : is_guarded job ≡ guards_by given.flags screen.terminal
  -- whether only the lines before it are searched
  pub text : takes_text job ≡ alone_by given.flags

-- whether there are rules of which files are searched
abbrev pub has_rules : List RuleSaid → Bool
has_rules [] = false
has_rules (rule ∷ rules) = true

-- whether operands are chosen: there are rules, or those of some kind are passed over
abbrev pub chooses : List RuleSaid → Ways → Bool
chooses rules ways = has_rules rules || passes ways

-- where they are not, these are the files that operands name, or standard input
abbrev pub AreNamed : Tree → List RuleSaid → Ways → (names files : List (List ℕ)) → Type 0
AreNamed tree rules ways names files = MatchBool (chooses rules ways) (AreChosen tree rules ways (or_input names) files) (files ≡ or_input names)

-- these are the files that operands name, with those below folders where that is asked for, and without those that rules leave out;
-- some names cannot be looked at or read
abbrev pub AreReached : Tree → Said → (names files unread : List (List ℕ)) → Type 0
AreReached tree given names files unread =
    MatchBool given.flags.recursive (AreBelow tree given.rules (ways_by given.flags) names files unread) (AreNamed tree given.rules (ways_by given.flags) names files × (unread ≡ []))

-- whether the only operand is the only file
abbrev pub is_alone : (names files : List (List ℕ)) → Bool
is_alone [] files = false
is_alone (name ∷ []) [] = false
is_alone (name ∷ []) (file ∷ []) = bytes_eq name file
is_alone (name ∷ []) (file ∷ other ∷ files) = false
is_alone (name ∷ second ∷ names) files = false

-- whether names stand before lines where nothing is said of that: of several operands, and of files below a folder
abbrev pub are_several : Flags → (names files : List (List ℕ)) → Bool
are_several flags names files = if flags.recursive then not (is_alone names files) else nat_lt 1 (length names)

-- where a name cannot be looked at or read the status tells of an error, unless a line is selected under `-q`
abbrev pub status_reached : Flags → List (List ℕ) → ℕ → ℕ
status_reached flags [] status = status
status_reached flags (name ∷ names) status = if flags.quiet && (status == 0) then status else 2

-- these are the files that operands name, and of them that was done, as the call says
pub record Reached (known : Known) (screen : Screen) (given : Said) (names : List (List ℕ)) (Does : Job → (files unread : List (List ℕ)) → Type 0) : Type 0 where
  pub files : List (List ℕ)
  pub unread : List (List ℕ)
  pub reached : AreReached known.tree given names files unread
  pub job : Job
  pub is_job : IsJob given screen (are_several given.flags names files) job
  pub does : Does job files unread

-- all that is asked was, and the status tells it
abbrev pub ReachesAll : Known → Screen → Said → List (List ℕ) → (Job → List (List ℕ) → ℕ → Type 0) → ℕ → Type 0
ReachesAll known screen given names Are status =
    Reached known screen given names (λ job files unread. (found : ℕ) × Are job files found × (status ≡ status_reached given.flags unread found))

-- these patterns were searched for in the files that these operands name
abbrev pub SearchesReached : Known → Screen → Said → Patterns → List (List ℕ) → (left left' held held' : Option (List ℕ)) → ℕ → Type 0
SearchesReached known screen given p names left left' held held' status =
    ReachesAll known screen given names (λ job files found. AreSearchedOr p job known.holds files left left' held held' found) status

-- of some first ones of them that is written which is asked, or a beginning of it
abbrev pub BeginsReached : Known → Screen → Said → Patterns → List (List ℕ) → (left held held' : Option (List ℕ)) → Type 0
BeginsReached known screen given p names left held held' = Reached known screen given names (λ job files unread. AreFilesBegun p job known.holds files left held held')

-- or nothing is
abbrev pub BeginsOrKeeps : Known → Screen → Said → Patterns → List (List ℕ) → (left held held' : Option (List ℕ)) → Type 0
BeginsOrKeeps known screen given p names left held held' = Keeps held held' ⊎ BeginsReached known screen given p names left held held'

-- the matches of each pattern are counted: what is put down of a search in place of each of them is the number of its pattern, on a
-- line of its own, and the counts of these numbers are written
abbrev pub Counts : (ending : ℕ) → List (List ℕ) → ((held held' : Option (List ℕ)) → Type 0) → (held held' : Option (List ℕ)) → Type 0
Counts ending patterns Found held held' = (numbers : List ℕ) × Found (Some []) (Some numbers) × Appends held held' (counts_table ending patterns numbers)

-- or a beginning of them
abbrev pub BeginsCounts : (ending : ℕ) → List (List ℕ) → ((held held' : Option (List ℕ)) → Type 0) → (held held' : Option (List ℕ)) → Type 0
BeginsCounts ending patterns Begun held held' = (numbers : List ℕ) × Begun (Some []) (Some numbers) × AppendsBeginning held held' (counts_table ending patterns numbers)

-- where that is asked for, and else what a search finds is written
abbrev pub OrCounts : Flags → List (List ℕ) → ((held held' : Option (List ℕ)) → Type 0) → (held held' : Option (List ℕ)) → Type 0
OrCounts flags patterns Found held held' = MatchBool (asks_counts flags) (Counts (ending_by flags) patterns Found held held') (Found held held')

abbrev pub OrBeginsCounts : Flags → List (List ℕ) → ((held held' : Option (List ℕ)) → Type 0) → (held held' : Option (List ℕ)) → Type 0
OrBeginsCounts flags patterns Begun held held' = MatchBool (asks_counts flags) (BeginsCounts (ending_by flags) patterns Begun held held') (Begun held held')

-- these patterns of a call were searched for in the files that these operands name
abbrev pub ReachesOrCounts : Known → Screen → Said → Patterns → (patterns names : List (List ℕ)) → (left left' held held' : Option (List ℕ)) → ℕ → Type 0
ReachesOrCounts known screen given p patterns names left left' held held' status =
    OrCounts given.flags patterns (λ old new. SearchesReached known screen given p names left left' old new status) held held'

-- or their search was begun
abbrev pub BeginsOrCounts : Known → Screen → Said → Patterns → (patterns names : List (List ℕ)) → (left held held' : Option (List ℕ)) → Type 0
BeginsOrCounts known screen given p patterns names left held held' =
    OrBeginsCounts given.flags patterns (λ old new. BeginsOrKeeps known screen given p names left old new) held held'

-- no line is selected, whatever it holds, and no file is read: each count is 0
abbrev pub WritesNoMatch : Flags → List (List ℕ) → (held held' : Option (List ℕ)) → Type 0
WritesNoMatch flags patterns held held' = MatchBool (asks_counts flags) (Appends held held' (counts_table (ending_by flags) patterns [])) (Keeps held held')

abbrev pub BeginsNoMatch : Flags → List (List ℕ) → (held held' : Option (List ℕ)) → Type 0
BeginsNoMatch flags patterns held held' = MatchBool (asks_counts flags) (AppendsBeginning held held' (counts_table (ending_by flags) patterns [])) (Keeps held held')

-- no line is selected, whatever it holds: nothing was read and nothing written, and the status tells it
pub record SelectsNoLine (p : Patterns) (fit : Fit) (invert : Bool) (left left' held held' : Option (List ℕ)) (status : ℕ) : Type 0 where
  pub passed : (line : List ℕ) → IsPassedOver p fit invert line
  pub unread : left' ≡ left
  pub unwritten : Keeps held held'
  pub none : status ≡ 1

-- these words were searched for so, or no line is selected by them
abbrev pub AreSought : Known → Screen → Said → (words names : List (List ℕ)) → (left left' held held' : Option (List ℕ)) → ℕ → Type 0
AreSought known screen given words names left left' held held' status =
    MatchBool (knows_none given.flags words) (SelectsNoLine (patterns_by_kind (kind_sought given.flags) given.flags.ignore_case words) (fit_by given.flags) (inverts given.flags) left left' held held' status)
    (SearchesReached known screen given (patterns_by_kind (kind_sought given.flags) given.flags.ignore_case words) names left left' held held' status)

-- something was read, which left this of the input, and then, by it, that was done
pub record After {X : Type 0} (Reads Does : X → Option (List ℕ) → Type 0) : Type 0 where
  pub what : X
  pub between : Option (List ℕ)
  pub read : Reads what between
  pub does : Does what between

-- the patterns of these sources were
abbrev pub AfterWords : Known → List Origin → Option (List ℕ) → (List (List ℕ) → Option (List ℕ) → Type 0) → Type 0
AfterWords known sources left Does = After (λ words between. AreWords known.holds sources left between words) Does

-- or the rules in files
abbrev pub AfterRules : Known → Said → Option (List ℕ) → (Said → Option (List ℕ) → Type 0) → Type 0
AfterRules known given left Does = After (λ rules between. AreRules known.holds given.rules left between rules) (λ rules between. Does (ruled given rules) between)

-- the patterns of these sources were read, and then searched for in the files of these names
abbrev pub SearchesFor : Known → Screen → Said → List Origin → List (List ℕ) → (left left' held held' : Option (List ℕ)) → ℕ → Type 0
SearchesFor known screen given sources names left left' held held' status = AfterWords known sources left
    (λ words between. OrCounts given.flags words (λ old new. AreSought known screen given (words_sought given.flags words) names between left' old new status) held held')

-- what was said was searched for
abbrev pub SearchesSaid : Known → Screen → Said → (left left' held held' : Option (List ℕ)) → ℕ → Type 0
SearchesSaid known screen given left left' held held' status =
    SearchesFor known screen given (sources_by given.sources given.operands) (names_by given.sources given.operands) left left' held held' status

-- the status of a search, by whether finding nothing is no failure
abbrev pub status_told : Bool → ℕ → ℕ
status_told no_match_ok status = if no_match_ok && (status == 1) then 0 else status

-- the rules in files were read, and then that was done
abbrev pub SearchesRuled : Known → Screen → Said → (left left' held held' : Option (List ℕ)) → ℕ → Type 0
SearchesRuled known screen given left left' held held' status = AfterRules known given left (λ ruled between. SearchesSaid known screen ruled between left' held held' status)

-- what was said was done; `left` is what the input has left, and `held` what the output holds
abbrev pub Searches : Known → Screen → Said → (left left' held held' : Option (List ℕ)) → ℕ → Type 0
Searches known screen given left left' held held' status =
    (found : ℕ) × SearchesRuled known screen given left left' held held' found × (status ≡ status_told given.flags.no_match_ok found)

-- the patterns of these sources were read, and of some first ones of the files that these operands name that is written which is
-- asked, or a beginning of it, or nothing is
abbrev pub BeginsFor : Known → Screen → Said → List Origin → List (List ℕ) → (left held held' : Option (List ℕ)) → Type 0
BeginsFor known screen given sources names left held held' = Keeps held held' ⊎ AfterWords known sources left
    (λ words between. BeginsOrCounts known screen given (patterns_by_kind (kind_sought given.flags) given.flags.ignore_case (words_sought given.flags words)) words names between held held')

-- whatever comes of what was said: what is written is a beginning of what is asked
abbrev pub BeginsSaid : Known → Screen → Said → (left held held' : Option (List ℕ)) → Type 0
BeginsSaid known screen given left held held' =
    BeginsFor known screen given (sources_by given.sources given.operands) (names_by given.sources given.operands) left held held'

-- the rules in files were read, and then that is, or nothing is
abbrev pub BeginsSearch : Known → Screen → Said → (left held held' : Option (List ℕ)) → Type 0
BeginsSearch known screen given left held held' = Keeps held held' ⊎ AfterRules known given left (λ ruled between. BeginsSaid known screen ruled between held held')
