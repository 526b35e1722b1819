-- What a call with rules does: each line is redacted by what rules mark in it and patterns hold.
use Rattle.acredact.specs.Common.{AreLineRuns, Bor, Covering, Errors, IsMember, Keeps, MayBe, Occurrence, Patterns, PieceRule, Readers, Rule, SinkGhosts, Standard, StartsWith, TellsSome, Writers, bytes_left, name_bytes, output_bytes, stream_lines}
use Rattle.std.specs.Prelude.{◌≡◌, ◌⊎◌, ℕ, Bool, true, false, List, [], ◌∷◌, ◌++◌, Option, Result, if◌then◌else◌, length, map, option_map, string_bytes, unwrap_or}
use Rattle.aho_automaton.specs.declared.automaton.Automaton.{Ghosts as Automata}
use Rattle.aho_cover.specs.Pieces.{fixed_rule}
use Rattle.aho_cover.specs.declared.pieces.Pieces.{Ghosts as PieceGhosts}
use Rattle.chromesquid.specs.Searcher.{IsBuiltFrom}
use Rattle.secret_rules.specs.Covering.{covering_by, lines_cover}
use Rattle.secret_rules.specs.LineCovers.{AreSearchedFor}
use Rattle.secret_rules.specs.Ready.{CanCoverLines, most_of, rules_of, searched_automaton, words_of}
use Rattle.secret_rules.specs.Rules.{AreSound}
use Rattle.acredact.specs.Arguments.{Given, all_given, counts_asked, has, last_value}
use Rattle.acredact.specs.Calls.{Call, IsUnreadLine, call_of, keyed_as, names_asked, pieces_asked, reading_by, text_asked}
use Rattle.acredact.specs.Doubts.{TellsDoubts, all_doubt_lines}
use Rattle.acredact.specs.Deeds.{Deed}
use Rattle.acredact.specs.Files.{AreCut, EachIsWritten, Task}
use Rattle.acredact.specs.Failures.{IsFailureLine}
use Rattle.acredact.specs.LineRules.{AreRulesRead, most_asked}
use Rattle.acredact.specs.LongLines.{TellsLong, too_long_line}
use Rattle.acredact.specs.Loading.{AreGiven, IsKeyGiven, Reading, key_lent, secrets_by}
use Rattle.acredact.specs.RunCounts.{AreAllRuns, HaveRuns, IsRunsLine, TellsRunTotals}
use Rattle.acredact.specs.Outcomes.{ComesOf, EndSays}
use Rattle.acredact.specs.RunPieces.{mixed_rule, pseudonyms_by}
use Rattle.acredact.specs.Summaries.{no_volume}
use Rattle.acredact.specs.Tables.{Secret, patterns_in, secrets_of}
use Rattle.acredact.specs.Volumes.{ReadsVolume}
use Rattle.acredact.specs.declared.options.Word.TheVariants.{AsWord, Forms, IgnoreCase, Pseudonym}
use Rattle.acredact.specs.declared.options.Item.{Item}
use Rattle.acredact.specs.declared.failure.Failure.{Failure}
use Rattle.acredact.specs.declared.folder.Folder.{Ghosts as Folders}
use Rattle.acredact.specs.declared.rule.Rule.{Rule as PatternRule}
use Rattle.acredact.specs.declared.ruled_files.Lined.{Lined}
use Rattle.acredact.specs.declared.ruled_load.GivenRules.{GivenRules}
use Rattle.acredact.specs.declared.ruled_load.LinesReady.{LinesReady}
use Rattle.acredact.specs.declared.streams.Streams.{Streams}
use Rattle.acredact.specs.declared.summary.Volume.{Volume}

-- by what lines are covered, and what is written for each number
pub record Ruling : Type 0 where
  pub covering : Covering
  pub rule : PieceRule

-- the redaction of a text: each line with just those bytes replaced that a rule marks or a pattern holds
pub record IsLinesRedaction (ruling : Ruling) (text redaction : List ℕ) : Type 0 where
  pub runs : List (List Occurrence)
  pub runs_are : AreLineRuns ruling.covering [] (stream_lines text) runs
  pub is : redaction ≡ lines_cover ruling.rule (stream_lines text) runs

-- a beginning of the redaction of whatever the text may be, of which this was given
abbrev pub BeginsLinesRedaction : Ruling → (given : List ℕ) → (ended : Bool) → List ℕ → Type 0
BeginsLinesRedaction ruling given ended part =
    (text redaction : List ℕ) → MayBe given ended text → IsLinesRedaction ruling text redaction → StartsWith redaction part

-- what is done by that: all runs are counted
abbrev pub deed_by : Ruling → Deed
deed_by ruling = record {
  writes = IsLinesRedaction ruling;
  begins = BeginsLinesRedaction ruling;
  nears = λ given ended held held'. Unit {0};
  counts = AreAllRuns ruling.covering;
  measured = false;
}

-- of some first files the redaction was written, and a beginning of that of the next, whatever was told
abbrev pub AreBegun : Task → List (List ℕ) → (left left' held held' : Option (List ℕ)) → Type 0
AreBegun task names left left' held held' = (lines : List (List ℕ)) × AreCut task names lines left left' held held'

-- by these words, rules, lengths and patterns, with these pieces
abbrev pub ruling_as : Bool → List Rule → ℕ → PieceRule → Patterns → Ruling
ruling_as words rules most rule p = record { covering = covering_by words rules most p; rule = rule }

-- what covers lines does so by this
pub record IsLined {A P : Type 0} (G : Automata A) (Q : PieceGhosts P) (lined : Lined A P) (ruling : Ruling) : Type 0 where
  pub can : CanCoverLines G lined.cover
  pub searched : AreSearchedFor G (searched_automaton lined.cover) ruling.covering.patterns
  pub is : ruling ≡ ruling_as (words_of lined.cover) (rules_of lined.cover) (most_of lined.cover) (Q.rule lined.pieces) ruling.covering.patterns

-- the patterns of an automaton are those that are searched for: by it, or by none where it has none
abbrev pub AreSearchedBy : {A : Type 0} → Automata A → A → Option (Bor A) → Type 0
AreSearchedBy G automaton searched = (p : Patterns) → G.is_of automaton p → AreSearchedFor G searched p

-- what is loaded: the secrets that are patterns, the rules, and the key of pseudonyms
pub record RuledLoad : Type 0 where
  pub secrets : List Secret
  pub rules : List Rule
  pub key : Option (List ℕ)

-- secrets and rules were read
pub record AreRulesGiven (reading : Reading) (given : List Given) (secrets : List Secret) (rules : List Rule) (left left' : Option (List ℕ)) : Type 0 where
  pub between : Option (List ℕ)
  pub secrets_given : AreGiven reading given secrets left between
  pub rules_given : AreRulesRead reading given rules between left'
  pub sound : AreSound rules

pub record AreRuledLoaded (reading : Reading) (given : List Given) (load : RuledLoad) (left left' : Option (List ℕ)) : Type 0 where
  pub secrets : List Secret
  pub between : Option (List ℕ)
  pub rules_given : AreRulesGiven reading given secrets load.rules left between
  pub key_given : IsKeyGiven reading (last_value Pseudonym given) load.key between left'
  pub named : load.secrets ≡ secrets_by given load.key secrets

abbrev pub load_as : List Secret → List Rule → Option (List ℕ) → RuledLoad
load_as secrets rules key = record { secrets = secrets; rules = rules; key = key }

abbrev pub ruled_load : List PatternRule → List Rule → Option (Bor (List ℕ)) → RuledLoad
ruled_load secrets rules key = load_as (secrets_of secrets) rules (key_lent key)

-- those that some arguments ask for were read
abbrev pub AreRulesGivenBy : {F X : Type 0} → Folders F X → F → List Item → (left left' : Option (List ℕ)) → GivenRules → Type 0
AreRulesGivenBy D folder items left left' made =
    AreRulesGiven (reading_by (call_of D folder (all_given items))) (all_given items) (secrets_of made.secrets.items) made.rules left left'

-- the patterns that are searched for: all that occurs counts
abbrev pub patterns_by_case : List Given → List (List ℕ) → Patterns
patterns_by_case given words = record { words = words; kind = Standard; ignore_case = has IgnoreCase given }

-- what searches for those of these secrets is ready, and the names of the files
pub record IsReadyForLines (given : List Given) (secrets : List Secret) (ready : LinesReady) : Type 0 where
  pub of : IsBuiltFrom ready.searcher (patterns_by_case given (patterns_in secrets))
  pub names : name_bytes ready.names.items ≡ names_asked given

-- what is written for a rule: its own text, or the usual one
abbrev pub own_text : (usual : List ℕ) → Rule → List ℕ
own_text usual rule = unwrap_or (option_map string_bytes rule.with) usual

-- for each pattern, then for each rule, and then for lines that are too long
abbrev pub texts_asked : List Given → RuledLoad → List (List ℕ)
texts_asked given load = pieces_asked given load.secrets ++ (map (own_text (text_asked given)) load.rules ++ text_asked given ∷ [])

-- where there is a key they are written for patterns that it has named, and else pseudonyms
abbrev pub named_count : List Given → (patterns : ℕ) → ℕ
named_count given patterns = if has Forms given then patterns else 0

abbrev pub rule_asked : List Given → (texts : List (List ℕ)) → (key : Option (List ℕ)) → (patterns : ℕ) → PieceRule
rule_asked given texts key patterns =
    mixed_rule (fixed_rule texts) (option_map pseudonyms_by (option_map (keyed_as (has IgnoreCase given)) key)) (named_count given patterns)

abbrev pub ruling_by : List Given → RuledLoad → Ruling
ruling_by given load =
    ruling_as (has AsWord given) load.rules (most_asked given) (rule_asked given (texts_asked given load) load.key (length load.secrets)) (patterns_by_case given (patterns_in load.secrets))

abbrev pub task_by : Call → Ruling → Task
task_by call ruling = record { holds = call.holds; refuses = call.refuses; meets = call.meets; deed = deed_by ruling }

abbrev pub ruled_by : Call → RuledLoad → Task
ruled_by call load = task_by call (ruling_by call.given load)

-- what may be told of a call: a doubtful pattern of a list, how many lines were too long, or the counts and the summary that are asked for
abbrev pub IsRuledNotice : Call → List ℕ → Type 0
IsRuledNotice call line =
    ((secrets : List Secret) × IsMember (all_doubt_lines call.given secrets) line)
    ⊎ (((count : ℕ) × (line ≡ too_long_line (most_asked call.given) count))
    ⊎ IsRunsLine call.given line)

-- or a file that is not read to its end, or why it ends early
abbrev pub IsRuledTold : Call → List ℕ → Type 0
IsRuledTold call line =
    IsUnreadLine (names_asked call.given) line
    ⊎ (((failure : Failure) × IsFailureLine failure line)
    ⊎ IsRuledNotice call line)

-- patterns and rules were loaded, of the input with so many bytes left, and then this is so
pub record LoadsRules (call : Call) (left : Option (List ℕ)) (Is : RuledLoad → (between : Option (List ℕ)) → Type 0) : Type 0 where
  pub load : RuledLoad
  pub between : Option (List ℕ)
  pub loaded : AreRuledLoaded (reading_by call) call.given load left between
  pub is : Is load between

module _ (call : Call) (left left' held held' : Option (List ℕ)) where
  -- all files were redacted
  abbrev pub RedactsByRules : Type 0
  RedactsByRules = LoadsRules call left (λ load between. EachIsWritten (ruled_by call load) (names_asked call.given) between left' held held')

  -- of some first files the redaction or a beginning of it was written, or nothing
  abbrev pub BeginsByRules : Type 0
  BeginsByRules = Keeps held held' ⊎ LoadsRules call left (λ load between. AreBegun (ruled_by call load) (names_asked call.given) between left' held held')

module _ {E : Type 0} (K : SinkGhosts E) where
  -- what comes of a call, or of its files: any failure may end it
  abbrev pub OutcomeOf : {V : Type 0} → Call → (all : V → Bool) → (Whole : V → Type 0) → (Begun Notes : Type 0)
      → Result V Failure → (errors errors' : Errors E) → Type 0
  OutcomeOf call all Whole Begun Notes result errors errors' =
      ComesOf K (IsRuledTold call) all Whole (TellsSome K (IsRuledTold call) errors errors') Begun Notes (λ (failure : Failure). Unit {0}) result errors errors'

  -- how many runs of all files have the number of each of them, and how much was read: where one of both is asked for that is told
  pub record RunsOf (call : Call) (load : RuledLoad) (asked : Bool) (left left' : Option (List ℕ)) (errors errors' : Errors E) : Type 0 where
    pub runs : List Occurrence
    pub have : HaveRuns call.holds (ruling_by call.given load).covering (names_asked call.given) runs left left'
    pub volume : Volume
    pub read : ReadsVolume call.holds (names_asked call.given) no_volume volume left left'
    pub counted : TellsRunTotals K call.given load.secrets load.rules asked runs volume errors errors'

  -- where all was redacted it is told how many lines were too long, and then that; and before all which patterns of lists are doubtful
  pub record NotesOf (call : Call) (load : RuledLoad) (left left' : Option (List ℕ)) (errors errors' : Errors E) : Type 0 where
    pub warned : Errors E
    pub doubted : TellsDoubts K false call.given load.secrets errors warned
    pub meanwhile : Errors E
    pub long : TellsLong K call.holds (most_asked call.given) (names_asked call.given) left left' warned meanwhile
    pub runs : RunsOf call load (counts_asked call.given) left left' meanwhile errors'

  -- of the patterns and rules that were loaded
  abbrev pub NotesByRules : Call → (left left' : Option (List ℕ)) → (errors errors' : Errors E) → Type 0
  NotesByRules call left left' errors errors' = LoadsRules call left (λ load between. NotesOf call load between left' errors errors')

  -- a call that asks for counts or a summary tells them
  abbrev pub CountsByRules : Call → (left left' : Option (List ℕ)) → (errors' : Errors E) → Type 0
  CountsByRules call left left' errors' = LoadsRules call left (λ load between. (meanwhile : Errors E) × RunsOf call load true between left' meanwhile errors')

  -- what comes of a call
  abbrev pub RuledCall : Call → Result Bool Failure → (left left' held held' : Option (List ℕ)) → (errors errors' : Errors E) → Type 0
  RuledCall call result left left' held held' errors errors' =
      OutcomeOf call (λ all. all) (λ all. RedactsByRules call left left' held held')
      (BeginsByRules call left left' held held') (NotesByRules call left left' errors errors') result errors errors'

  -- and what comes of its files is that, behind what was loaded and what was told of doubtful patterns of it
  pub record RuledOutcome (call : Call) (load : RuledLoad) (result : Result Bool Failure) (between left' held held' : Option (List ℕ)) (errors errors' : Errors E) : Type 0 where
    pub behind : (left : Option (List ℕ)) (first : Errors E) → AreRuledLoaded (reading_by call) call.given load left between
        → TellsDoubts K false call.given load.secrets first errors → RuledCall call result left left' held held' first errors'

  -- what its status says
  abbrev pub RuledStatus : Call → (status : ℕ) → (left left' held held' : Option (List ℕ)) → (errors errors' : Errors E) → Type 0
  RuledStatus call status left left' held held' errors errors' =
      EndSays K (IsRuledTold call) (RedactsByRules call left left' held held' × NotesByRules call left left' errors errors')
      (BeginsByRules call left left' held held') status errors errors'

module _ {R : Type 0} {Reads : Readers R} {W E : Type 0} (Writes : Writers W) where
  -- what holds from one state of the streams to another
  abbrev pub Between : ((left left' held held' : Option (List ℕ)) → (errors errors' : Errors E) → Type 0)
      → (streams streams' : Streams R W E Reads) → Type 0
  Between Holds streams streams' =
      Holds (bytes_left streams.input) (bytes_left streams'.input) (output_bytes Writes streams.output) (output_bytes Writes streams'.output) streams.errors streams'.errors

  -- what these options ask for is redacted by rules, or some of it
  abbrev pub RuledAsked : {F X : Type 0} → Folders F X → F → List Given → (streams streams' : Streams R W E Reads) → Type 0
  RuledAsked D folder given streams streams' =
      RedactsByRules (call_of D folder given) (bytes_left streams.input) (bytes_left streams'.input) (output_bytes Writes streams.output) (output_bytes Writes streams'.output)

  abbrev pub RuledBegins : {F X : Type 0} → Folders F X → F → List Given → (streams streams' : Streams R W E Reads) → Type 0
  RuledBegins D folder given streams streams' =
      BeginsByRules (call_of D folder given) (bytes_left streams.input) (bytes_left streams'.input) (output_bytes Writes streams.output) (output_bytes Writes streams'.output)

  module _ (K : SinkGhosts E) where
    -- what comes of patterns and rules that were loaded
    abbrev pub LoadedRuled : {F X : Type 0} → Folders F X → F → List Item → List PatternRule → List Rule
        → Option (Bor (List ℕ)) → Result Bool Failure → (streams streams' : Streams R W E Reads) → Type 0
    LoadedRuled D folder items secrets rules key result streams streams' =
        Between (RuledOutcome K (call_of D folder (all_given items)) (ruled_load secrets rules key) result) streams streams'

-- what a call that asks for this tells: at status 0, and else
abbrev pub NotesAsked : {R W E F X : Type 0} {Reads : Readers R} → SinkGhosts E
    → Folders F X → F → List Given → (streams streams' : Streams R W E Reads) → Type 0
NotesAsked K D folder given streams streams' =
    NotesByRules K (call_of D folder given) (bytes_left streams.input) (bytes_left streams'.input) streams.errors streams'.errors

-- and where counts or a summary are asked for
abbrev pub RuledCountsAsked : {R W E F X : Type 0} {Reads : Readers R} → SinkGhosts E
    → Folders F X → F → List Given → (streams streams' : Streams R W E Reads) → Type 0
RuledCountsAsked K D folder given streams streams' =
    counts_asked given ≡ true
    → CountsByRules K (call_of D folder given) (bytes_left streams.input) (bytes_left streams'.input) streams'.errors

abbrev pub RuledTells : {R W E F X : Type 0} {Reads : Readers R} → SinkGhosts E
    → Folders F X → F → List Given → (streams streams' : Streams R W E Reads) → Type 0
RuledTells K D folder given streams streams' = TellsSome K (IsRuledTold (call_of D folder given)) streams.errors streams'.errors
