-- What a check by rules sees in the lines of files, and what it writes of that.
use Rattle.acredact.specs.Common.{Errors, Keeps, Readers, Rule, SinkGhosts, TellsSome, Writers, bytes_left, output_bytes}
use Rattle.std.specs.Prelude.{◌≡◌, ◌⊎◌, ℕ, ◌<◌, Bool, true, false, List, [], Option, None, Result}
use mathlib.Core.Logic.{inr}
use Rattle.aho_automaton.specs.declared.automaton.Automaton.{Ghosts as Automata}
use Rattle.secret_rules.specs.Covering.{covering_by}
use Rattle.secret_rules.specs.LineCovers.{AreSearchedFor}
use Rattle.secret_rules.specs.Ready.{CanCoverLines, most_of, rules_of, searched_automaton, words_of}
use Rattle.secret_rules.specs.declared.line_cover.LineCover.{LineCover}
use Rattle.acredact.specs.Arguments.{Given, all_given, has}
use Rattle.acredact.specs.Calls.{Call, call_of, names_asked, reading_by}
use Rattle.acredact.specs.Checks.{AreSeen, BeginsLook, CheckSays, Quest, quest_for}
use Rattle.acredact.specs.Doubts.{TellsDoubts}
use Rattle.acredact.specs.Findings.{LineSought, labels_of}
use Rattle.acredact.specs.LineRules.{most_asked}
use Rattle.acredact.specs.Looks.{Sought}
use Rattle.acredact.specs.Reads.{EachName}
use Rattle.acredact.specs.Ruled.{AreRulesGiven, Between, IsRuledTold, OutcomeOf, ruling_by}
use Rattle.acredact.specs.Tables.{Secret, secrets_of}
use Rattle.acredact.specs.declared.options.Word.TheVariants.{Summary}
use Rattle.acredact.specs.declared.options.Item.{Item}
use Rattle.acredact.specs.declared.failure.Failure.{Failure}
use Rattle.acredact.specs.declared.folder.Folder.{Ghosts as Folders}
use Rattle.acredact.specs.declared.legend.Legend.{Legend}
use Rattle.acredact.specs.declared.look.Verdict.{Verdict}
use Rattle.acredact.specs.declared.rule.Rule.{Rule as PatternRule}
use Rattle.acredact.specs.declared.streams.Streams.{Streams}

-- what is loaded: the secrets that are patterns, and the rules
pub record CheckLoad : Type 0 where
  pub secrets : List Secret
  pub rules : List Rule

abbrev pub check_load : List PatternRule → List Rule → CheckLoad
check_load secrets rules = record { secrets = secrets_of secrets; rules = rules }

-- what is looked for in lines, and of a call
abbrev pub lines_looked_for : List Given → CheckLoad → LineSought
lines_looked_for given load = record {
  covering = (ruling_by given (record { secrets = load.secrets; rules = load.rules; key = None })).covering;
  labels = record { secrets = load.secrets; rules = load.rules; most = most_asked given };
}

abbrev pub line_quest_by : Call → CheckLoad → Quest
line_quest_by call load = quest_for call (has Summary call.given) (inr (lines_looked_for call.given load))

-- they were loaded, of the input with so many bytes left, and then this is so
pub record LoadsToCheck (call : Call) (left : Option (List ℕ)) (Is : CheckLoad → (between : Option (List ℕ)) → Type 0) : Type 0 where
  pub load : CheckLoad
  pub between : Option (List ℕ)
  pub loaded : AreRulesGiven (reading_by call) call.given load.secrets load.rules left between
  pub is : Is load between

-- each file was read to its end, one after another, and this says whether there is a run in a line of one; where that is asked for they were told
pub record SeesLoaded (call : Call) (found : Bool) (left left' held held' : Option (List ℕ)) (load : CheckLoad) : Type 0 where
  pub old : Option (List ℕ)
  pub new : Option (List ℕ)
  pub told : has Summary call.given ≡ true → (old ≡ held) × Keeps new held'
  pub are : AreSeen (line_quest_by call load) (names_asked call.given) found [] left left' old new

-- of patterns and rules that were loaded
abbrev pub SeesByRules : Call → (found : Bool) → (left left' held held' : Option (List ℕ)) → Type 0
SeesByRules call found left left' held held' =
    LoadsToCheck call left (λ load between. SeesLoaded call found between left' held held' load)

module _ (call : Call) (left left' held held' : Option (List ℕ)) where
  -- a beginning of what tells of each file was written, or nothing was
  abbrev pub BeginsRuledCheck : Type 0
  BeginsRuledCheck = Keeps held held' ⊎ LoadsToCheck call left (λ load between. EachName (BeginsLook (line_quest_by call load)) (names_asked call.given) between left' held held')

  abbrev pub BeginsLoadedCheck : CheckLoad → Type 0
  BeginsLoadedCheck load = Keeps held held' ⊎ EachName (BeginsLook (line_quest_by call load)) (names_asked call.given) left left' held held'

module _ {E : Type 0} (K : SinkGhosts E) where
  -- what comes of the files of a call whose patterns and rules were loaded
  abbrev pub CheckedLines : Call → CheckLoad → Result Verdict Failure → (left left' held held' : Option (List ℕ))
      → (errors errors' : Errors E) → Type 0
  CheckedLines call load result left left' held held' errors errors' =
      OutcomeOf K call (λ verdict. verdict.all) (λ verdict. SeesLoaded call verdict.found left left' held held' load)
      (BeginsLoadedCheck call left left' held held' load) (errors' ≡ errors) result errors errors'

  -- nothing was told but of the patterns of the lists that were loaded
  abbrev pub TellsListsBeside : Call → (left : Option (List ℕ)) → (errors errors' : Errors E) → Type 0
  TellsListsBeside call left errors errors' =
      LoadsToCheck call left (λ load between. TellsDoubts K false call.given load.secrets errors errors')

  -- and of the whole call
  abbrev pub RuledCheck : Call → Result Verdict Failure → (left left' held held' : Option (List ℕ)) → (errors errors' : Errors E) → Type 0
  RuledCheck call result left left' held held' errors errors' =
      OutcomeOf K call (λ verdict. verdict.all) (λ verdict. SeesByRules call verdict.found left left' held held')
      (BeginsRuledCheck call left left' held held') (TellsListsBeside call left errors errors') result errors errors'

  -- what its status says
  abbrev pub RuledCheckStatus : Call → (status : ℕ) → (left left' held held' : Option (List ℕ)) → (errors errors' : Errors E) → Type 0
  RuledCheckStatus call status left left' held held' errors errors' =
      CheckSays (SeesByRules call false left left' held held') (SeesByRules call true left left' held held')
      (TellsListsBeside call left errors errors') (TellsSome K (IsRuledTold call) errors errors') status

-- what covers lines looks for this, and tells it by these labels
pub record IsByLines {A : Type 0} (G : Automata A) (cover : LineCover A) (legend : Legend) (s : Sought) : Type 0 where
  pub lines : LineSought
  pub is : s ≡ inr lines
  pub can : CanCoverLines G cover
  pub searched : AreSearchedFor G (searched_automaton cover) lines.covering.patterns
  pub covers : lines.covering ≡ covering_by (words_of cover) (rules_of cover) (most_of cover) lines.covering.patterns
  pub labels : lines.labels ≡ labels_of legend

module _ {R : Type 0} {Reads : Readers R} {W E : Type 0} (Writes : Writers W) (K : SinkGhosts E) where
  -- what comes of patterns and rules that were loaded
  abbrev pub LoadedCheck : {F X : Type 0} → Folders F X → F → List Item → List PatternRule
      → List Rule → Result Verdict Failure → (streams streams' : Streams R W E Reads) → Type 0
  LoadedCheck D folder items secrets rules result streams streams' =
      Between Writes (CheckedLines K (call_of D folder (all_given items)) (check_load secrets rules) result) streams streams'

  -- and of what these options ask for
  abbrev pub AskedCheck : {F X : Type 0} → Folders F X → F → List Given
      → Result Verdict Failure → (streams streams' : Streams R W E Reads) → Type 0
  AskedCheck D folder given result streams streams' = Between Writes (RuledCheck K (call_of D folder given) result) streams streams'

-- of a call that asks for this
pub record ChecksByRules {R W E : Type 0} {Reads : Readers R} (Writes : Writers W) (K : SinkGhosts E) (call : Call) (status : ℕ) (streams streams' : Streams R W E Reads) : Type 0 where
  pub says : Between Writes (RuledCheckStatus K call status) streams streams'
  pub begins : BeginsRuledCheck call (bytes_left streams.input) (bytes_left streams'.input) (output_bytes Writes streams.output) (output_bytes Writes streams'.output)
  pub unwritten : has Summary call.given ≡ false → streams'.output ≡ streams.output
  pub flushed : has Summary call.given ≡ true → status < 2 → streams'.output.device.flushed ≡ true

module _ {R W E F X : Type 0} {Reads : Readers R} (D : Folders F X) (folder : F) (given : List Given) (streams streams' : Streams R W E Reads) where
  -- of a call that asks for this each file was read to its end, and no line has a run, or one has
  abbrev pub RuledClean : Writers W → Type 0
  RuledClean Writes = SeesByRules (call_of D folder given) false (bytes_left streams.input) (bytes_left streams'.input) (output_bytes Writes streams.output) (output_bytes Writes streams'.output)

  abbrev pub RuledFound : Writers W → Type 0
  RuledFound Writes = SeesByRules (call_of D folder given) true (bytes_left streams.input) (bytes_left streams'.input) (output_bytes Writes streams.output) (output_bytes Writes streams'.output)

  -- a beginning of what tells of each file was written
  abbrev pub RuledFindingsBegin : Writers W → Type 0
  RuledFindingsBegin Writes = BeginsRuledCheck (call_of D folder given) (bytes_left streams.input) (bytes_left streams'.input) (output_bytes Writes streams.output) (output_bytes Writes streams'.output)

  -- nothing was told but of patterns of lists
  abbrev pub ListsByRules : SinkGhosts E → Type 0
  ListsByRules K = TellsListsBeside K (call_of D folder given) (bytes_left streams.input) streams.errors streams'.errors
