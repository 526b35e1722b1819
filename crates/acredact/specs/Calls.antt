-- What a call does, by what its arguments ask for, and what it tells.
use Rattle.acredact.specs.Common.{Errors, FromWrite, IsMember, Occurrence, OtherFailure, OutOfMemory, Patterns, Readers, Reason, SinkGhosts, Tells, TellsBytes, TellsSome, Writers, bytes_left, counted, output_bytes}
use Rattle.std.specs.Prelude.{◌≡◌, ◌⊎◌, ℕ, ◌<◌, ◌≤◌, slice_index, Bool, true, false, List, [], ◌∷◌, Option, Result, Ok, Err, Vec, codes, is_some, length, map, option_map, unwrap_or, if◌then◌else◌}
use Rattle.aho_core.specs.declared.error.BuildError.{BuildError}
use Rattle.tool_parts.specs.Building.{RefusesPatterns}
use Rattle.tool_parts.specs.Names.{IsOneOf, or_input}
use Rattle.tool_parts.specs.declared.failure.Failure.TheVariants.{Build, Write, WriteZero}
use Rattle.acredact.specs.Arguments.{Given, GivesNoPattern, IsMistakeOfCall, RefusesUnclean, all_given, counts_asked, covers_asked, has, is_same, last_value, words_asked}
use Rattle.acredact.specs.Bounds.{ReadInAll}
use Rattle.acredact.specs.Builds.{patterns_by_given}
use Rattle.acredact.specs.Counts.{secret_lines, lines_of_rules}
use Rattle.acredact.specs.Doubts.{IsDoubtFailure, TellsWarnings, all_doubt_lines}
use Rattle.acredact.specs.Failures.{IsFailureLine}
use Rattle.acredact.specs.Forms.{forms_asked}
use Rattle.acredact.specs.Files.{AreCut, AreFree, AreRedacted, Work, task_of, unread_line}
use Rattle.acredact.specs.Hidden.{AreHidden}
use Rattle.acredact.specs.Loading.{AreGiven, AreLoaded, CannotLoadAll, CannotLoadKey, IsKeyGiven, Loaded, Reading, Rules, loaded_in, loaded_of, secrets_by}
use Rattle.acredact.specs.Messages.{output_line, unclean_line}
use Rattle.acredact.specs.Outcomes.{ComesOf}
use Rattle.acredact.specs.Pieces.{IsUncleanBy}
use Rattle.acredact.specs.Secrets.{Keyed, Redactor, key_of_cover}
use Rattle.acredact.specs.Tables.{Secret, patterns_in, piece_by, secrets_of}
use Rattle.acredact.specs.Sums.{sums_of}
use Rattle.acredact.specs.Summaries.{no_volume, totals_text}
use Rattle.acredact.specs.Totals.{AreTotals, NamesHaveRanges}
use Rattle.acredact.specs.Volumes.{ReadsVolume}
use Rattle.acredact.specs.declared.options.Item.{Item}
use Rattle.acredact.specs.declared.mistakes.Mistake.TheVariants.{NoPattern, OutOfMemory as NoRoom}
use Rattle.acredact.specs.declared.options.Word.TheVariants.{Crlf, Forms, AllowEmpty, IgnoreCase, Strict, File, Pseudonym, With}
use Rattle.acredact.specs.declared.clean.Unclean.{Unclean}
use Rattle.acredact.specs.declared.failure.Failure.{Failure}
use Rattle.acredact.specs.declared.failure.Failure.TheVariants.{NotText, Arguments, Unclean as UncleanPiece, Counts, Other}
use Rattle.acredact.specs.declared.folder.Folder.{Ghosts as Folders}
use Rattle.acredact.specs.declared.rule.Rule.{Rule}
use Rattle.acredact.specs.declared.secrets.Secrets.{Secrets}
use Rattle.acredact.specs.declared.streams.Streams.{Streams}
use Rattle.acredact.specs.declared.summary.Volume.{Volume}

-- the options and files that are given, and what the folder holds under a name, why it may refuse to open it, and whether the output
-- may go to it; and what may be the entries of the environment
pub record Call : Type 1 where
  pub holds : List ℕ → Option (List ℕ)
  pub refuses : List ℕ → Reason → Type 0
  pub meets : List ℕ → Bool → Type 0
  pub environment : List (List ℕ) → Type 0
  pub given : List Given

abbrev pub call_of : {F X : Type 0} → Folders F X → F → List Given → Call
call_of D folder given = record { holds = D.holds folder; refuses = D.refuses folder; meets = D.meets folder; environment = D.environment folder; given = given }

abbrev pub rules_asked : List Given → Rules
rules_asked given = record { crlf = has Crlf given; allow_empty = has AllowEmpty given; parts = covers_asked given; forms = forms_asked (last_value Forms given) }

abbrev pub reading_by : Call → Reading
reading_by call = record { holds = call.holds; refuses = call.refuses; environment = call.environment; rules = rules_asked call.given }

-- the names of the files, in order
abbrev pub names_given : List Given → List (List ℕ)
names_given [] = []
names_given (item ∷ items) = if is_same File item.word then item.value ∷ names_given items else names_given items

abbrev pub names_asked : List Given → List (List ℕ)
names_asked given = or_input (names_given given)

-- what is written for a pattern that has no replacement of its own
abbrev pub text_asked : List Given → List ℕ
text_asked given = unwrap_or (last_value With given) (codes "[redacted]")

-- what is written for each pattern
abbrev pub pieces_asked : List Given → List Secret → List (List ℕ)
pieces_asked given secrets = map (piece_by (text_asked given)) secrets

-- the key of pseudonyms, by the case rule of the patterns
abbrev pub keyed_as : (ignore_case : Bool) → List ℕ → Keyed
keyed_as ignore_case bytes = record { bytes = bytes; ignore_case = ignore_case }

abbrev pub key_asked : List Given → Option (List ℕ) → Option Keyed
key_asked given key = key_of_cover (covers_asked given) (option_map (keyed_as (has IgnoreCase given)) key)

abbrev pub redactor_by_given : List Given → Loaded → Redactor
redactor_by_given given loaded = record {
  patterns = patterns_by_given given (patterns_in loaded.secrets);
  covers = covers_asked given;
  words = words_asked given;
  pieces = pieces_asked given loaded.secrets;
  key = key_asked given loaded.key;
}

abbrev pub work_by : Call → Loaded → Work
work_by call loaded = record {
  holds = call.holds;
  refuses = call.refuses;
  meets = call.meets;
  names = names_asked call.given;
  redactor = redactor_by_given call.given loaded;
}

-- the output failed, or took nothing
abbrev pub OutputFails : {W : Type 0} → FromWrite W → FromWrite W → Type 0
OutputFails output output' =
    (output'.failures ≡ counted true output.failures) ⊎ (output'.empty_writes ≡ counted true output.empty_writes)

-- why a text of the program is not written
abbrev pub IsPrintFailure : Type 0 → Failure → Type 0
IsPrintFailure fails failure = ((failure ≡ Other Write) ⊎ (failure ≡ Other WriteZero)) × fails

-- why files are not redacted: memory runs out, or the output fails
abbrev pub IsRunFailure : (fails : Type 0) → Failure → Type 0
IsRunFailure fails failure = (failure ≡ Other OutOfMemory) ⊎ IsPrintFailure fails failure

-- why patterns are not searched for: the library refuses just these
abbrev pub IsBuildRefusal : Patterns → Failure → Type 0
IsBuildRefusal p failure = (error : BuildError) × (failure ≡ Other (Build error)) × RefusesPatterns p error

-- why pieces are refused: one of a cover is not clean
abbrev pub IsStrictFailure : (strict : Bool) → Redactor → Failure → Type 0
IsStrictFailure strict r failure =
    (unclean : Unclean) × (failure ≡ UncleanPiece unclean) × (strict ≡ true) × (r.covers ≡ true)
    × IsUncleanBy (is_some r.key) r.patterns r.pieces unclean

-- this is so of what was loaded
abbrev pub IsOfLoaded : Call → (Loaded → Type 0) → Type 0
IsOfLoaded call Is = (load : Loaded) × (left : Option (List ℕ)) × (between : Option (List ℕ))
    × AreLoaded (reading_by call) call.given load left between × Is load

-- one of the options or the key cannot be loaded, or memory runs out
abbrev pub CannotLoadCall : Call → Failure → Type 0
CannotLoadCall call failure = CannotLoadAll (reading_by call) call.given failure ⊎ CannotLoadKey (reading_by call) call.given failure

-- a key was loaded beside these rules, and names their secrets where forms are asked for
abbrev pub IsKeyedBy : List Item → List Rule → Option (List ℕ) → Secrets → Type 0
IsKeyedBy items rules key made = loaded_in made ≡ loaded_of (secrets_by (all_given items) key (secrets_of rules)) key

-- what is loaded for some arguments, and what is where the rules were
module _ {F X : Type 0} (D : Folders F X) (folder : F) (items : List Item) where
  abbrev pub CannotGiveBy : Failure → Type 0
  CannotGiveBy failure = CannotLoadAll (reading_by (call_of D folder (all_given items))) (all_given items) failure

  abbrev pub AreGivenBy : {Z : Type 0} → (left left' : Option (List ℕ)) → Vec Rule Z → Type 0
  AreGivenBy left left' rules = AreGiven (reading_by (call_of D folder (all_given items))) (all_given items) (secrets_of rules.items) left left'

  abbrev pub CannotLoadBy : Failure → Type 0
  CannotLoadBy failure = CannotLoadCall (call_of D folder (all_given items)) failure

  abbrev pub AreLoadedBy : (left left' : Option (List ℕ)) → Secrets → Type 0
  AreLoadedBy left left' made = AreLoaded (reading_by (call_of D folder (all_given items))) (all_given items) (loaded_in made) left left'

  -- the key was, and names the secrets of these rules where forms are asked for
  pub record AreKeyedBy (rules : List Rule) (left left' : Option (List ℕ)) (made : Secrets) : Type 0 where
    pub key : Option (List ℕ)
    pub key_given : IsKeyGiven (reading_by (call_of D folder (all_given items))) (last_value Pseudonym (all_given items)) key left left'
    pub is : IsKeyedBy items rules key made

-- why nothing is ready: a pattern of a list may be meant otherwise, or a piece is refused, or the library refuses the patterns, or memory runs out
abbrev pub CannotPrepare : List Given → Loaded → Failure → Type 0
CannotPrepare given load failure = IsDoubtFailure (has Strict given) given load.secrets failure
    ⊎ (IsStrictFailure (has Strict given) (redactor_by_given given load) failure
    ⊎ (IsBuildRefusal (patterns_by_given given (patterns_in load.secrets)) failure ⊎ (failure ≡ Other OutOfMemory)))

-- why the counts are not told
abbrev pub IsCountsFailure : Bool → Failure → Type 0
IsCountsFailure counted failure = (counted ≡ true) × ((failure ≡ Counts) ⊎ (failure ≡ Other OutOfMemory))

-- why a call ends early: there is no pattern, one of the options or the key cannot be loaded, the counts cannot be written, the files are not
-- redacted, or nothing is ready by what was loaded
abbrev pub MayFail : Call → (fails : Type 0) → Failure → Type 0
MayFail call fails failure =
    ((failure ≡ Arguments NoRoom) ⊎ ((failure ≡ Arguments NoPattern) × GivesNoPattern call.given))
    ⊎ (CannotLoadCall call failure
    ⊎ (IsCountsFailure (counts_asked call.given) failure
    ⊎ (IsRunFailure fails failure ⊎ IsOfLoaded call (λ load. CannotPrepare call.given load failure))))

-- the line that tells why a file was not read to its end, or that the output goes to it
abbrev pub IsUnreadLine : List (List ℕ) → List ℕ → Type 0
IsUnreadLine names line =
    (name : List ℕ) × IsOneOf name names × (((reason : Reason) × (line ≡ unread_line name reason)) ⊎ (line ≡ output_line name))

-- what is told by whether all was done, where that is answered: nothing, or one line or more
abbrev pub TellsUnlessAll : {E X : Type 0} → SinkGhosts E → (IsLine : List ℕ → Type 0) → Result Bool X → (errors errors' : Errors E) → Type 0
TellsUnlessAll K IsLine (Ok true) errors errors' = errors' ≡ errors
TellsUnlessAll K IsLine (Ok false) errors errors' = TellsSome K IsLine errors errors'
TellsUnlessAll K IsLine (Err error) errors errors' = Tells K IsLine errors errors'

-- of files, by whether all were read to their ends
abbrev pub TellsOfFiles : {E X : Type 0} → SinkGhosts E → List (List ℕ) → Result Bool X → (errors errors' : Errors E) → Type 0
TellsOfFiles K names result errors errors' = TellsUnlessAll K (IsUnreadLine names) result errors errors'

-- the lines of the counts of some patterns, each with the line of its file, where they are asked for
abbrev pub IsCountsLine : List Given → List Secret → List ℕ → Type 0
IsCountsLine given secrets line = (counts_asked given ≡ true)
    × (counts : List ℕ) × (volume : Volume) × (line ≡ totals_text given (secret_lines secrets) counts volume)

-- a line that warns of a redaction by some patterns: of one of a list that may be meant otherwise, or of a piece that is not clean
abbrev pub Warns : List Given → List Secret → Redactor → List ℕ → Type 0
Warns given secrets r line =
    IsMember (all_doubt_lines given secrets) line
    ⊎ ((unclean : Unclean) × (r.covers ≡ true) × IsUncleanBy (is_some r.key) r.patterns r.pieces unclean × (line ≡ unclean_line unclean))

-- one of the patterns that were loaded, where such a one is not refused
abbrev pub IsWarningLine : Call → List ℕ → Type 0
IsWarningLine call line = (has Strict call.given ≡ false)
    × IsOfLoaded call (λ load. Warns call.given load.secrets (redactor_by_given call.given load) line)

-- a line without a number that was counted: of a file that is not read to its end, or such a warning
abbrev pub IsWordLine : Call → List ℕ → Type 0
IsWordLine call line = IsUnreadLine (names_asked call.given) line ⊎ IsWarningLine call line

-- the numbers that are told of a call: no count and no number of bytes is greater than what was read of its files, and that of files not
-- greater than there are
pub record AreBounded (holds : List ℕ → Option (List ℕ)) (names : List (List ℕ)) (counts : List ℕ) (volume : Volume) (left left' : Option (List ℕ)) : Type 0 where
  pub size : ℕ
  pub read : ReadInAll holds names size left left'
  pub each : (number : ℕ) → number < length counts → slice_index counts number ≤ size
  pub bytes : volume.bytes ≤ size
  pub files : volume.files ≤ length names

-- what may be told of a call: a file that is not read to its end, a piece that is not clean, why it ends early, and the counts where
-- they are asked for
abbrev pub IsLineOf : Call → (fails : Type 0) → List ℕ → Type 0
IsLineOf call fails line =
    IsWordLine call line
    ⊎ (((failure : Failure) × MayFail call fails failure × IsFailureLine failure line)
    ⊎ IsOfLoaded call (λ load. IsCountsLine call.given load.secrets line))

-- what is told of wrong arguments
abbrev pub IsWrongFailure : List (List ℕ) → Failure → Type 0
IsWrongFailure arguments failure = (mistake : _) × (failure ≡ Arguments mistake) × IsMistakeOfCall arguments mistake

abbrev pub IsWrongLine : List (List ℕ) → List ℕ → Type 0
IsWrongLine arguments line = (failure : Failure) × IsWrongFailure arguments failure × IsFailureLine failure line

-- what is told where there are no arguments to read
abbrev pub IsRefusedLine : OtherFailure → List ℕ → Type 0
IsRefusedLine failure line = IsFailureLine NotText line ⊎ IsFailureLine (Other failure) line

-- a text is told whole
pub record TellsWhole {E : Type 0} (K : SinkGhosts E) (text : List ℕ) (errors errors' : Errors E) : Type 0 where
  pub told : TellsBytes K errors errors' text
  pub whole : errors'.failed ≡ false

-- the counts of these rules are
abbrev pub TellsCounts : {E : Type 0} → SinkGhosts E → List Given → List Rule → (counts : List ℕ) → Volume → (errors errors' : Errors E) → Type 0
TellsCounts K given rules counts volume errors errors' =
    TellsWhole K (totals_text given (lines_of_rules rules) (sums_of (secrets_of rules) counts) volume) errors errors'

-- it is told whole how many of these ranges have the text of each pattern in their place, and a form counts for its pattern
pub record TellsTotals {E : Type 0} (K : SinkGhosts E) (given : List Given) (secrets : List Secret) (ranges : List Occurrence) (volume : Volume) (errors errors' : Errors E) : Type 0 where
  pub counts : List ℕ
  pub totals : AreTotals (length secrets) ranges counts
  pub told : TellsBytes K errors errors' (totals_text given (secret_lines secrets) (sums_of secrets counts) volume)
  pub whole : errors'.failed ≡ false

-- the patterns and the key were loaded, of the input with so many bytes left, and then this is so
pub record LoadsCall (call : Call) (left : Option (List ℕ)) (Is : Loaded → (between : Option (List ℕ)) → Type 0) : Type 0 where
  pub load : Loaded
  pub between : Option (List ℕ)
  pub loaded : AreLoaded (reading_by call) call.given load left between
  pub is : Is load between

module _ {E : Type 0} (K : SinkGhosts E) (call : Call) where
  module _ (load : Loaded) where
    -- of patterns that were loaded the pieces are told, where they are not clean
    abbrev pub WarnsLoaded : (errors errors' : Errors E) → Type 0
    WarnsLoaded errors errors' =
        TellsWarnings K (has Strict call.given) call.given load.secrets (redactor_by_given call.given load) errors errors'

    -- of the files it is told how often the text of each pattern was written: of how many ranges of all texts it took the place
    abbrev pub CountsRest : (left left' : Option (List ℕ)) → (errors errors' : Errors E) → Type 0
    CountsRest left left' errors errors' =
        (ranges : List Occurrence) × NamesHaveRanges (work_by call load) (names_asked call.given) ranges left left'
        × (volume : Volume) × ReadsVolume call.holds (names_asked call.given) no_volume volume left left'
        × TellsTotals K call.given load.secrets ranges volume errors errors'

    -- behind what is told of the pieces
    abbrev pub WarnsAndCounts : (left left' : Option (List ℕ)) → (errors errors' : Errors E) → Type 0
    WarnsAndCounts left left' errors errors' =
        (meanwhile : Errors E) × WarnsLoaded errors meanwhile × CountsRest left left' meanwhile errors'

  -- the pieces of all patterns that were loaded are told
  abbrev pub WarnsCall : (left : Option (List ℕ)) → (errors errors' : Errors E) → Type 0
  WarnsCall left errors errors' = LoadsCall call left (λ load between. WarnsLoaded load errors errors')

  -- all was done, and no pattern is left where pieces that are not clean are refused; nothing is told but of pieces, and counts
  pub record DoneCall (left : Option (List ℕ)) (Done Free Counts : Type 0) (errors errors' : Errors E) : Type 0 where
    pub all : Done
    pub strict : RefusesUnclean call.given → Free
    pub quiet : counts_asked call.given ≡ false → WarnsCall left errors errors'
    pub counts : counts_asked call.given ≡ true → Counts

-- such lines are told, and behind them such numbers
pub record TellsNumbers {E : Type 0} (K : SinkGhosts E) (call : Call) (secrets : List Secret) (left left' : Option (List ℕ)) (errors errors' : Errors E) : Type 0 where
  pub counts : List ℕ
  pub volume : Volume
  pub bounded : AreBounded call.holds (names_asked call.given) counts volume left left'
  pub meanwhile : Errors E
  pub words : Tells K (IsWordLine call) errors meanwhile
  pub told : Tells K (λ line. line ≡ totals_text call.given (secret_lines secrets) counts volume) meanwhile errors'

-- those of the patterns that were loaded, or no number is told
abbrev pub TellsAnyNumbers : {E : Type 0} → SinkGhosts E → Call → (left left' : Option (List ℕ)) → (errors errors' : Errors E) → Type 0
TellsAnyNumbers K call left left' errors errors' = Tells K (IsWordLine call) errors errors' ⊎ LoadsCall call left (λ load between. TellsNumbers K call load.secrets between left' errors errors')

-- and then at most why the call ends early
abbrev pub TellsUpToEnd : {E : Type 0} → SinkGhosts E → Call → (fails : Type 0)
    → (left left' : Option (List ℕ)) → (errors errors' : Errors E) → Type 0
TellsUpToEnd K call fails left left' errors errors' = (meanwhile : Errors _) × TellsAnyNumbers K call left left' errors meanwhile
    × ((errors' ≡ meanwhile) ⊎ ((failure : Failure) × MayFail call fails failure × (line : List ℕ) × IsFailureLine failure line × TellsBytes K meanwhile errors' line))

module _ {W : Type 0} (Writes : Writers W) where
  module _ (call : Call) (left left' : Option (List ℕ)) (output output' : FromWrite W) where
    -- all files were redacted
    abbrev pub RedactsCall : Type 0
    RedactsCall = LoadsCall call left (λ load between. AreRedacted (work_by call load) (names_asked call.given) between left' (output_bytes Writes output) (output_bytes Writes output'))

    -- and no pattern occurs in what was written of a file
    abbrev pub LeavesNone : Type 0
    LeavesNone = LoadsCall call left (λ load between. AreFree (work_by call load) (names_asked call.given) between left' (output_bytes Writes output) (output_bytes Writes output'))

    -- and no form shows a secret in what was written
    pub record HidesCall : Type 0 where
      pub load : Loaded
      pub between : Option (List ℕ)
      pub loaded : AreLoaded (reading_by call) call.given load left between
      pub hidden : AreHidden (forms_asked (last_value Forms call.given)) loaded.given_all.plain (work_by call load) (names_asked call.given) between left' (output_bytes Writes output) (output_bytes Writes output')

    -- of some first files the redaction or a beginning of it was written, or nothing
    abbrev pub BeginsCall : Type 0
    BeginsCall = (output' ≡ output) ⊎ LoadsCall call left (λ load between. (lines : List (List ℕ))
        × AreCut (task_of (work_by call load)) (names_asked call.given) lines between left' (output_bytes Writes output) (output_bytes Writes output'))

  module _ {E : Type 0} (K : SinkGhosts E) (call : Call) (left left' : Option (List ℕ)) where
    -- all files were redacted. What pieces are not clean is told, and then the counts
    abbrev pub CountsCall : (output output' : FromWrite W) → (errors errors' : Errors E) → Type 0
    CountsCall output output' errors errors' = LoadsCall call left (λ load between.
        AreRedacted (work_by call load) (names_asked call.given) between left' (output_bytes Writes output) (output_bytes Writes output')
        × WarnsAndCounts K call load between left' errors errors')

    -- all that is so where all files were redacted
    abbrev pub RedactsEach : (output output' : FromWrite W) → (errors errors' : Errors E) → Type 0
    RedactsEach output output' errors errors' = DoneCall K call left (RedactsCall call left left' output output')
        (LeavesNone call left left' output output') (CountsCall output output' errors errors') errors errors'

    -- what comes of a call
    pub record CallOutcome (result : Result Bool Failure) (output output' : FromWrite W) (errors errors' : Errors E) : Type 0 where
      pub comes : ComesOf K (IsLineOf call (OutputFails output output')) (λ all. all) (λ all. RedactsEach output output' errors errors')
          (TellsSome K (IsLineOf call (OutputFails output output')) errors errors') (BeginsCall call left left' output output') (Unit {0}) (MayFail call (OutputFails output output')) result errors errors'
      pub numbers : TellsAnyNumbers K call left left' errors errors'

-- what holds of a call from one state of the streams to another
abbrev pub OfCall : {R W E : Type 0} {Reads : Readers R}
    → (Call → (left left' : Option (List ℕ)) → (output output' : FromWrite W) → Type 0)
    → Call → (streams streams' : Streams R W E Reads) → Type 0
OfCall Is call streams streams' = Is call (bytes_left streams.input) (bytes_left streams'.input) streams.output streams'.output

module _ {R : Type 0} {Reads : Readers R} {W : Type 0} (Writes : Writers W) where
  module _ {E : Type 0} (K : SinkGhosts E) where
    -- all that is so where all files of a call were redacted, from one state of the streams to another
    abbrev pub RedactsWhole : Call → (streams streams' : Streams R W E Reads) → Type 0
    RedactsWhole call streams streams' =
        RedactsEach Writes K call (bytes_left streams.input) (bytes_left streams'.input) streams.output streams'.output streams.errors streams'.errors

    -- and of a call whose patterns are to be loaded
    abbrev pub AskedOutcome : {F X : Type 0} → Folders F X → F → List Given
        → Result Bool Failure → (streams streams' : Streams R W E Reads) → Type 0
    AskedOutcome D folder given result streams streams' =
        CallOutcome Writes K (call_of D folder given) (bytes_left streams.input) (bytes_left streams'.input) result streams.output streams'.output streams.errors streams'.errors

  module _ {E F X : Type 0} (D : Folders F X) (folder : F) (given : List Given) (streams streams' : Streams R W E Reads) where
    -- what these options and files ask for is redacted
    abbrev pub RedactsAsked : Type 0
    RedactsAsked = OfCall (RedactsCall Writes) (call_of D folder given) streams streams'

    -- and no pattern is left
    abbrev pub LeavesNoneAsked : Type 0
    LeavesNoneAsked = OfCall (LeavesNone Writes) (call_of D folder given) streams streams'

    -- and no form shows one
    abbrev pub HidesAsked : Type 0
    HidesAsked = OfCall (HidesCall Writes) (call_of D folder given) streams streams'

    -- or some of it, and nothing else is written
    abbrev pub BeginsAsked : Type 0
    BeginsAsked = OfCall (BeginsCall Writes) (call_of D folder given) streams streams'

  -- and counted
  abbrev pub CountsAsked : {E F X : Type 0} → SinkGhosts E → Folders F X
      → F → List Given → (streams streams' : Streams R W E Reads) → Type 0
  CountsAsked K D folder given streams streams' = OfCall (λ call left left' output output'. CountsCall Writes K call left left' output output' streams.errors streams'.errors) (call_of D folder given) streams streams'

-- one line or more of a call that asks for this is told
abbrev pub TellsAsked : {R W E F X : Type 0} {Reads : Readers R} → SinkGhosts E
    → Folders F X → F → List Given → (streams streams' : Streams R W E Reads) → Type 0
TellsAsked K D folder given streams streams' =
    TellsSome K (IsLineOf (call_of D folder given) (OutputFails streams.output streams'.output)) streams.errors streams'.errors

-- the pieces of a call that asks for this are told, where they are not clean
abbrev pub WarnsAsked : {R W E F X : Type 0} {Reads : Readers R} → SinkGhosts E
    → Folders F X → F → List Given → (streams streams' : Streams R W E Reads) → Type 0
WarnsAsked K D folder given streams streams' =
    WarnsCall K (call_of D folder given) (bytes_left streams.input) streams.errors streams'.errors

-- numbers that a call that asks for this tells are no greater than what was read
abbrev pub NumbersToldAsked : {R W E F X : Type 0} {Reads : Readers R} → SinkGhosts E
    → Folders F X → F → List Given → (streams streams' : Streams R W E Reads) → Type 0
NumbersToldAsked K D folder given streams streams' =
    TellsUpToEnd K (call_of D folder given) (OutputFails streams.output streams'.output) (bytes_left streams.input) (bytes_left streams'.input) streams.errors streams'.errors
