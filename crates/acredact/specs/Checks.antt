-- What a check sees of files, one after another, and what it tells.
use Rattle.acredact.specs.Common.{All, Errors, FromRead, Ghosts, IsMember, Keeps, OutOfMemory, Patterns, Readers, Reason, SinkGhosts, Tells, TellsBytes, bytes_left, concat, name_bytes}
use Rattle.std.specs.Prelude.{◌≡◌, ◌⊎◌, ℕ, ◌<◌, ◌||◌, Bool, true, false, List, [], ◌∷◌, ◌++◌, Option, None, Result, IfOk}
use mathlib.Core.Logic.{inl}
use Rattle.acredact.specs.Arguments.{Given, GivesNoPattern, has, words_asked, gives_pattern}
use Rattle.acredact.specs.Builds.{patterns_by_given}
use Rattle.acredact.specs.Calls.{Call, IsBuildRefusal, IsUnreadLine, call_of, names_asked, reading_by}
use Rattle.acredact.specs.Doubts.{IsDoubtFailure, TellsDoubts, all_doubt_lines}
use Rattle.acredact.specs.Failures.{IsFailureLine}
use Rattle.acredact.specs.Files.{BeginsWriting, are_none}
use Rattle.acredact.specs.Loading.{AreGiven, CannotLoadAll}
use Rattle.acredact.specs.Looks.{CanLook, BeginsToTell, IsLook, IsReadLook, LookedText, Sought, look_lines, sought, verdict_of}
use Rattle.acredact.specs.Outcomes.{ComesOf}
use Rattle.acredact.specs.Reads.{EachName, OfName}
use Rattle.acredact.specs.Tables.{Secret, patterns_in}
use Rattle.acredact.specs.declared.mistakes.Mistake.TheVariants.{NoPattern, OutOfMemory as NoRoom}
use Rattle.acredact.specs.declared.options.Word.TheVariants.{Strict}
use Rattle.acredact.specs.declared.failure.Failure.{Failure}
use Rattle.acredact.specs.declared.failure.Failure.TheVariants.{Arguments, Other}
use Rattle.acredact.specs.declared.folder.Folder.{Ghosts as Folders}
use Rattle.acredact.specs.declared.look.Look.{Look}
use Rattle.acredact.specs.declared.look.Look.TheVariants.{Output, Unread}
use Rattle.acredact.specs.declared.looker.Looker.{Ghosts as Lookers}
use Rattle.acredact.specs.declared.look.Searched.{Searched}
use Rattle.acredact.specs.declared.look.Verdict.{Verdict}
use Rattle.acredact.specs.declared.streams.Streams.{Streams}

-- what is looked for, what the folder holds under a name, where it tells that, why it may not open what has the name, and whether it is told to
-- the output what is found
pub record Quest : Type 1 where
  pub holds : List ℕ → Option (List ℕ)
  pub refuses : List ℕ → Reason → Type 0
  pub tells : Bool
  pub sought : Sought

abbrev pub quest_of : {F X : Type 0} → Folders F X → Searched F → Sought → Quest
quest_of D files s = record { holds = D.holds files.folder.now; refuses = D.refuses files.folder.now; tells = files.tells; sought = s }

-- of a call
abbrev pub quest_for : Call → (tells : Bool) → Sought → Quest
quest_for call tells s = record { holds = call.holds; refuses = call.refuses; tells = tells; sought = s }

abbrev pub texts_looked_for : List Given → List Secret → Sought
texts_looked_for given secrets = inl (sought (patterns_by_given given (patterns_in secrets)) (words_asked given))

abbrev pub quest_by : Call → List Secret → Quest
quest_by call secrets = quest_for call false (texts_looked_for call.given secrets)

-- a file is not opened: the folder refuses it, or the output goes to it
abbrev pub IsNotOpened : Quest → List ℕ → Look → Type 0
IsNotOpened quest name (Unread reason) = quest.refuses name reason
IsNotOpened quest name Output = quest.tells ≡ true
IsNotOpened quest name other = ⊥

-- what may be found of the file of a name: what may be found of one that is opened, or that it is not opened
abbrev pub MayBeTold : Quest → List ℕ → Look → Type 0
MayBeTold quest name look = IsReadLook look ⊎ IsNotOpened quest name look

-- it was found to be this
abbrev pub IsLookOf : Quest → List ℕ → Look → (left left' held held' : Option (List ℕ)) → Type 0
IsLookOf quest name look left left' held held' =
    MayBeTold quest name look
    × OfName quest.holds name (λ l l'. BeginsWriting (λ given ended part. IsLook quest.sought name look given ended part) l l' held held') left left'

-- or it was read up to some place
abbrev pub BeginsLook : Quest → List ℕ → (left left' held held' : Option (List ℕ)) → Type 0
BeginsLook quest name left left' held held' =
    OfName quest.holds name (λ l l'. BeginsWriting (λ given ended part. BeginsToTell quest.sought name given ended part) l l' held held') left left'

-- what comes of it
abbrev pub LookedNamed : Quest → List ℕ → Result Look Failure → (left left' held held' : Option (List ℕ)) → Type 0
LookedNamed quest name result left left' held held' =
    IfOk result (MayBeTold quest name) × OfName quest.holds name (λ l l'. LookedText quest.sought name result l l' held held') left left'

-- each file was looked at, one after another: whether something was found in one, and the lines that were told
abbrev pub AreSeen : Quest → List (List ℕ) → (found : Bool) → (lines : List (List ℕ)) → (left left' held held' : Option (List ℕ)) → Type 0
AreSeen quest [] found lines left left' held held' = (found ≡ false) × (lines ≡ []) × (left' ≡ left) × Keeps held held'
AreSeen quest (name ∷ names) found lines left left' held held' =
    (look : Look) × (others : Bool) × (rest : List (List ℕ)) × (found ≡ ((verdict_of look).found || others)) × (lines ≡ look_lines name look ++ rest)
    × (between : Option (List ℕ)) × (meanwhile : Option (List ℕ))
    × IsLookOf quest name look left between held meanwhile × AreSeen quest names others rest between left' meanwhile held'

-- of a call whose patterns were loaded each file was looked at so: where nothing was found and no line told, nothing counts in any
pub record SeesCall (call : Call) (found : Bool) (lines : List (List ℕ)) (left left' : Option (List ℕ)) : Type 0 where
  pub some : gives_pattern call.given ≡ true
  pub secrets : List Secret
  pub between : Option (List ℕ)
  pub loaded : AreGiven (reading_by call) call.given secrets left between
  pub seen : AreSeen (quest_by call secrets) (names_asked call.given) found lines between left' None None

-- why patterns are not searched for: the library refuses just these, or memory runs out
abbrev pub IsBuildFailure : Patterns → Failure → Type 0
IsBuildFailure p failure = IsBuildRefusal p failure ⊎ (failure ≡ Other OutOfMemory)

-- a pattern of a list that may be meant otherwise is refused
abbrev pub IsDoubtedCheck : Call → Failure → Type 0
IsDoubtedCheck call failure = (secrets : List Secret) × (left : Option (List ℕ)) × (between : Option (List ℕ))
    × AreGiven (reading_by call) call.given secrets left between × IsDoubtFailure (has Strict call.given) call.given secrets failure

-- those that were loaded are refused
abbrev pub IsRefusedCheck : Call → Failure → Type 0
IsRefusedCheck call failure = (secrets : List Secret) × (left : Option (List ℕ)) × (between : Option (List ℕ))
    × AreGiven (reading_by call) call.given secrets left between
    × IsBuildRefusal (patterns_by_given call.given (patterns_in secrets)) failure

-- why a check ends early: there is no pattern, one of the options cannot be loaded, memory runs out, the patterns are refused, or a
-- pattern of a list is
abbrev pub CheckFails : Call → Failure → Type 0
CheckFails call failure =
    ((failure ≡ Arguments NoRoom) ⊎ ((failure ≡ Arguments NoPattern) × GivesNoPattern call.given))
    ⊎ (CannotLoadAll (reading_by call) call.given failure ⊎ (IsRefusedCheck call failure ⊎ IsDoubtedCheck call failure))

-- a line that warns of a pattern of a list that was loaded, where such a one is not refused
abbrev pub WarnsOfList : Call → List ℕ → Type 0
WarnsOfList call line = (has Strict call.given ≡ false) × (secrets : List Secret) × (left : Option (List ℕ)) × (between : Option (List ℕ))
    × AreGiven (reading_by call) call.given secrets left between × IsMember (all_doubt_lines call.given secrets) line

-- what may be told of a check before it ends: of a file that cannot be read, or such a warning
abbrev pub IsCheckLine : Call → List ℕ → Type 0
IsCheckLine call line = IsUnreadLine (names_asked call.given) line ⊎ WarnsOfList call line

-- what an exit status says: that nothing was found, or that something was, and what is told then, or else what tells why not all was read
pub record CheckSays (Unmatched Matched Quiet Told : Type 0) (status : ℕ) : Type 0 where
  pub unmatched : status ≡ 0 → Unmatched
  pub matched : status ≡ 1 → Matched
  pub quiet : status < 2 → Quiet
  pub tells : status ≡ 2 → Told

module _ {E : Type 0} (K : SinkGhosts E) where
  -- of a call whose patterns were loaded each file was looked at, and these lines were told, behind what is told of patterns of lists
  pub record LooksBehind (call : Call) (found : Bool) (lines : List (List ℕ)) (left left' : Option (List ℕ)) (errors errors' : Errors E) : Type 0 where
    pub sees : SeesCall call found lines left left'
    pub between : Errors E
    pub doubts : TellsDoubts K (has Strict call.given) call.given sees.secrets errors between
    pub told : TellsBytes K between errors' (concat lines)

  -- nothing was told but of the patterns of the lists that were loaded
  pub record TellsListsAlone (call : Call) (left : Option (List ℕ)) (errors errors' : Errors E) : Type 0 where
    pub secrets : List Secret
    pub between : Option (List ℕ)
    pub loaded : AreGiven (reading_by call) call.given secrets left between
    pub doubts : TellsDoubts K (has Strict call.given) call.given secrets errors errors'

  -- what comes of looking at files by these names: lines are told of those that cannot be read
  pub record SeesFiles (quest : Quest) (names : List (List ℕ)) (result : Result Verdict Failure) (left left' held held' : Option (List ℕ)) (errors errors' : Errors E) : Type 0 where
    pub told : Tells K (IsUnreadLine names) errors errors'
    pub begun : EachName (BeginsLook quest) names left left' held held'
    pub seen : IfOk result (λ verdict. (verdict.all ≡ are_none told.told) × (verdict.all ≡ true → errors' ≡ errors) × AreSeen quest names verdict.found told.told left left' held held')

  -- each file was looked at, and each that cannot be read is told: there is one
  pub record TellsUnread (call : Call) (left left' : Option (List ℕ)) (errors errors' : Errors E) : Type 0 where
    pub found : Bool
    pub lines : List (List ℕ)
    pub some : are_none lines ≡ false
    pub seen : LooksBehind call found lines left left' errors errors'

  -- what comes of a check
  abbrev pub CheckOutcome : Call → Result Verdict Failure → (left left' : Option (List ℕ)) → (errors errors' : Errors E) → Type 0
  CheckOutcome call result left left' errors errors' =
      ComesOf K (IsCheckLine call) (λ verdict. verdict.all) (λ verdict. SeesCall call verdict.found [] left left') (TellsUnread call left left' errors errors')
      (Unit {0}) (TellsListsAlone call left errors errors') (CheckFails call) result errors errors'

  -- it is told why the check ends early, behind what was told of patterns of lists and of files
  pub record TellsCheckEnd (call : Call) (errors errors' : Errors E) : Type 0 where
    pub lines : List (List ℕ)
    pub are_told : All (IsCheckLine call) lines
    pub failure : Failure
    pub fails : CheckFails call failure
    pub line : List ℕ
    pub is_line : IsFailureLine failure line
    pub told : TellsBytes K errors errors' (concat lines ++ line)

  -- what the exit status of a check says
  abbrev pub CheckStatus : Call → (status : ℕ) → (left left' : Option (List ℕ)) → (errors errors' : Errors E) → Type 0
  CheckStatus call status left left' errors errors' =
      CheckSays (SeesCall call false [] left left') (SeesCall call true [] left left') (TellsListsAlone call left errors errors')
      (TellsUnread call left left' errors errors' ⊎ TellsCheckEnd call errors errors') status

-- what holds of all that is looked for
abbrev pub IfSought : {L : Type 0} → Lookers L → L → (Sought → Type 0) → Type 0
IfSought G looker Holds = (s : Sought) → G.by looker s → Holds s

-- what looks for patterns looks for these
pub record IsByTexts {A : Type 0} (G : Ghosts A) (automaton : A) (words : Bool) (s : Sought) : Type 0 where
  pub can : CanLook G automaton words
  pub is : s ≡ inl (sought can.patterns words)

module _ {F X R W : Type 0} {Reads : Readers R} (J : SinkGhosts W) where
  -- what comes of looking at the file of a name
  abbrev pub LooksAtName : Folders F X → Searched F → List ℕ → Result Look Failure
      → (input input' : FromRead R Reads) → (output output' : W) → Sought → Type 0
  LooksAtName D files name result input input' output output' s =
      LookedNamed (quest_of D files s) name result (bytes_left input) (bytes_left input') (J.taken output) (J.taken output')

  -- and at all files
  abbrev pub SeesSearched : {E : Type 0} → SinkGhosts E → Folders F X → Searched F → Result Verdict Failure
      → (input input' : FromRead R Reads) → (output output' : W) → (errors errors' : Errors E) → Sought → Type 0
  SeesSearched K D files result input input' output output' errors errors' s =
      SeesFiles K (quest_of D files s) (name_bytes files.names.now) result (bytes_left input) (bytes_left input') (J.taken output) (J.taken output') errors errors'

-- the same of the input, by what the folder and the options say
module _ {E F Y R : Type 0} {Reads : Readers R} (K : SinkGhosts E) (D : Folders F Y) where
  -- what comes of looking for patterns that are given
  abbrev pub ChecksGiven : F → List Given → Result Verdict Failure
      → (input input' : FromRead R Reads) → (errors errors' : Errors E) → Type 0
  ChecksGiven folder given result input input' errors errors' =
      CheckOutcome K (call_of D folder given) result (bytes_left input) (bytes_left input') errors errors'

  abbrev pub EndsCheck : F → List Given → ℕ → (input input' : FromRead R Reads) → (errors errors' : Errors E) → Type 0
  EndsCheck folder given status input input' errors errors' =
      CheckStatus K (call_of D folder given) status (bytes_left input) (bytes_left input') errors errors'

-- the same of a call, which writes nothing
pub record ChecksAlone {R W E : Type 0} {Reads : Readers R} (K : SinkGhosts E) (call : Call) (status : ℕ) (streams streams' : Streams R W E Reads) : Type 0 where
  pub patternless : GivesNoPattern call.given → status ≡ 2
  pub unread : GivesNoPattern call.given → streams'.input ≡ streams.input
  pub says : CheckStatus K call status (bytes_left streams.input) (bytes_left streams'.input) streams.errors streams'.errors
  pub unwritten : streams'.output ≡ streams.output

module _ {R W E F X : Type 0} {Reads : Readers R} (D : Folders F X) (folder : F) (given : List Given) (streams streams' : Streams R W E Reads) where
  -- of a call that asks for this each file was read to its end, and nothing counts in any
  abbrev pub UnmatchedAsked : Type 0
  UnmatchedAsked = SeesCall (call_of D folder given) false [] (bytes_left streams.input) (bytes_left streams'.input)

  -- each file was read to its end or up to what counts, and there is that in one
  abbrev pub MatchedAsked : Type 0
  MatchedAsked = SeesCall (call_of D folder given) true [] (bytes_left streams.input) (bytes_left streams'.input)

  -- nothing was told but of patterns of lists
  abbrev pub TellsListsAsked : SinkGhosts E → Type 0
  TellsListsAsked K = TellsListsAlone K (call_of D folder given) (bytes_left streams.input) streams.errors streams'.errors

  -- a line or more tell why not
  abbrev pub TellsUncheckedAsked : SinkGhosts E → Type 0
  TellsUncheckedAsked K =
      TellsUnread K (call_of D folder given) (bytes_left streams.input) (bytes_left streams'.input) streams.errors streams'.errors
      ⊎ TellsCheckEnd K (call_of D folder given) streams.errors streams'.errors
