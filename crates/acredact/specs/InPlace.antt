-- What becomes of a file that is named for the output, and of files that are replaced in place: of each a new one is filled, and takes
-- its place where all was done.
use Rattle.acredact.specs.Common.{Errors, FromWrite, OutOfMemory, Patterns, Readers, Reason, SinkGhosts, StreamError, Tells, TellsBytes, TellsSome, Writers, bytes_left, is_input, output_bytes}
use Rattle.std.specs.declared.alloc.AllocError.{AllocError}
use Rattle.std.specs.Prelude.{◌≡◌, ◌⊎◌, ℕ, Bool, true, false, List, [], ◌∷◌, IfSome, Option, Result, Ok, OnOk}
use Rattle.tool_parts.specs.Names.{IsOneOf}
use Rattle.acredact.specs.Arguments.{Given}
use Rattle.acredact.specs.Calls.{Call, DoneCall, IsLineOf, IsUnreadLine, LoadsCall, MayFail, OutputFails, RedactsWhole, TellsUnlessAll, WarnsAndCounts, call_of, names_asked, work_by}
use Rattle.acredact.specs.Failures.{IsFailureLine}
use Rattle.acredact.specs.Files.{AreFree, AreRedacted, Work, redactor_of, unread_line, work_of}
use Rattle.acredact.specs.Messages.{no_file_line, no_output_line}
use Rattle.acredact.specs.Outcomes.{ComesOf, EndSays}
use Rattle.acredact.specs.Ruled.{IsRuledTold, NotesAsked, RuledAsked}
use Rattle.acredact.specs.Totals.{CountsOfName, CountsOfNames}
use Rattle.acredact.specs.Volumes.{ReadsVolume}
use Rattle.acredact.specs.declared.failure.Failure.{Failure}
use Rattle.acredact.specs.declared.failure.Failure.TheVariants.{Other}
use Rattle.acredact.specs.declared.files.Job.{Job}
use Rattle.acredact.specs.declared.folder.Folder.{Ghosts as Folders}
use Rattle.acredact.specs.declared.outputs.Outputs.{Ghosts as Places}
use Rattle.acredact.specs.declared.streams.Streams.{Streams}
use Rattle.acredact.specs.declared.summary.Volume.{Volume}

module _ {O Z : Type 0} (U : Places O Z) (name : List ℕ) where
  -- a new file did not take the place of the one of this name, and was removed: it was not asked to, or it could not
  pub record IsRefused (outputs outputs' : O) : Type 0 where
    pub reason : Reason
    pub meanwhile : O
    pub refused : U.puts_none outputs meanwhile name reason
    pub removed : U.removes meanwhile outputs' name

  abbrev pub IsKept : (outputs outputs' : O) → Type 0
  IsKept outputs outputs' = U.removes outputs outputs' name ⊎ IsRefused outputs outputs'

  -- one was made, and that became of it
  pub record IsDropped (outputs outputs' : O) : Type 0 where
    pub held : Option (List ℕ)
    pub meanwhile : O
    pub made : U.makes outputs meanwhile name held
    pub kept : IsKept meanwhile outputs'

  -- what has the name is as it was: standard input and output have none, or no file was made, or that became of it
  abbrev pub IsSpared : (outputs outputs' : O) → Type 0
  IsSpared outputs outputs' = ((is_input name ≡ true) × (outputs' ≡ outputs))
      ⊎ (((reason : Reason) × U.makes_none outputs outputs' name reason) ⊎ IsDropped outputs outputs')

-- a new file was made, which was empty; as it was left it was flushed, and took the place of the one of this name
pub record TakesPlace {O Z : Type 0} (Writes : Writers Z) (U : Places O Z) (name : List ℕ) (outputs outputs' : O) (file' : FromWrite Z) : Type 0 where
  pub named : is_input name ≡ false
  pub file : FromWrite Z
  pub meanwhile : O
  pub made : U.makes outputs meanwhile name (output_bytes Writes file)
  pub empty : IfSome (output_bytes Writes file) (λ held. held ≡ [])
  pub flushed : file'.device.flushed ≡ true
  pub puts : U.puts meanwhile outputs' name (output_bytes Writes file')

-- it is told why the file of a name is not read or replaced
abbrev pub TellsUnread : {E : Type 0} → SinkGhosts E → List ℕ → (errors errors' : Errors E) → Type 0
TellsUnread K name errors errors' = (reason : Reason) × TellsBytes K errors errors' (unread_line name reason)

-- what a job is to do by these patterns
abbrev pub work_for : {F X : Type 0} → Folders F X → Job F → Patterns → Work
work_for D job p = work_of D job (redactor_of job p)

-- why a file is not replaced, as a line: it cannot be read or replaced, the output goes to it, or it is standard input
abbrev pub IsSparedLine : List ℕ → List ℕ → Type 0
IsSparedLine name line = IsUnreadLine (name ∷ []) line ⊎ ((is_input name ≡ true) × (line ≡ no_file_line name))

-- the same of one of some files
abbrev pub IsSparedOf : List (List ℕ) → List ℕ → Type 0
IsSparedOf names line = (name : List ℕ) × IsOneOf name names × IsSparedLine name line

-- the new files and their places, the streams, the counts, and how much was read
abbrev pub PlaceState : {R : Type 0} → Readers R → (O Z E : Type 0) → Type 0
PlaceState {R} Reads O Z E = O × Streams R Z E Reads × List ℕ × Volume

-- this became of each file, one after another
abbrev pub AreInTurn : {O : Type 0} → (List ℕ → (outputs outputs' : O) → Type 0) → List (List ℕ) → (outputs outputs' : O) → Type 0
AreInTurn Is [] outputs outputs' = outputs' ≡ outputs
AreInTurn {O} Is (name ∷ names) outputs outputs' = (meanwhile : O) × Is name outputs meanwhile × AreInTurn Is names meanwhile outputs'

-- the same up to the last, or to one that was not come to
abbrev pub BeginInTurn : {O : Type 0} → (List ℕ → (outputs outputs' : O) → Type 0) → List (List ℕ) → (outputs outputs' : O) → Type 0
BeginInTurn Is [] outputs outputs' = outputs' ≡ outputs
BeginInTurn {O} Is (name ∷ names) outputs outputs' =
    (outputs' ≡ outputs) ⊎ ((meanwhile : O) × Is name outputs meanwhile × BeginInTurn Is names meanwhile outputs')

module _ {O Z : Type 0} (Writes : Writers Z) (U : Places O Z) (work : Work) where
  -- a new file took the place of the one of this name, and this of that was written into it
  abbrev pub IsFilledBy : (Written : (left left' held held' : Option (List ℕ)) → Type 0) → List ℕ → (outputs outputs' : O) → Type 0
  IsFilledBy Written name outputs outputs' =
      (file' : FromWrite Z) × (new : TakesPlace Writes U name outputs outputs' file')
      × (left : Option (List ℕ)) × (left' : Option (List ℕ)) × Written left left' (output_bytes Writes new.file) (output_bytes Writes file')

  -- all of it was redacted
  abbrev pub IsReplaced : List ℕ → (outputs outputs' : O) → Type 0
  IsReplaced name outputs outputs' = IsFilledBy (AreRedacted work (name ∷ [])) name outputs outputs'

  -- and no pattern occurs in that
  abbrev pub IsFreed : List ℕ → (outputs outputs' : O) → Type 0
  IsFreed name outputs outputs' = IsFilledBy (AreFree work (name ∷ [])) name outputs outputs'

  -- it was replaced or spared
  abbrev pub IsPlaced : List ℕ → (outputs outputs' : O) → Type 0
  IsPlaced name outputs outputs' = IsReplaced name outputs outputs' ⊎ IsSpared U name outputs outputs'

module _ {R O Z E : Type 0} {Reads : Readers R} (Writes : Writers Z) (K : SinkGhosts E) (U : Places O Z) (work : Work) where
  -- what comes of the file of a name: one that is replaced is counted, and one that is spared is told
  pub record PlaceOutcome (name : List ℕ) (result : Result Bool AllocError) (old new : PlaceState Reads O Z E) : Type 0 where
    pub replaced : result ≡ Ok true → IsReplaced Writes U work name old.0 new.0
        × CountsOfName (bytes_left old.1.input) (bytes_left new.1.input) old.2 new.2 work name
        × ReadsVolume work.holds (name ∷ []) old.3 new.3 (bytes_left old.1.input) (bytes_left new.1.input)
    pub placed : IsPlaced Writes U work name old.0 new.0
    pub told : TellsUnlessAll K (IsSparedLine name) result old.1.errors new.1.errors

  -- and of some files, up to one that was not come to where memory ran out
  pub record PlacesOutcome (names : List (List ℕ)) (result : Result Bool AllocError) (old new : PlaceState Reads O Z E) : Type 0 where
    pub replaced : result ≡ Ok true → AreInTurn (IsReplaced Writes U work) names old.0 new.0
        × CountsOfNames (bytes_left old.1.input) (bytes_left new.1.input) old.2 new.2 work names
        × ReadsVolume work.holds names old.3 new.3 (bytes_left old.1.input) (bytes_left new.1.input)
    pub placed : OnOk result (AreInTurn (IsPlaced Writes U work) names old.0 new.0)
    pub begun : BeginInTurn (IsPlaced Writes U work) names old.0 new.0
    pub told : TellsUnlessAll K (IsSparedOf names) result old.1.errors new.1.errors

module _ {O Z E : Type 0} (Writes : Writers Z) (K : SinkGhosts E) (U : Places O Z) (name : List ℕ) (done : Result Bool StreamError) (file : FromWrite Z) where
  -- a new file took its place, where all was done; or it was removed, and it is told why, or was before
  abbrev pub IsSettled : Bool → (outputs outputs' : O) → (errors errors' : Errors E) → Type 0
  IsSettled true outputs outputs' errors errors' = (done ≡ Ok true) × (errors' ≡ errors) × U.puts outputs outputs' name (output_bytes Writes file)
  IsSettled false outputs outputs' errors errors' = IsKept U name outputs outputs' × (((done ≡ Ok false) × (errors' ≡ errors)) ⊎ TellsUnread K name errors errors')

-- what may be told of a call: what is told of a redaction that writes nothing to standard output, and that standard input is no file
abbrev pub IsPlaceLine : Call → List ℕ → Type 0
IsPlaceLine call line = IsLineOf call ⊥ line ⊎ IsSparedOf (names_asked call.given) line

module _ {O Z : Type 0} (Writes : Writers Z) (U : Places O Z) (call : Call) (left : Option (List ℕ)) (outputs outputs' : O) where
  -- the patterns and the key were loaded, and then this became of the files
  abbrev pub LoadsAndPlaces : (Done : Work → List (List ℕ) → Type 0) → Type 0
  LoadsAndPlaces Done = LoadsCall call left (λ load between. Done (work_by call load) (names_asked call.given))

  -- each was replaced
  abbrev pub ReplacesCall : Type 0
  ReplacesCall = LoadsAndPlaces (λ work names. AreInTurn (IsReplaced Writes U work) names outputs outputs')

  -- and no pattern is left in any
  abbrev pub FreesCall : Type 0
  FreesCall = LoadsAndPlaces (λ work names. AreInTurn (IsFreed Writes U work) names outputs outputs')

  -- each was replaced or spared, up to one that was not come to
  abbrev pub SparesCall : Type 0
  SparesCall = LoadsAndPlaces (λ work names. BeginInTurn (IsPlaced Writes U work) names outputs outputs')

  -- or each was, up to the last
  abbrev pub ReachesCall : Type 0
  ReachesCall = LoadsAndPlaces (λ work names. AreInTurn (IsPlaced Writes U work) names outputs outputs')

  -- or no file was made
  abbrev pub KeepsCall : Type 0
  KeepsCall = (outputs' ≡ outputs) ⊎ SparesCall

  -- a failure ends a call before a file is made, or behind all files, or where memory runs out
  pub record EndsPlaces (failure : Failure) : Type 0 where
    pub may : MayFail call ⊥ failure
    pub ends : (outputs' ≡ outputs) ⊎ (ReachesCall ⊎ ((failure ≡ Other OutOfMemory) × SparesCall))

module _ {O Z E : Type 0} (Writes : Writers Z) (K : SinkGhosts E) (U : Places O Z) (call : Call) (left : Option (List ℕ)) where
  -- each file was replaced, and nothing is told but of pieces, and counts
  abbrev pub PlacesEach : (outputs outputs' : O) → (errors errors' : Errors E) → Type 0
  PlacesEach outputs outputs' errors errors' = DoneCall K call left
      (ReplacesCall Writes U call left outputs outputs') (FreesCall Writes U call left outputs outputs')
      (LoadsCall call left (λ load between. (after : Option (List ℕ)) × WarnsAndCounts K call load between after errors errors'))
      errors errors'

  -- what comes of a call: that, or it is told which files were spared, or a failure ended it; whatever it is, each file was replaced by its
  -- whole redaction, or is as it was
  pub record CalledPlaces (result : Result Bool Failure) (outputs outputs' : O) (errors errors' : Errors E) : Type 0 where
    pub comes : ComesOf K (IsPlaceLine call) (λ all. all) (λ all. PlacesEach outputs outputs' errors errors') (TellsSome K (IsPlaceLine call) errors errors')
        (KeepsCall Writes U call left outputs outputs') (Unit {0}) (EndsPlaces Writes U call left outputs outputs') result errors errors'
    pub reaches : OnOk result (ReachesCall Writes U call left outputs outputs')

  -- a failure ended it, which is told last
  pub record TellsEnd (outputs outputs' : O) (errors errors' : Errors E) : Type 0 where
    pub failure : Failure
    pub ends : EndsPlaces Writes U call left outputs outputs' failure
    pub meanwhile : Errors E
    pub told : Tells K (IsPlaceLine call) errors meanwhile
    pub line : List ℕ
    pub is_line : IsFailureLine failure line
    pub last : TellsBytes K meanwhile errors' line

  -- what its exit status says
  pub record PlacesStatus (status : ℕ) (outputs outputs' : O) (errors errors' : Errors E) : Type 0 where
    pub bound : (status ≡ 0) ⊎ (status ≡ 2)
    -- where it is 0, each file was replaced, and nothing is told but of pieces, and counts; else lines say why. Whatever it is, each file
    -- was replaced by its whole redaction, or is as it was
    pub says : EndSays K (IsPlaceLine call) (PlacesEach outputs outputs' errors errors') (KeepsCall Writes U call left outputs outputs') status errors errors'
    -- and each file was come to, but where the call ended
    pub reaches : ReachesCall Writes U call left outputs outputs' ⊎ TellsEnd outputs outputs' errors errors'

module _ {F X O Z E R : Type 0} {Reads : Readers R} (Writes : Writers Z) (K : SinkGhosts E) (D : Folders F X) (U : Places O Z) (folder : F) where
  -- what the status says of the call that asks for this
  abbrev pub PlacesAsked : ℕ → (outputs outputs' : O) → (streams streams' : Streams R Z E Reads) → List Given → Type 0
  PlacesAsked status outputs outputs' streams streams' given =
      PlacesStatus Writes K U (call_of D folder given) (bytes_left streams.input) status outputs outputs' streams.errors streams'.errors

-- what may be told where no file is replaced: what is told of a call, or why no new file is made or none takes the place
abbrev pub IsOutputLine : (IsTold : List ℕ → Type 0) → List ℕ → List ℕ → Type 0
IsOutputLine IsTold name line =
    IsTold line ⊎ (((reason : Reason) × (line ≡ unread_line name reason)) ⊎ ((is_input name ≡ true) × (line ≡ no_output_line name)))

module _ {R Z E F X O : Type 0} {Reads : Readers R} (Writes : Writers Z) (K : SinkGhosts E) (D : Folders F X) (U : Places O Z) (folder : F)
    (name : List ℕ) (status : ℕ) (outputs outputs' : O) (streams streams' : Streams R Z E Reads) (given : List Given) where
  -- where the status is 0, a new file took the place of the one of this name, and this was done with it for the output
  abbrev pub WritesNew : (Done : (begun : Streams R Z E Reads) → Type 0) → Type 0
  WritesNew Done = status ≡ 0
      → (new : TakesPlace Writes U name outputs outputs' streams'.output) × Done (record streams { output = new.file })

  -- all was redacted, and what is told is what is told of standard output
  abbrev pub WritesAll : Type 0
  WritesAll = WritesNew (λ begun. RedactsWhole Writes K (call_of D folder given) begun streams')

  -- the same by rules
  abbrev pub WritesAllByRules : Type 0
  WritesAllByRules = WritesNew (λ begun. RuledAsked Writes D folder given begun streams' × NotesAsked K D folder given begun streams')

  -- and where it is not, one line or more says why none did: of what was written to the new file, if one was made
  abbrev pub TellsNone : Type 0
  TellsNone = (status ≡ 0 → ⊥)
      → TellsSome K (IsOutputLine (IsLineOf (call_of D folder given) ⊥) name) streams.errors streams'.errors
      ⊎ ((file : FromWrite Z) × (meanwhile : O) × U.makes outputs meanwhile name (output_bytes Writes file)
      × TellsSome K (IsOutputLine (IsLineOf (call_of D folder given) (OutputFails file streams'.output)) name) streams.errors streams'.errors)

-- what is told of a call with rules where no new file takes the place, whether one was made or not
abbrev pub RuledTellsUnput : {R W E F X : Type 0} {Reads : Readers R} → SinkGhosts E → Folders F X
    → F → List ℕ → ℕ → (streams streams' : Streams R W E Reads) → List Given → Type 0
RuledTellsUnput K D folder name status streams streams' given = (status ≡ 0 → ⊥)
    → TellsSome K (IsOutputLine (IsRuledTold (call_of D folder given)) name) streams.errors streams'.errors
