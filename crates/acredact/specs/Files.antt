-- What is written of files, one after another, and what is told of those that cannot be read.
use Rattle.acredact.specs.Common.{FromWrite, Ghosts, Keeps, Patterns, PieceRule, Readers, Reason, SinkGhosts, StreamError, TellsBytes, Writers, bytes_left, concat, counted, name_bytes, output_bytes, pieces_of}
use Rattle.std.specs.Prelude.{◌≡◌, ◌⊎◌, ℕ, ◌≤◌, ◌&&◌, length, Bool, true, false, List, [], ◌∷◌, ◌++◌, Option, None, Some, Result, Ok, Err, IfErr, IfOk, OnErr, option_map}
use Rattle.aho_devices.specs.Refusals.{is_write_fault, is_write_of_nothing}
use Rattle.tool_parts.specs.Messages.{reason_text}
use Rattle.acredact.specs.Deeds.{BegunAs, Deed, SomeText, WholeText, WrittenAs}
use Rattle.acredact.specs.Faults.{IsOutputEnd, IsReadReason}
use Rattle.acredact.specs.Messages.{line_about, output_line}
use Rattle.acredact.specs.Reads.{EachName, OfName}
use Rattle.acredact.specs.Secrets.{AreReplaced, BeginsRedaction, IsPromptUpTo, IsRedaction, IsWrittenUpTo, CanRedact, Keyed, NoneOccurs, Redactor, key_of_cover, rule_by}
use Rattle.acredact.specs.declared.files.Job.{Job}
use Rattle.acredact.specs.declared.folder.Folder.{Ghosts as Folders}
use Rattle.acredact.specs.declared.ways.Key.{Key}
use Rattle.acredact.specs.declared.streams.Streams.{Streams}

-- what is done to which files: what the folder holds under a name, where it tells that, why it may not open what has the name, and
-- whether the output may go to that
pub record Work : Type 1 where
  pub holds : List ℕ → Option (List ℕ)
  pub refuses : List ℕ → Reason → Type 0
  pub meets : List ℕ → Bool → Type 0
  pub names : List (List ℕ)
  pub redactor : Redactor

abbrev pub keyed_of : Key → Keyed
keyed_of key = record { bytes = key.bytes.now; ignore_case = key.ignore_case }

abbrev pub key_for : Bool → Option Key → Option Keyed
key_for covers key = key_of_cover covers (option_map keyed_of key)

-- what stands in the place of each range, whatever the patterns are
abbrev pub rule_for : {F : Type 0} → Job F → PieceRule
rule_for job = rule_by (key_for job.covers job.key) (pieces_of job.replacements.now)

abbrev pub redactor_of : {F : Type 0} → Job F → Patterns → Redactor
redactor_of job p = record {
  patterns = p;
  covers = job.covers;
  words = job.covers && job.words;
  pieces = pieces_of job.replacements.now;
  key = key_for job.covers job.key;
}

-- an automaton suits it
abbrev pub CanDo : {A F : Type 0} → Ghosts A → A → Job F → Type 0
CanDo G automaton job = CanRedact G automaton job.covers job.replacements.now

abbrev pub work_of : {F X : Type 0} → Folders F X → Job F → Redactor → Work
work_of D job r = record {
  holds = D.holds job.folder.now;
  refuses = D.refuses job.folder.now;
  meets = D.meets job.folder.now;
  names = name_bytes job.names.now;
  redactor = r;
}

-- the same, whatever is done to each file
pub record Task : Type 1 where
  pub holds : List ℕ → Option (List ℕ)
  pub refuses : List ℕ → Reason → Type 0
  pub meets : List ℕ → Bool → Type 0
  pub deed : Deed

abbrev pub task_in : {F X : Type 0} → Folders F X → F → Deed → Task
task_in D folder deed = record { holds = D.holds folder; refuses = D.refuses folder; meets = D.meets folder; deed = deed }

-- some bytes were read, and the redaction was written up to a place, behind which lies what is in a match or may be
pub record ReachesPlace (r : Redactor) (given : List ℕ) (ended : Bool) (held held' : Option (List ℕ)) : Type 0 where
  pub place : ℕ
  pub within : place ≤ length given
  pub prompt : IsPromptUpTo r given place
  pub written : IsWrittenUpTo r given ended place held held'

-- what is done by patterns
abbrev pub deed_of : Redactor → Deed
deed_of r = record {
  writes = IsRedaction r;
  begins = BeginsRedaction r;
  nears = λ given ended held held'. r.covers ≡ true → ReachesPlace r given ended held held';
  counts = AreReplaced r;
  measured = true;
}

abbrev pub task_of : Work → Task
task_of work = record { holds = work.holds; refuses = work.refuses; meets = work.meets; deed = deed_of work.redactor }

-- a text was read to its end, and what is this of it was written
abbrev pub WritesText : (Is : List ℕ → List ℕ → Type 0) → (left left' held held' : Option (List ℕ)) → Type 0
WritesText Is left left' held held' = WholeText (WrittenAs Is held held') left left'

-- some of a text was read, and what is this for so much of it was written
abbrev pub BeginsWriting : (Begins : List ℕ → Bool → List ℕ → Type 0) → (left left' held held' : Option (List ℕ)) → Type 0
BeginsWriting Begins left left' held held' = SomeText (BegunAs Begins held held') left left'

-- and what was written comes so near to it
abbrev pub NearsText : Deed → (left left' held held' : Option (List ℕ)) → Type 0
NearsText d left left' held held' = SomeText (λ given ended. d.nears given ended held held') left left'

-- a redaction in which no pattern occurs
abbrev pub IsFree : Redactor → List ℕ → List ℕ → Type 0
IsFree r text redaction = IsRedaction r text redaction × NoneOccurs r.patterns redaction

-- this of the file of a name was written
abbrev pub WritesNamed : (holds : List ℕ → Option (List ℕ)) → (Is : List ℕ → List ℕ → Type 0) → List ℕ → (left left' held held' : Option (List ℕ)) → Type 0
WritesNamed holds Is name left left' held held' = OfName holds name (λ l l'. WritesText Is l l' held held') left left'

-- its redaction was
abbrev pub RedactsName : Task → List ℕ → (left left' held held' : Option (List ℕ)) → Type 0
RedactsName task name left left' held held' = WritesNamed task.holds task.deed.writes name left left' held held'

-- or a beginning of it
abbrev pub BeginsNamed : Task → List ℕ → (left left' held held' : Option (List ℕ)) → Type 0
BeginsNamed task name left left' held held' = OfName task.holds name (λ l l'. BeginsWriting task.deed.begins l l' held held') left left'

-- of each file its redaction was written, one after another: the output goes to none
abbrev pub EachIsWritten : Task → List (List ℕ) → (left left' held held' : Option (List ℕ)) → Type 0
EachIsWritten task names left left' held held' = EachName (λ name l l' h h'. task.meets name false × RedactsName task name l l' h h') names left left' held held'

abbrev pub AreRedacted : Work → List (List ℕ) → (left left' held held' : Option (List ℕ)) → Type 0
AreRedacted work names left left' held held' = EachIsWritten (task_of work) names left left' held held'

-- and no pattern occurs in the redaction of any file
abbrev pub AreFree : Work → List (List ℕ) → (left left' held held' : Option (List ℕ)) → Type 0
AreFree work names left left' held held' = EachName (WritesNamed work.holds (IsFree work.redactor)) names left left' held held'

-- what comes of what was read of something: its redaction was written; or, where a read failed or there was too much, a beginning of it, that
-- comes near to what was read; or it was refused for a reason. Where the call ends a beginning was
abbrev pub ComesOfReading : (Of : (Option (List ℕ) → Option (List ℕ) → Type 0) → Type 0) → (Refused : Reason → Type 0) → Deed
    → Result (Option Reason) StreamError → (held held' : Option (List ℕ)) → Type 0
ComesOfReading Of Refused d (Ok None) held held' = Of (λ l l'. WritesText d.writes l l' held held')
ComesOfReading Of Refused d (Ok (Some reason)) held held' =
    (IsReadReason reason × Of (λ l l'. BeginsWriting d.begins l l' held held') × Of (λ l l'. NearsText d l l' held held')) ⊎ Refused reason
ComesOfReading Of Refused d (Err error) held held' = Of (λ l l'. BeginsWriting d.begins l l' held held')

-- the folder refuses the file of a name, and nothing was read or written
abbrev pub RefusesName : Task → List ℕ → (left left' held held' : Option (List ℕ)) → Reason → Type 0
RefusesName task name left left' held held' reason = task.refuses name reason × (left' ≡ left) × Keeps held held'

-- what comes of the file of a name
abbrev pub ComesOfFile : Task → List ℕ → Result (Option Reason) StreamError → (left left' held held' : Option (List ℕ)) → Type 0
ComesOfFile task name result left left' held held' =
    ComesOfReading (λ Reads. OfName task.holds name Reads left left') (RefusesName task name left left' held held') task.deed result held held'

-- the line that tells why a file was not read to its end
abbrev pub unread_line : List ℕ → Reason → List ℕ
unread_line name reason = line_about name (reason_text reason)

-- the redaction of a file was written, and nothing is told; or the file was not read to its end, and it is told why; or it is told that
-- the output goes to the file, which was not read
abbrev pub IsDone : Task → List ℕ → (lines : List (List ℕ)) → (left left' held held' : Option (List ℕ)) → Type 0
IsDone task name lines left left' held held' =
    ((lines ≡ []) × task.meets name false × RedactsName task name left left' held held')
    ⊎ (((reason : Reason) × (lines ≡ unread_line name reason ∷ []) × ComesOfFile task name (Ok (Some reason)) left left' held held')
    ⊎ ((lines ≡ output_line name ∷ []) × task.meets name true × (left' ≡ left) × Keeps held held'))

-- that is so of each file, one after another
abbrev pub AreDone : Task → List (List ℕ) → (lines : List (List ℕ)) → (left left' held held' : Option (List ℕ)) → Type 0
AreDone task [] lines left left' held held' = (lines ≡ []) × (left' ≡ left) × Keeps held held'
AreDone task (name ∷ names) lines left left' held held' =
    (first : List (List ℕ)) × (rest : List (List ℕ)) × (lines ≡ first ++ rest)
    × (between : Option (List ℕ)) × (meanwhile : Option (List ℕ))
    × IsDone task name first left between held meanwhile × AreDone task names rest between left' meanwhile held'

-- that is so of some first files, and then a beginning of the redaction of the next was written
abbrev pub AreCut : Task → List (List ℕ) → (lines : List (List ℕ)) → (left left' held held' : Option (List ℕ)) → Type 0
AreCut task [] lines left left' held held' = (lines ≡ []) × (left' ≡ left) × Keeps held held'
AreCut task (name ∷ names) lines left left' held held' =
    ((lines ≡ []) × BeginsNamed task name left left' held held')
    ⊎ ((first : List (List ℕ)) × (rest : List (List ℕ)) × (lines ≡ first ++ rest)
    × (between : Option (List ℕ)) × (meanwhile : Option (List ℕ))
    × IsDone task name first left between held meanwhile × AreCut task names rest between left' meanwhile held')

-- whether there are none
abbrev pub are_none : List (List ℕ) → Bool
are_none [] = true
are_none (line ∷ lines) = false

-- a fault of the output is answered exactly where its count rose, and no other but that memory ran out
pub record FailsByOutput {X W : Type 0} (result : Result X StreamError) (output output' : FromWrite W) : Type 0 where
  pub write_failed : output'.failures ≡ counted (is_write_fault result) output.failures
  pub took_nothing : output'.empty_writes ≡ counted (is_write_of_nothing result) output.empty_writes
  pub only : IfErr result IsOutputEnd

module _ {W : Type 0} (Writes : Writers W) {R : Type 0} {Reads : Readers R} {E : Type 0} (K : SinkGhosts E) where
  -- this is written, and these lines are told
  abbrev pub Does : Streams R W E Reads → Streams R W E Reads
      → ((left left' held held' : Option (List ℕ)) → Type 0) → List (List ℕ) → Type 0
  Does streams streams' Written lines =
      Written (bytes_left streams.input) (bytes_left streams'.input) (output_bytes Writes streams.output) (output_bytes Writes streams'.output)
      × TellsBytes K streams.errors streams'.errors (concat lines)

  -- what comes of all files
  pub record TaskOutcome (task : Task) (names : List (List ℕ)) (result : Result Bool StreamError) (streams streams' : Streams R W E Reads) : Type 0 where
    pub done : IfOk result (λ all. (lines : List (List ℕ)) × (all ≡ are_none lines) × Does streams streams' (AreDone task names lines) lines)
    pub cut : OnErr result ((lines : List (List ℕ)) × Does streams streams' (AreCut task names lines) lines)
    pub quiet : result ≡ Ok true → streams'.errors ≡ streams.errors
    pub fails : FailsByOutput result streams.output streams'.output

  -- by patterns
  abbrev pub FilesOutcome : Work → Result Bool StreamError → (streams streams' : Streams R W E Reads) → Type 0
  FilesOutcome work result streams streams' = TaskOutcome (task_of work) work.names result streams streams'
