-- What comes of files.
use Rattle.acredact.specs.Common.{FromRead, FromWrite, Keeps, Occurrence, Patterns, Readers, Reason, SinkGhosts, StreamError, Writers, bytes_left, name_bytes, output_bytes}
use Rattle.std.specs.Prelude.{◌≡◌, ℕ, Bool, IfOk, List, [], None, Ok, OnErr, OnOk, Option, Result, true}
use Rattle.aho_cover.specs.Counting.{CountsThese}
use Rattle.acredact.specs.Bounds.{NumbersOfAll, NumbersRead}
use Rattle.acredact.specs.Deeds.{Deed, WholeText}
use Rattle.acredact.specs.Files.{BeginsNamed, ComesOfReading, Does, FailsByOutput, IsDone, RefusesName, Task, TaskOutcome, are_none, deed_of, redactor_of, task_in}
use Rattle.acredact.specs.Reads.{OfName}
use Rattle.acredact.specs.Totals.{CountsFile, CountsFiles}
use Rattle.acredact.specs.Volumes.{AddsBytes, AddsName, ReadsVolume, files_with}
use Rattle.acredact.specs.declared.files.Job.{Job}
use Rattle.acredact.specs.declared.folder.Folder.{Ghosts as Folders}
use Rattle.acredact.specs.declared.streams.Streams.{Streams}
use Rattle.acredact.specs.declared.summary.Volume.{Volume}

module _ {W : Type 0} (Writes : Writers W) (result : Result (Option Reason) StreamError) (output output' : FromWrite W) (counts counts' : List ℕ) (bytes bytes' : ℕ) where
  -- what comes of what was read of something: what was written of it, and where it was read to its end, what was counted and how much was read
  pub record DoesRead (Of : (Option (List ℕ) → Option (List ℕ) → Type 0) → Type 0) (Refused : Reason → Type 0) (d : Deed) : Type 0 where
    pub comes : ComesOfReading Of Refused d result (output_bytes Writes output) (output_bytes Writes output')
    pub fails : FailsByOutput result output output'
    pub ranges : result ≡ Ok None → (ranges : List Occurrence) × Of (WholeText (λ text. d.counts text ranges)) × CountsThese ranges counts counts'
    pub read : result ≡ Ok None → Of (AddsBytes bytes bytes')
    pub most : d.measured ≡ true → NumbersRead Of counts counts' bytes bytes'

  -- of a text, of which as much may be known as is left, or nothing
  pub record DoesText {R : Type 0} {Reads : Readers R} (input input' : FromRead R Reads) (d : Deed) : Type 0 where
    pub is : (known : Option (List ℕ)) → Keeps known (bytes_left input) → DoesRead (λ Reads. Reads known (bytes_left input')) (λ reason. ⊥) d

  -- of the file of a name
  abbrev pub DoesNamed : (left left' : Option (List ℕ)) → Task → List ℕ → Type 0
  DoesNamed left left' task name = DoesRead (λ Reads. OfName task.holds name Reads left left')
      (RefusesName task name left left' (output_bytes Writes output) (output_bytes Writes output')) task.deed

module _ {R W E : Type 0} {Reads : Readers R} (Writes : Writers W) (K : SinkGhosts E) (task : Task) where
  -- where it is told if it was not read to its end; else nothing is told
  pub record DoesTold (name : List ℕ) (result : Result Bool StreamError) (streams streams' : Streams R W E Reads) (counts counts' : List ℕ) (volume volume' : Volume) : Type 0 where
    pub done : IfOk result (λ whole. (lines : List (List ℕ)) × (whole ≡ are_none lines) × Does Writes K streams streams' (IsDone task name lines) lines)
    pub cut : OnErr result (Does Writes K streams streams' (BeginsNamed task name) [])
    pub whole : result ≡ Ok true → (streams'.errors ≡ streams.errors) × CountsFile (bytes_left streams.input) (bytes_left streams'.input) counts counts' task name
        × AddsName task.holds name volume.bytes volume'.bytes (bytes_left streams.input) (bytes_left streams'.input)
    pub fails : FailsByOutput result streams.output streams'.output
    pub files : IfOk result (λ whole. volume'.files ≡ files_with whole volume.files)
    pub most : task.deed.measured ≡ true → NumbersRead (λ Reads. OfName task.holds name Reads (bytes_left streams.input) (bytes_left streams'.input)) counts counts' volume.bytes volume'.bytes

  -- what was written and told of files, what was counted, and how much was read; and then the output was flushed
  pub record DoesJob (names : List (List ℕ)) (result : Result Bool StreamError) (streams streams' : Streams R W E Reads) (counts counts' : List ℕ) (volume volume' : Volume) : Type 0 where
    pub outcome : TaskOutcome Writes K task names result streams streams'
    pub counted : result ≡ Ok true → CountsFiles (bytes_left streams.input) (bytes_left streams'.input) counts counts' task names
    pub read : result ≡ Ok true → ReadsVolume task.holds names volume volume' (bytes_left streams.input) (bytes_left streams'.input)
    pub most : task.deed.measured ≡ true → OnOk result (NumbersOfAll task.holds names counts counts' volume volume' (bytes_left streams.input) (bytes_left streams'.input))
    pub flushed : OnOk result (streams'.output.device.flushed ≡ true)

-- of the files of a job, by these patterns
abbrev pub DoesByPatterns : {R W E F X : Type 0} {Reads : Readers R} → Writers W → SinkGhosts E → Folders F X → Job F
    → Result Bool StreamError → (streams streams' : Streams R W E Reads) → (counts counts' : List ℕ) → (volume volume' : Volume) → Patterns → Type 0
DoesByPatterns Writes K D job result streams streams' counts counts' volume volume' p =
    DoesJob Writes K (task_in D job.folder.now (deed_of (redactor_of job p))) (name_bytes job.names.now) result streams streams' counts counts' volume volume'
