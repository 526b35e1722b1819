-- The bytes that the input and the output of a call tell of.
use Rattle.std.specs.Prelude.{◌≡◌, ℕ, List, Option, Result, Ok, length}
use Rattle.std.specs.declared.io.traits.Read.{Ghosts as Readers}
use Rattle.std.specs.declared.io.traits.Write.{Ghosts as Writers}
use Rattle.std.specs.Io.KnownBytes.{Appends, Consumes, Keeps}
use Rattle.aho_devices.specs.Counts.{AppendsBeginning, counted}
use Rattle.aho_devices.specs.declared.adapters.FromRead.{FromRead}
use Rattle.aho_devices.specs.declared.adapters.FromWrite.{FromWrite}
use Rattle.aho_stream.specs.After.{greatest_position}
use Rattle.tool_parts.specs.Failures.{fails_by, is_of_empty_write, is_of_read, is_of_write}
use Rattle.tool_parts.specs.declared.failure.Failure.{Failure}

-- what the input's reader has left and what the output's writer holds, before and after
pub record Contents : Type 0 where
  pub left_before : Option (List ℕ)
  pub left_after : Option (List ℕ)
  pub held_before : Option (List ℕ)
  pub held_after : Option (List ℕ)

-- the bytes that a reader has left, where it tells them
abbrev pub bytes_left : {R : Type 0} {Reads : Readers R} → FromRead R Reads → Option (List ℕ)
bytes_left {Reads = Reads} input = Reads.remaining input.device.reader

-- the bytes that a writer holds, where it tells them
abbrev pub output_bytes : {W : Type 0} → Writers W → FromWrite W → Option (List ℕ)
output_bytes Writes output = Writes.contents output.device.writer

-- those of an input and an output, each before and after
abbrev pub contents : {R : Type 0} {Reads : Readers R} {W : Type 0}
    → Writers W → FromRead R Reads → FromRead R Reads → FromWrite W → FromWrite W → Contents
contents Writes input_old input_new output_old output_new = record {
  left_before = bytes_left input_old;
  left_after = bytes_left input_new;
  held_before = output_bytes Writes output_old;
  held_after = output_bytes Writes output_new;
}

module _ {W : Type 0} (Writes : Writers W) where
  -- these bytes are written and nothing else
  abbrev pub WritesBytes : FromWrite W → FromWrite W → List ℕ → Type 0
  WritesBytes old new bytes = Appends (output_bytes Writes old) (output_bytes Writes new) bytes

  -- nothing is
  abbrev pub WritesNothing : FromWrite W → FromWrite W → Type 0
  WritesNothing old new = Keeps (output_bytes Writes old) (output_bytes Writes new)

  -- a beginning of them is
  abbrev pub WritesBeginning : FromWrite W → FromWrite W → List ℕ → Type 0
  WritesBeginning old new bytes = AppendsBeginning (output_bytes Writes old) (output_bytes Writes new) bytes

-- the reader gave these bytes
abbrev pub GivesBytes : {R : Type 0} {Reads : Readers R} → FromRead R Reads → FromRead R Reads → List ℕ → Type 0
GivesBytes old new bytes = Consumes (bytes_left old) (bytes_left new) bytes

-- the reader was not called
abbrev pub Unread : {R : Type 0} {Reads : Readers R} → FromRead R Reads → FromRead R Reads → Type 0
Unread old new = new.device ≡ old.device

-- the writer was not called
abbrev pub Unwritten : {W : Type 0} → FromWrite W → FromWrite W → Type 0
Unwritten old new = new.device ≡ old.device

-- as many bytes were read as a stream may have
abbrev pub ReadsToLimit : Contents → Type 0
ReadsToLimit bytes = (text : List ℕ) × Consumes bytes.left_before bytes.left_after text × (length text ≡ greatest_position)

-- a read's failure is answered exactly where a read failed, by the input's count of them
abbrev pub CountsReads : {R A : Type 0} {Reads : Readers R} → FromRead R Reads → FromRead R Reads → Result A Failure → Type 0
CountsReads old new result = new.failures ≡ counted (fails_by is_of_read result) old.failures

-- a write's failure is answered exactly where a write or a flush failed, or took no bytes, by the output's counts of them
pub record CountsWrites {W A : Type 0} (old new : FromWrite W) (result : Result A Failure) : Type 0 where
  pub failed : new.failures ≡ counted (fails_by is_of_write result) old.failures
  pub took_nothing : new.empty_writes ≡ counted (fails_by is_of_empty_write result) old.empty_writes

-- each failure of a device is answered exactly where that device failed
pub record CountsFaults {R W A : Type 0} {Reads : Readers R} (input_old input_new : FromRead R Reads) (output_old output_new : FromWrite W) (result : Result A Failure) : Type 0 where
  pub reads : CountsReads input_old input_new result
  pub writes : CountsWrites output_old output_new result

-- no device failed
abbrev pub NoFaults : {R W : Type 0} {Reads : Readers R} → FromRead R Reads → FromRead R Reads → FromWrite W → FromWrite W → Type 0
NoFaults input_old input_new output_old output_new = CountsFaults {A = Unit {0}} input_old input_new output_old output_new (Ok tt)
