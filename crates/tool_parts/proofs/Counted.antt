-- Which reads and writes failed, where a failure of a write is handed on.
use Rattle.std.proofs.Common.{◌≡◌, ◌∙◌, ap, false, refl, sym}
use Rattle.std.specs.Prelude.{IfErr, Result, Ok, Err}
use Rattle.std.specs.Result.{IsErrAnd}
use Rattle.aho_devices.specs.Counts.{counted}
use Rattle.aho_devices.specs.declared.adapters.FromWrite.{FromWrite}
use Rattle.std.specs.declared.io.traits.Read.{Ghosts as Readers}
use Rattle.aho_devices.specs.declared.adapters.FromRead.{FromRead}
use Rattle.tool_parts.specs.Failures.{IsOfWrite, fails_by, is_of_empty_write, is_of_read, is_of_write}
use Rattle.tool_parts.specs.Streams.{CountsFaults, CountsReads, CountsWrites}
use Rattle.tool_parts.specs.declared.failure.Failure.{Failure}
use Rattle.tool_parts.specs.declared.failure.Failure.TheVariants.{Usage, Build, Search, OutOfMemory, PositionLimit, Read, Write, WriteZero}

module _ {W A B : Type 0} (old : FromWrite W) where
  -- the failure that is handed on is of the same device
  pub writes-given : (new : FromWrite W) (result : Result A Failure) (failure : Failure) → IsErrAnd result (λ f. f ≡ failure)
      → CountsWrites {A = B} old new (Err failure) → CountsWrites old new result
  writes-given new (Ok x) failure is counts = absurd is
  writes-given new (Err f) failure is counts = record {
    failed = counts.failed ∙ ap (λ f. counted (is_of_write f) old.failures) (sym is);
    took_nothing = counts.took_nothing ∙ ap (λ f. counted (is_of_empty_write f) old.empty_writes) (sym is);
  }

  -- no write failed before
  pub writes-later : (mid new : FromWrite W) (x : B) (result : Result A Failure) → CountsWrites old mid (Ok x) → CountsWrites mid new result → CountsWrites old new result
  writes-later mid new x result first later = record {
    failed = later.failed ∙ ap (counted (fails_by is_of_write result)) first.failed;
    took_nothing = later.took_nothing ∙ ap (counted (fails_by is_of_empty_write result)) first.took_nothing;
  }

-- a failure of a write is none of a read
no_read : {A : Type 0} (result : Result A Failure) → IfErr result IsOfWrite → fails_by is_of_read result ≡ false
no_read (Ok x) of = refl
no_read (Err Usage) of = refl
no_read (Err (Build error)) of = refl
no_read (Err (Search error)) of = refl
no_read (Err OutOfMemory) of = refl
no_read (Err PositionLimit) of = refl
no_read (Err Read) of = absurd of
no_read (Err Write) of = refl
no_read (Err WriteZero) of = refl

-- the reads went before, and none failed
pub faults_after : {R W A B : Type 0} {Reads : Readers R} (input_old input_new : FromRead R Reads) (output_old output_new : FromWrite W) (x : B) (result : Result A Failure) → CountsReads input_old input_new (Ok x)
    → IfErr result IsOfWrite → CountsWrites output_old output_new result → CountsFaults input_old input_new output_old output_new result
faults_after input_old input_new output_old output_new x result read of wrote = record {
  reads = read ∙ sym (ap (λ (b : _). counted b input_old.failures) (no_read result of));
  writes = wrote;
}
