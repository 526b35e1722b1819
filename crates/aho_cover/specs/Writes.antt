-- What a call writes to a sink, and which errors it tells.
use Rattle.std.specs.Prelude.{◌≡◌, List, ℕ, Result, IfErr}
use Rattle.std.specs.Io.KnownBytes.{Appends}
use Rattle.aho_core.specs.declared.error.stream.StreamError.{StreamError}
use Rattle.aho_core.specs.Occurrence.{Occurrence}
use Rattle.aho_core.specs.Patterns.{Patterns}
use Rattle.aho_devices.specs.Counts.{counted}
use Rattle.aho_devices.specs.Refusals.{IsWriteRefusal, is_write_fault, is_write_of_nothing}
use Rattle.aho_devices.specs.declared.device.Sink.{Ghosts as SinkGhosts}
use Rattle.aho_cover.specs.Counting.{CountsThese, Output, put_on}

-- each error of a sink is answered exactly where its count rose in the call, and no other is
pub record TellsWrites {W A : Type 0} (K : SinkGhosts W) (sink sink' : W) (result : Result A StreamError) : Type 0 where
  pub write_failed : K.failures sink' ≡ counted (is_write_fault result) (K.failures sink)
  pub took_nothing : K.empty_writes sink' ≡ counted (is_write_of_nothing result) (K.empty_writes sink)
  pub only : IfErr result IsWriteRefusal

-- some bytes were written, and the runs counted whose pieces are among them. What held of a stream's bytes and of what was written
-- before the call leads to what holds with these
pub record WritesOn {W : Type 0} (K : SinkGhosts W) (sink sink' : W) (counts counts' : List ℕ) (Before After : Patterns → List ℕ → Output → Type 0) : Type 0 where
  pub bytes : List ℕ
  pub appends : Appends (K.taken sink) (K.taken sink') bytes
  pub runs : List Occurrence
  pub counted : CountsThese runs counts counts'
  pub follows : (p : Patterns) (haystack : List ℕ) (written : Output) → Before p haystack written → After p haystack (put_on written bytes runs)
