-- Which calls of its devices a call's error tells of.
use Rattle.std.specs.Prelude.{◌≡◌, Result}
use Rattle.aho_core.specs.declared.error.stream.StreamError.{StreamError}
use Rattle.aho_devices.specs.Counts.{counted}
use Rattle.aho_devices.specs.Refusals.{is_read_fault, is_write_fault, is_write_of_nothing}
use Rattle.aho_devices.specs.declared.device.Sink.{Ghosts as SinkGhosts}
use Rattle.aho_devices.specs.declared.device.Source.{Ghosts as SourceGhosts}

-- each error of a source and a sink is answered exactly where its count rose in the call
pub record CountsErrors {R W A : Type 0} (S : SourceGhosts R) (K : SinkGhosts W) (source source' : R) (sink sink' : W) (result : Result A StreamError) : Type 0 where
  pub read_failed : S.failures source' ≡ counted (is_read_fault result) (S.failures source)
  pub write_failed : K.failures sink' ≡ counted (is_write_fault result) (K.failures sink)
  pub took_nothing : K.empty_writes sink' ≡ counted (is_write_of_nothing result) (K.empty_writes sink)
