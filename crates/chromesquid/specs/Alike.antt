-- When two streams have the same matches, and when two replacements of streams write the same.
use Rattle.std.specs.Prelude.{◌≡◌, ℕ, true, List, None}
use Rattle.std.specs.Io.KnownBytes.{Appends}
use Rattle.aho_core.specs.Iteration.{AreFinds}
use Rattle.aho_core.specs.Occurrence.{Occurrence}
use Rattle.aho_core.specs.Patterns.{Patterns}
use Rattle.aho_core.specs.Search.{plain_search}
use Rattle.aho_devices.specs.declared.device.Sink.{Ghosts as SinkGhosts}
use Rattle.aho_devices.specs.declared.device.Source.{Ghosts as SourceGhosts}
use Rattle.aho_stream.specs.Replacing.{SourceGave}

-- a source gave bytes up to its end
pub record GaveToItsEnd {R : Type 0} (S : SourceGhosts R) (source source' : R) : Type 0 where
  pub given : List ℕ
  pub gives : SourceGave S source source' given true

-- both streams have ended, and if they gave the same bytes, the same was written for them
pub record ReplacesAlike {R W : Type 0} (S : SourceGhosts R) (K : SinkGhosts W) (source source' other other' : R) (sink sink' second second' : W) : Type 0 where
  pub one : GaveToItsEnd S source source'
  pub two : GaveToItsEnd S other other'
  pub alike : one.given ≡ two.given → (written : List ℕ) × Appends (K.taken sink) (K.taken sink') written × Appends (K.taken second) (K.taken second') written

-- these are the finds of what a source gave up to its end
pub record AreFindsGiven {R : Type 0} (S : SourceGhosts R) (p : Patterns) (source source' : R) (ms : List Occurrence) : Type 0 where
  pub given : List ℕ
  pub gives : SourceGave S source source' given true
  pub finds : AreFinds p (plain_search given) None ms

-- both streams have ended, and if they gave the same bytes, these are the same
pub record FindsAlike {R : Type 0} (S : SourceGhosts R) (source source' other other' : R) (ms ns : List Occurrence) : Type 0 where
  pub one : GaveToItsEnd S source source'
  pub two : GaveToItsEnd S other other'
  pub alike : one.given ≡ two.given → ms ≡ ns
