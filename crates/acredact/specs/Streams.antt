-- What the redaction of one stream reads and writes.
use Rattle.acredact.specs.Common.{Occurrence, SinkGhosts, SourceGhosts, StreamError, counted}
use Rattle.std.specs.Prelude.{◌≡◌, ℕ, List, Result, IfErr, OnErr, OnOk, false, true}
use Rattle.aho_cover.specs.Counting.{CountsThese}
use Rattle.aho_devices.specs.Errors.{CountsErrors}
use Rattle.aho_devices.specs.Refusals.{IsFillRefusal}
use Rattle.aho_stream.specs.After.{greatest_position}
use Rattle.aho_stream.specs.Refills.{is_limit}
use Rattle.aho_stream.specs.Replacing.{GaveAsMany}
use Rattle.aho_stream.specs.StreamRun.{SinkTakes}
use Rattle.acredact.specs.Bounds.{Bounded}
use Rattle.acredact.specs.Deeds.{BegunAs, Deed, SomeStream, WholeStream, WrittenAs}
use Rattle.acredact.specs.Faults.{IsStreamEnd}

-- a piece was written, or a beginning of it where a write failed or took nothing
abbrev pub WritesPiece : {W : Type 0} → SinkGhosts W → Result (Unit {0}) StreamError → (sink sink' : W) → (piece : List ℕ) → Type 0
WritesPiece K result sink sink' piece = SinkTakes K false sink piece result sink'

-- from a source and a sink before a call to those after it
module _ {R W : Type 0} (S : SourceGhosts R) (K : SinkGhosts W) (d : Deed) (source source' : R) (sink sink' : W) where
  -- a stream has ended, and its redaction was written
  abbrev pub RedactsStream : Type 0
  RedactsStream = WholeStream S (WrittenAs d.writes (K.taken sink) (K.taken sink')) source source'

  -- some of a stream was read, and a beginning of its redaction was written
  abbrev pub StartsStream : Type 0
  StartsStream = SomeStream S (BegunAs d.begins (K.taken sink) (K.taken sink')) source source'

  -- and what was written comes so near to that
  abbrev pub NearsStream : Type 0
  NearsStream = SomeStream S (λ given ended. d.nears given ended (K.taken sink) (K.taken sink')) source source'

  -- what comes of a stream: a fault of a device is answered exactly where its count rose, and the limit where it was met
  pub record StreamOutcome (result : Result (Unit {0}) StreamError) : Type 0 where
    pub redacted : OnOk result RedactsStream
    pub begun : OnErr result StartsStream
    pub near : IfErr result (λ error. IsFillRefusal error → NearsStream)
    pub errors : CountsErrors S K source source' sink sink' result
    pub limit : d.measured ≡ true → is_limit result ≡ true → GaveAsMany S source source' greatest_position
    pub only : IfErr result IsStreamEnd

  -- and what is counted: where it has ended its ranges are, and at most as many as it gave bytes
  pub record DoesStream (result : Result (Unit {0}) StreamError) (counts counts' : List ℕ) : Type 0 where
    pub outcome : StreamOutcome result
    pub counted : OnOk result ((ranges : List Occurrence) × WholeStream S (λ text. d.counts text ranges) source source' × CountsThese ranges counts counts')
    pub most : d.measured ≡ true → Bounded S source source' counts counts'
