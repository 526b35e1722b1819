-- What the replacement of a stream by a closure does.
use Rattle.std.specs.Prelude.{◌≡◌, ◌⊎◌, ℕ, ◌+◌, ◌≤◌, ◌&&◌, Bool, true, false, List, [], ◌∷◌, take, nat_lt, if◌then◌else◌, None, Result, Ok, Err, IfErr, MatchBool, OnErr, OnOk, length, map}
use Rattle.std.specs.Borrow.{Bor, MutBor}
use Rattle.std.specs.Fn.{Mut}
use Rattle.std.specs.Io.KnownBytes.{Appends}
use Rattle.aho_core.specs.declared.error.stream.StreamError.{StreamError}
use Rattle.aho_core.specs.declared.error.stream.StreamError.TheVariants.{Memory}
use Rattle.aho_core.specs.ClosureRun.{CalledOn, ClosureRun}
use Rattle.aho_core.specs.Iteration.{AreFinds}
use Rattle.aho_core.specs.Occurrence.{Occurrence}
use Rattle.aho_core.specs.Patterns.{Patterns}
use Rattle.aho_core.specs.Search.{plain_search}
use Rattle.aho_devices.specs.Counts.{AppendsBeginning, counted}
use Rattle.aho_devices.specs.Refusals.{IsFillRefusal, IsWriteRefusal, is_read_fault, is_write_fault, is_write_of_nothing}
use Rattle.aho_core.specs.Laws.{shortest}
use Rattle.aho_core.specs.declared.search.Anchored.TheVariants.{No}
use Rattle.aho_devices.specs.declared.device.Sink.{Ghosts as SinkGhosts}
use Rattle.aho_devices.specs.declared.device.Source.{Ghosts as SourceGhosts}
use Rattle.aho_automaton.specs.declared.automaton.Automaton.{Ghosts}
use Rattle.aho_stream.specs.After.{greatest_position, kept_for}
use Rattle.aho_stream.specs.Refills.{is_limit}
use Rattle.aho_stream.specs.Replacing.{MayBe, SourceGave}

-- a call of a closure that is lent a sink: where it succeeds, the replacing goes on
abbrev pub CallsOn : {F S : Type 0} → Mut F (Bor Occurrence × (Bor (List ℕ) × (MutBor S × Unit {0}))) (Result (Unit {0}) StreamError × (MutBor S × Unit {0}))
    → F → Occurrence → List ℕ → S → Result Bool StreamError → F → S → Type 0
CallsOn calls closure m bytes old (Ok goes_on) next new = (goes_on ≡ true) × CalledOn calls closure m bytes old (Ok tt) next new
CallsOn calls closure m bytes old (Err reason) next new = CalledOn calls closure m bytes old (Err reason) next new

-- the matches up to the first that does not start before a place
abbrev pub starting_before : ℕ → List Occurrence → List Occurrence
starting_before place [] = []
starting_before place (m ∷ ms) = if nat_lt m.start place then m ∷ starting_before place ms else []

-- bytes outside of every match go to a sink: all of them, or a beginning where the reading stopped, or else where a write failed
-- or took nothing
pub record SinkTakes {W : Type 0} (K : SinkGhosts W) (stopped : Bool) (old : W) (bytes : List ℕ) (result : Result (Unit {0}) StreamError) (new : W) : Type 0 where
  pub whole : OnOk result (Appends (K.taken old) (K.taken new) bytes)
  pub beginning : OnErr result (AppendsBeginning (K.taken old) (K.taken new) bytes)
  pub write_failed : K.failures new ≡ counted (is_write_fault result) (K.failures old)
  pub took_nothing : K.empty_writes new ≡ counted (is_write_of_nothing result) (K.empty_writes old)
  pub only : IfErr result (λ reason. MatchBool stopped (IsFillRefusal reason) (IsWriteRefusal reason))

-- a replacement of a stream of the patterns that are searched for, with this closure and to this sink, may end so, and leave this
-- closure: it is a run over the bytes given and any that may follow, where a refusal ends the run. At most as many of the given bytes
-- are left out where the reading stopped as the longest pattern has
pub record RunsAndLeaves {R W F : Type 0} (S : SourceGhosts R) (K : SinkGhosts W) (AreSearched : Patterns → Type 0)
    (calls : Mut F (Bor Occurrence × (Bor (List ℕ) × (MutBor W × Unit {0}))) (Result (Unit {0}) StreamError × (MutBor W × Unit {0})))
    (source source' : R) (closure : F) (sink : W) (result : Result (Unit {0}) StreamError) (last : F) (sink' : W) : Type 0 where
  pub given : List ℕ
  pub ended : Bool
  -- whether a read failed, or the limit was met
  pub stopped : Bool
  pub gives : SourceGave S source source' given ended
  pub whole : OnOk result (ended ≡ true)
  pub read_failed : S.failures source' ≡ counted (stopped && is_read_fault result) (S.failures source)
  pub limit : stopped ≡ true → is_limit result ≡ true → (length given ≡ greatest_position) × (ended ≡ false)
  pub run : (p : Patterns) (bytes : List ℕ) (ms : List Occurrence) → AreSearched p → MayBe given ended bytes → AreFinds p (plain_search bytes) None ms
      → ClosureRun (SinkTakes K stopped) (CallsOn calls) bytes 0 ms closure sink result last sink'
  -- where the reading stopped, the run over the bytes up to a place has come to its good end
  pub near : stopped ≡ true → (place : ℕ) × (place ≤ length given)
      × ((p : Patterns) → AreSearched p → length given ≤ place + kept_for (map length p.words))
      × ((p : Patterns) (bytes : List ℕ) (ms : List Occurrence) → AreSearched p → MayBe given ended bytes → AreFinds p (plain_search bytes) None ms
      → ClosureRun (SinkTakes K stopped) (CallsOn calls) (take place bytes) 0 (starting_before place ms) closure sink (Ok tt) last sink')

-- the same, whatever closure is left
pub record RunsOver {R W F : Type 0} (S : SourceGhosts R) (K : SinkGhosts W) (AreSearched : Patterns → Type 0)
    (calls : Mut F (Bor Occurrence × (Bor (List ℕ) × (MutBor W × Unit {0}))) (Result (Unit {0}) StreamError × (MutBor W × Unit {0})))
    (source source' : R) (closure : F) (sink : W) (result : Result (Unit {0}) StreamError) (sink' : W) : Type 0 where
  pub given : List ℕ
  pub ended : Bool
  -- whether a read failed, or the limit was met
  pub stopped : Bool
  pub gives : SourceGave S source source' given ended
  pub whole : OnOk result (ended ≡ true)
  pub read_failed : S.failures source' ≡ counted (stopped && is_read_fault result) (S.failures source)
  pub limit : stopped ≡ true → is_limit result ≡ true → (length given ≡ greatest_position) × (ended ≡ false)
  pub run : (p : Patterns) (bytes : List ℕ) (ms : List Occurrence) → AreSearched p → MayBe given ended bytes → AreFinds p (plain_search bytes) None ms
      → (last : F) × ClosureRun (SinkTakes K stopped) (CallsOn calls) bytes 0 ms closure sink result last sink'
  -- where the reading stopped, the run over the bytes up to a place has come to its good end
  pub near : stopped ≡ true → (place : ℕ) × (place ≤ length given)
      × ((p : Patterns) → AreSearched p → length given ≤ place + kept_for (map length p.words))
      × ((p : Patterns) (bytes : List ℕ) (ms : List Occurrence) → AreSearched p → MayBe given ended bytes → AreFinds p (plain_search bytes) None ms
      → (last : F) × ClosureRun (SinkTakes K stopped) (CallsOn calls) (take place bytes) 0 (starting_before place ms) closure sink (Ok tt) last sink')

-- a stream can be searched by this automaton: it has no empty pattern, and searches that are not anchored
abbrev pub CanBegin : {A : Type 0} → Ghosts A → A → Type 0
CanBegin G automaton = (sid : ℕ) × (1 ≤ shortest (G.lengths automaton)) × (G.start automaton No ≡ Ok sid)

-- it is refused for this, and a source and a sink are left as they were
abbrev pub RefusesUntouched : {R W : Type 0} → Result (Unit {0}) StreamError → StreamError → R → R → W → W → Type 0
RefusesUntouched result error source source' sink sink' = (result ≡ Err error) × (source' ≡ source) × (sink' ≡ sink)

-- and the closure as well
abbrev pub RefusesAllUntouched : {R W F : Type 0} → Result (Unit {0}) StreamError → StreamError → R → R → F → F → W → W → Type 0
RefusesAllUntouched result error source source' closure closure' sink sink' = RefusesUntouched result error source source' sink sink' × (closure' ≡ closure)

-- with a closure that is lent: there was no memory to begin, or it runs
abbrev pub RunsLent : {R W F : Type 0} → SourceGhosts R → SinkGhosts W → (Patterns → Type 0)
    → Mut F (Bor Occurrence × (Bor (List ℕ) × (MutBor W × Unit {0}))) (Result (Unit {0}) StreamError × (MutBor W × Unit {0}))
    → R → R → F → W → Result (Unit {0}) StreamError → F → W → Type 0
RunsLent S K AreSearched calls source source' closure sink result last sink' =
    RefusesAllUntouched result Memory source source' closure last sink sink' ⊎ RunsAndLeaves S K AreSearched calls source source' closure sink result last sink'
