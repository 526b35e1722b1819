-- What the exit status says, by what is answered.
use Rattle.acredact.proofs.Common.{Bool, Call, CallOutcome, EndsCall, Err, Errors, Failure, IfErr, IsLineOf, List, MayFail, Ok, OnOk, Option, OutputFails, Readers, Result, SinkGhosts, Streams, Writers, bytes_left, inl, inr, ℕ, ◌≡◌}
use Rattle.acredact.specs.Arguments.{GivesNoPattern}
use Rattle.acredact.specs.Calls.{RedactsEach, TellsAnyNumbers, TellsUpToEnd}
use Rattle.acredact.specs.Statuses.{CallStatus, IsIdle}
use Rattle.acredact.proofs.Outcomes.{status_says}
-- a line alone
pub use Rattle.tool_parts.proofs.Lines.{some-one as tells_one}

-- the numbers that a call told, and at most why it ended early
numbers_told : {E : Type 0} (K : SinkGhosts E) (call : Call) (fails : Type 0) (left left' : Option (List ℕ)) (result : Result Bool Failure) (status : ℕ) (old mid new : Errors E) → EndsCall K result status mid new → IfErr result (MayFail call fails)
    → TellsAnyNumbers K call left left' old mid → TellsUpToEnd K call fails left left' old new
numbers_told K call fails left left' (Ok all) status old mid new ends may numbers = (mid, numbers, inl ends.1)
numbers_told K call fails left left' (Err failure) status old mid new ends may numbers = (mid, numbers, inr (failure, may, ends.1.0, ends.1.1, ends.1.2))

-- where there is no pattern it ended early
patternless : {E : Type 0} (K : SinkGhosts E) (result : Result Bool Failure) (status : ℕ) (mid new : Errors E) → EndsCall K result status mid new → OnOk result ⊥ → status ≡ 2
patternless K (Ok all) status mid new ends none = absurd none
patternless K (Err failure) status mid new ends none = ends.0

-- what came of a call, and what it told behind that
pub status_told : {R : Type 0} {Reads : Readers R} {W E : Type 0} (Writes : Writers W) (K : SinkGhosts E) (call : Call) (old mid : Streams R W E Reads) (result : Result Bool Failure) (status : ℕ) (errors : Errors E) → (GivesNoPattern call.given → OnOk result ⊥) → (GivesNoPattern call.given → IsIdle old mid)
    → EndsCall K result status mid.errors errors → CallOutcome Writes K call (bytes_left old.input) (bytes_left mid.input) result old.output mid.output old.errors mid.errors → CallStatus Writes K call status old (record mid { errors = errors })
status_told {E = E} Writes K call old mid result status errors none idle ends of = record {
  patternless = λ asks. patternless K result status mid.errors errors ends (none asks);
  idle = λ asks. record { unread = (idle asks).unread; unwritten = (idle asks).unwritten };
  says = status_says K (IsLineOf call (OutputFails old.output mid.output)) (λ (e : Errors E). RedactsEach Writes K call (bytes_left old.input) (bytes_left mid.input) old.output mid.output old.errors e) status old.errors mid.errors errors
      (λ failure line fails is. inr (inl (failure, fails, is))) (λ whole noted. whole) result ends of.comes;
  numbers = numbers_told K call (OutputFails old.output mid.output) (bytes_left old.input) (bytes_left mid.input) result status old.errors mid.errors errors ends of.comes.fails of.numbers;
}
