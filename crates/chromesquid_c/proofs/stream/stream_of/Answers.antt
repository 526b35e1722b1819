-- The handle leads to the stream that was made.
use Rattle.std.proofs.Common.{Ok, Err, sym, subst}
use Rattle.std.specs.Prelude.{IfOk, Result}
use Rattle.chromesquid_c.specs.Streaming.{HasBegun}
use Rattle.chromesquid_c.proofs.stream.stream_of.Goals as goal

-- what follows of each value follows of a result's
of_ok : {A E : Type 0} {P Q : A → Type 0} (result : Result A E) → ((x : A) → P x → Q x) → IfOk result P → IfOk result Q
of_ok (Ok x) follows holds = follows x holds
of_ok (Err error) follows holds = tt

pub returns : goal.returns
returns c = record {
  begun = of_ok c.of.result (λ h holds. (holds.0, holds.1, subst (HasBegun c.args.searcher.now.value) (sym holds.2) c.in_ok-stream.ensures.begun)) c.of.ensures.holds;
}
