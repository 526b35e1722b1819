-- The handle leads to the stream that the call was of.
use Rattle.std.proofs.Common.{◌≡◌, refl, subst}
use Rattle.chromesquid_c.specs.Streaming.{PushedStream, Ends}
use Rattle.chromesquid_c.proofs.stream.cs_stream_end.Goals as goal

pub returns-then-stream-clause-ends : goal.returns-then-stream-clause-ends
returns-then-stream-clause-ends c = λ stream holds.
    let value = c.get.ensures.value in
    let same : c.get.result.now ≡ stream = cc in
    (c.end.new.self, refl, subst (λ (s : PushedStream). Ends s c.end.new.self) same c.end.ensures.ends)
