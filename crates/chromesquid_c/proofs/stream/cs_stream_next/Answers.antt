-- The handle leads to the stream that the call was of.
use Rattle.std.proofs.Common.{◌≡◌, refl, subst}
use Rattle.chromesquid_c.specs.Streaming.{PushedStream, TellsFound}
use Rattle.chromesquid_c.proofs.stream.cs_stream_next.Goals as goal

pub returns-then-stream-clause-tells : goal.returns-then-stream-clause-tells
returns-then-stream-clause-tells c = λ stream holds.
    let value = c.get.ensures.value in
    let same : c.get.result.now ≡ stream = cc in
    (c.next.new.self, refl, subst (λ (s : PushedStream). TellsFound s c.next.new.self c.next.result c.next.new.found) same c.next.ensures.tells)
