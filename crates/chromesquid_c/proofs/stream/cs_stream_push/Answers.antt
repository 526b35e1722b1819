-- The handle leads to the stream that the call was of.
use Rattle.std.proofs.Common.{◌≡◌, refl, subst}
use Rattle.chromesquid_c.specs.Streaming.{PushedStream, TakesPushed}
use Rattle.chromesquid_c.proofs.stream.cs_stream_push.Goals as goal

pub returns-then-stream-clause-pushed : goal.returns-then-stream-clause-pushed
returns-then-stream-clause-pushed c = λ stream holds done.
    let value = c.get.ensures.value in
    let same : c.get.result.now ≡ stream = cc in
    (c.push.new.self, refl, subst (λ (s : PushedStream). TakesPushed s c.push.new.self c.args.bytes.now c.push.new.taken) same (c.push.ensures.pushed done))
