-- The handle leads to the stream that the call was of.
use Rattle.std.proofs.Common.{◌≡◌, refl, subst}
use Rattle.chromesquid_c.specs.Streaming.{PushedStream, TellsReplaced}
use Rattle.chromesquid_c.proofs.stream.cs_stream_replace.Goals as goal

pub returns-then-stream-clause-tells : goal.returns-then-stream-clause-tells
returns-then-stream-clause-tells c = λ stream holds told.
    let value = c.get.ensures.value in
    let same : c.get.result.now ≡ stream = cc in (
      c.replace.new.self,
      refl,
      subst (λ (s : PushedStream). TellsReplaced s c.replace.new.self c.args.replace_with.now c.replace.result c.args.room.now c.replace.new.room c.replace.new.len) same
          (c.replace.ensures.tells told),
    )
