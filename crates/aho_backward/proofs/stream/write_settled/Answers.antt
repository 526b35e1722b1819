-- Too few bytes for a block.
use Rattle.std.proofs.Common.{◌-◌, ◌*◌, ◌≤◌, drop, length, ap, arith}
use Rattle.aho_core.specs.Replacement.{pieces_of}
use Rattle.aho_backward.proofs.Streaming.{settles-none}
use Rattle.aho_backward.proofs.stream.write_settled.Goals as goal

pub returns-then-bytes-behind-clause-settled : goal.returns-then-bytes-behind-clause-settled
returns-then-bytes-behind-clause-settled g c =
    let ahead = drop c.args.passed c.args.buffer.now.bytes in
    let few : length ahead ≤ 2 * (c.args.buffer.now.least - 1) = omega (arith, c.if-bytes-behind.true, c.min_buffer_len-behind.ensures.least, ap length c.unwritten-bytes.ensures.bytes) in
    settles-none g.W.Of.Automaton g.K.Sink (g.W.Walk.of c.args.walk.now) c.args.given.now (c.args.buffer.now.least - 1) (pieces_of c.args.replace_with.now) ahead c.args.sink.now (g.W.Walk.lookups c.args.walk.now) few
