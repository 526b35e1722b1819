-- What the loop keeps: how far the stream has come, and that fewer bytes are left than a block and what lies behind it have.
use Rattle.std.proofs.Common.{◌≡◌, ◌-◌, ◌*◌, ◌≤◌, false, drop, length}
use Rattle.aho_core.specs.Replacement.{pieces_of}
use Rattle.aho_backward.proofs.Streaming.{GoneTo}
use Rattle.aho_backward.proofs.stream.replace_blocks.Given as goal

abbrev pub invariant-loop-buffer : goal.invariant-loop-buffer
invariant-loop-buffer g l =
    let automaton = g.W.Walk.of l.initial.walk in
    record {
      same : g.W.Walk.of l.walk ≡ automaton;
      least : l.buffer.least ≡ l.initial.buffer.least;
      size : l.buffer.size ≡ l.initial.buffer.size;
      within : l.passed ≤ length l.buffer.bytes;
      passed : l.passed ≤ l.buffer.least;
      few : length (drop l.passed l.buffer.bytes) ≤ 2 * (l.buffer.least - 1);
      gone : GoneTo g.W.Of.Automaton g.R.Source g.K.Sink automaton l.given (pieces_of l.replace_with) l.initial.source l.initial.sink (g.W.Walk.lookups l.initial.walk)
          l.source l.sink (g.W.Walk.lookups l.walk) false (drop l.passed l.buffer.bytes) l.room;
      reads : g.R.Source.failures l.source ≡ g.R.Source.failures l.initial.source;
      writes : g.K.Sink.failures l.sink ≡ g.K.Sink.failures l.initial.sink;
      empty_writes : g.K.Sink.empty_writes l.sink ≡ g.K.Sink.empty_writes l.initial.sink;
    }

abbrev pub decreases-loop-buffer : goal.decreases-loop-buffer
decreases-loop-buffer g l = l.room
