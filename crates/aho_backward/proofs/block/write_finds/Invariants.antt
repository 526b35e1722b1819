-- What the loop keeps: what was written stands for the bytes up to a place, and no match starts between that and where it looks next.
use Rattle.std.proofs.Common.{◌≡◌, ◌-◌, ◌≤◌, length}
use Rattle.aho_core.specs.Replacement.{pieces_of}
use Rattle.aho_backward.proofs.Writing.{Wrote}
use Rattle.aho_backward.proofs.block.write_finds.Given as goal

abbrev pub invariant-loop-at : goal.invariant-loop-at
invariant-loop-at g l =
    record {
      ordered : l.copied ≤ l.at;
      within : l.at ≤ length l.bytes;
      wrote : Wrote g.W.Of.Automaton g.K.Sink (g.W.Walk.of l.walk) l.given l.bytes l.behind (pieces_of l.replace_with) l.initial.sink l.sink l.copied l.at;
      failures : g.K.Sink.failures l.sink ≡ g.K.Sink.failures l.initial.sink;
      empty_writes : g.K.Sink.empty_writes l.sink ≡ g.K.Sink.empty_writes l.initial.sink;
    }

abbrev pub decreases-loop-at : goal.decreases-loop-at
decreases-loop-at g l = l.places - l.at
