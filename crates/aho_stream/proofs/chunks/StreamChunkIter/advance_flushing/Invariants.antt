-- What the loop keeps.
use Rattle.std.proofs.Common.{◌≡◌, ◌+◌, ◌-◌, true, cond}
use Rattle.std.specs.Io.KnownBytes.{Keeps}
use Rattle.aho_devices.specs.Counts.{counted}
use Rattle.aho_stream.specs.Chunks.{ends_between}
use Rattle.aho_stream.proofs.Advanced.{IsUntold, ReadsPromptly}
use Rattle.aho_stream.proofs.chunks.StreamChunkIter.advance_flushing.Given as goal

-- Over the same automaton and source:
-- `untold`: nothing was told yet, and the limit was not met;
-- `read`: some bytes were read, once what was settled before had been told, and the iterator has come so far with them;
-- `ended`, `stays` and `unfailed`: whether the end was seen, and that no read failed;
-- `kept`, `writes` and `empty_writes`: the sink was flushed, and nothing else.
abbrev pub invariant-loop-piece : goal.invariant-loop-piece
invariant-loop-piece g l =
    let automaton = l.fn.self.walk.automaton.now in
    record {
      source : l.self.source.ghost_name ≡ l.fn.self.source.ghost_name;
      same : l.self.walk.automaton.now ≡ automaton;
      untold : IsUntold l.fn.self.progress l.self.progress;
      read : ReadsPromptly g.A.Automaton automaton
          l.fn.self.walk.work l.self.walk.work l.fn.self.progress l.self.progress
          (g.R.Source.remaining l.fn.self.source.now) (g.R.Source.remaining l.self.source.now);
      ended : g.R.Source.empty_reads l.self.source.now ≡ counted (ends_between l.fn.self.progress.ended l.self.progress.ended) (g.R.Source.empty_reads l.fn.self.source.now);
      stays : l.fn.self.progress.ended ≡ true → l.self.progress.ended ≡ true;
      unfailed : g.R.Source.failures l.self.source.now ≡ g.R.Source.failures l.fn.self.source.now;
      kept : Keeps (g.W.Sink.taken l.fn.sink) (g.W.Sink.taken l.sink);
      writes : g.W.Sink.failures l.sink ≡ g.W.Sink.failures l.fn.sink;
      empty_writes : g.W.Sink.empty_writes l.sink ≡ g.W.Sink.empty_writes l.fn.sink;
    }

abbrev pub decreases-loop-piece : goal.decreases-loop-piece
decreases-loop-piece g l = (l.self.progress.limit - l.self.progress.read) + cond l.self.progress.ended 0 1
