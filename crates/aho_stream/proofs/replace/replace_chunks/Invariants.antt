-- What the loop over the chunks keeps.
use Rattle.std.proofs.Common.{◌≡◌, ◌-◌, false}
use Rattle.aho_core.specs.Replacement.{pieces_of}
use Rattle.aho_stream.proofs.Replacings.{Going}
use Rattle.aho_stream.proofs.replace.replace_chunks.Given as goal

-- Over the same automaton and under the same limit: so much was given and written, and no device has failed.
abbrev pub invariant-loop-answer : goal.invariant-loop-answer
invariant-loop-answer g l =
    let automaton = l.initial.chunks.walk.automaton.now in
    record {
      going : Going g.A.Automaton g.R.Source g.W.Sink automaton (pieces_of l.replace_with) l.initial.chunks.source.now l.initial.sink
          l.chunks.walk.work l.chunks.progress l.chunks.source.now l.sink;
      source : l.chunks.source.ghost_name ≡ l.initial.chunks.source.ghost_name;
      same : l.chunks.walk.automaton.now ≡ automaton;
      limit : l.chunks.progress.limit ≡ l.initial.chunks.progress.limit;
      below : l.chunks.progress.refused ≡ false;
      reads : g.R.Source.failures l.chunks.source.now ≡ g.R.Source.failures l.initial.chunks.source.now;
      writes : g.W.Sink.failures l.sink ≡ g.W.Sink.failures l.initial.sink;
      empty_writes : g.W.Sink.empty_writes l.sink ≡ g.W.Sink.empty_writes l.initial.sink;
    }

-- each chunk leaves less room under the limit
abbrev pub decreases-loop-answer : goal.decreases-loop-answer
decreases-loop-answer g l = l.chunks.progress.limit - l.chunks.progress.reported
