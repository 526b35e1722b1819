-- What the loop over the chunks keeps.
use Rattle.std.proofs.Common.{◌≡◌, ◌-◌, false}
use Rattle.aho_stream.proofs.Runnings.{Running}
use Rattle.aho_stream.proofs.replace.replace_chunks_with.Given as goal

-- Over the same automaton and under the same limit: so much was given, the run goes on, and no read has failed.
abbrev pub invariant-loop-answer : goal.invariant-loop-answer
invariant-loop-answer g l =
    let automaton = l.initial.chunks.walk.automaton.now in
    record {
      callable : goal.F-IsAlwaysCallable g l.replace_with;
      running : Running g.A.Automaton g.R.Source g.W.Sink automaton g.F.FnMut l.initial.chunks.source.now l.initial.replace_with l.initial.sink
          l.chunks.walk.work l.chunks.progress l.chunks.source.now l.replace_with l.sink;
      source : l.chunks.source.ghost_name ≡ l.initial.chunks.source.ghost_name;
      same : l.chunks.walk.automaton.now ≡ automaton;
      limit : l.chunks.progress.limit ≡ l.initial.chunks.progress.limit;
      below : l.chunks.progress.refused ≡ false;
      reads : g.R.Source.failures l.chunks.source.now ≡ g.R.Source.failures l.initial.chunks.source.now;
    }

-- each chunk leaves less room under the limit
abbrev pub decreases-loop-answer : goal.decreases-loop-answer
decreases-loop-answer g l = l.chunks.progress.limit - l.chunks.progress.reported
