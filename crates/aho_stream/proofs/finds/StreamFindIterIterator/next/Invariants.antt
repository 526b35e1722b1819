-- What the loop keeps.
use Rattle.std.proofs.Common.{◌≡◌, ◌-◌, ◌≤◌, true, false}
use Rattle.aho_devices.specs.Counts.{counted}
use Rattle.aho_stream.specs.Chunks.{ends_between}
use Rattle.aho_stream.proofs.Found.{FindsReading}
use Rattle.aho_stream.proofs.finds.StreamFindIterIterator.next.Given as goal

-- Over the same automaton and with the same limit:
-- `from` and `refused`: no match was found, and the limit was not answered since;
-- `source`: it reads from the same place;
-- `read`: some bytes were read, once no match was settled before, and the iterator has come so far with them;
-- `ended`, `stays`, `over` and `unfailed`: whether the end was seen and all was told, and that no read failed.
abbrev pub invariant-loop-error : goal.invariant-loop-error
invariant-loop-error g l =
    let it = l.fn.self.chunks in
    let now = l.self.chunks in
    let automaton = it.walk.automaton.now in
    record {
      same : now.walk.automaton.now ≡ automaton;
      limit : now.progress.limit ≡ it.progress.limit;
      from : now.progress.from ≡ it.progress.from;
      refused : now.progress.refused ≡ it.progress.refused;
      source : now.source.ghost_name ≡ it.source.ghost_name;
      read : FindsReading g.A.Automaton automaton it.walk.work now.walk.work it.progress now.progress (g.R.Source.remaining it.source.now) (g.R.Source.remaining now.source.now) false;
      ended : g.R.Source.empty_reads now.source.now ≡ counted (ends_between it.progress.ended now.progress.ended) (g.R.Source.empty_reads it.source.now);
      stays : it.progress.ended ≡ true → now.progress.ended ≡ true;
      over : it.progress.ended ≡ true → it.progress.read ≤ it.progress.reported → (now.progress.ended ≡ true) × (now.progress.read ≤ now.progress.reported);
      unfailed : g.R.Source.failures now.source.now ≡ g.R.Source.failures it.source.now;
    }

abbrev pub decreases-loop-error : goal.decreases-loop-error
decreases-loop-error g l = l.self.chunks.progress.limit - l.self.chunks.progress.reported
