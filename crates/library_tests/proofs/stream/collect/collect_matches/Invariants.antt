-- What the loop over the matches keeps.
use Rattle.std.proofs.Common.{◌≡◌, ◌-◌, map}
use Rattle.std.specs.Iterator.{Yields}
use Rattle.aho_stream.specs.Iterators.{CanGoOn}
use Rattle.aho_stream.proofs.Collected.{found}
use Rattle.aho_stream.proofs.FindRuns.{find_steps}
use Rattle.library_tests.proofs.stream.collect.collect_matches.Given as goal

-- So far calls gave these matches, and it may be called again.
abbrev pub invariant-loop-matches : goal.invariant-loop-matches
invariant-loop-matches g l = record {
  can_next : CanGoOn g.A.Automaton l.found.chunks;
  source : l.found.chunks.source.ghost_name ≡ l.initial.found.chunks.source.ghost_name;
  yields : Yields (find_steps g.A.Automaton g.R.Source) l.initial.found (map found l.matches.items) l.found;
}

-- each match leaves less room under the limit
abbrev pub decreases-loop-matches : goal.decreases-loop-matches
decreases-loop-matches g l = l.found.chunks.progress.limit - l.found.chunks.progress.from
