use Rattle.std.proofs.Common.{◌≡◌, ◌+◌, ◌-◌, ◌*◌, ◌++◌, List, None, Some, cond}
use Rattle.std.specs.Prelude.{◌⊎◌, is_none}
use Rattle.aho_core.specs.Occurrence.{Occurrence}
use Rattle.aho_core.specs.Iteration.{AreFinds}
use Rattle.bench.proofs.listing.finds.Given as goal

abbrev pub invariant-loop-m : goal.invariant-loop-m
invariant-loop-m l = record {
  resumes : (l.last ≡ None) ⊎ (l.last ≡ Some l.input.start);
  finds : (ms : List Occurrence) → AreFinds l.patterns l.input l.last ms → AreFinds l.patterns l.fn.input None (l.found.items ++ ms);
}

-- the places left, and whether no match was found yet
abbrev pub decreases-loop-m : goal.decreases-loop-m
decreases-loop-m l = 2 * (l.input.end + 1 - l.input.start) + cond (is_none l.last) 1 0
