use Rattle.std.proofs.Common.{◌≡◌, ◌++◌, ◌-◌}
use Rattle.std.specs.Prelude.{flat_map}
use Rattle.std.specs.List.{range_with_len}
use Rattle.aho_core.specs.Overlapping.{occurrences_at}
use Rattle.bench.proofs.listing.push_ending.Given as goal

abbrev pub invariant-loop-start : goal.invariant-loop-start
invariant-loop-start l =
    l.found.items ≡ l.fn.found.items ++ flat_map (λ start. occurrences_at l.patterns l.haystack start l.at.end) (range_with_len l.at.start (l.start - l.at.start))
