use Rattle.std.proofs.Common.{◌≡◌, ◌-◌, ◌+◌, ◌≤◌}
use Rattle.std.specs.Prelude.{flat_map}
use Rattle.std.specs.List.{range_with_len}
use Rattle.aho_core.specs.Overlapping.{occurrences_ending}
use Rattle.bench.proofs.listing.all.Given as goal

abbrev pub invariant-loop-end : goal.invariant-loop-end
invariant-loop-end l = record {
  bound : l.end ≤ l.span.end + 1;
  found : l.found.items ≡ flat_map (occurrences_ending l.patterns l.haystack l.span.start) (range_with_len l.span.start (l.end - l.span.start));
}
