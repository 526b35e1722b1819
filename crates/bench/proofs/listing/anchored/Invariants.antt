use Rattle.std.proofs.Common.{◌≡◌, take}
use Rattle.std.specs.Prelude.{filter, slice_range}
use Rattle.aho_core.specs.Overlapping.{begins_some}
use Rattle.bench.proofs.listing.anchored.Given as goal

abbrev pub invariant-loop-m : goal.invariant-loop-m
invariant-loop-m l = l.found.items ≡ filter (λ m. begins_some l.patterns (slice_range l.haystack l.span.start m.end)) (take l.m-index l.m-items)
