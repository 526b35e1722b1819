use Rattle.std.proofs.Common.{◌≡◌, ◌++◌, map}
use Rattle.std.specs.Prelude.{filter, slice_range}
use Rattle.std.specs.List.{range_with_len}
use Rattle.aho_core.specs.Bytes.{is_same_word}
use Rattle.aho_core.specs.Occurrence.{occurrence}
use Rattle.aho_core.specs.Patterns.{pattern_at}
use Rattle.bench.proofs.listing.push_at.Given as goal

abbrev pub invariant-loop-number : goal.invariant-loop-number
invariant-loop-number l =
    l.found.items ≡ l.fn.found.items ++ map (occurrence l.at.start l.at.end) (filter (λ number. is_same_word l.patterns (pattern_at l.patterns number) (slice_range l.haystack l.at.start l.at.end)) (range_with_len 0 l.number))
