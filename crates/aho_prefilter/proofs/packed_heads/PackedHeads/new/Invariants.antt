-- The patterns before the place of the loop were added.
use Rattle.std.proofs.Common.{◌≡◌, take}
use Rattle.std.specs.List.{fold}
use Rattle.aho_core.specs.Replacement.{pieces_of}
use Rattle.aho_prefilter.specs.PackedHeads.{group_among, packed_heads_none, packed_heads_with}
use Rattle.aho_prefilter.proofs.packed_heads.PackedHeads.new.Given as goal

abbrev pub invariant-loop-pattern : goal.invariant-loop-pattern
invariant-loop-pattern l =
    l.made
    ≡ fold (λ search word. packed_heads_with l.fn.ignore_case (group_among l.fn.ignore_case (pieces_of l.patterns) word) search word)
    (packed_heads_none l.fn.ignore_case l.fn.tested l.fn.size)
    (pieces_of (take l.pattern-index l.patterns))
