-- The places that meet a group before the place of the loop were counted.
use Rattle.std.proofs.Common.{◌≡◌, ◌≤◌, ◌*◌, ◌^◌}
use Rattle.aho_prefilter.specs.Density.{places_below}
use Rattle.aho_prefilter.proofs.packed_heads.PackedHeads.density.Given as goal

abbrev pub invariant-loop-group : goal.invariant-loop-group
invariant-loop-group l = (l.density ≡ places_below l.self l.least l.group) × (l.density ≤ l.group * 2 ^ 60)
