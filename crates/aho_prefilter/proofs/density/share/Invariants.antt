-- The bytes before the place of the loop were weighed.
use Rattle.std.proofs.Common.{◌≡◌, ◌≤◌, ◌*◌}
use Rattle.aho_prefilter.specs.Density.{share_below}
use Rattle.aho_prefilter.proofs.density.share.Given as goal

abbrev pub invariant-loop-number : goal.invariant-loop-number
invariant-loop-number l = (l.share ≡ share_below l.masks l.least l.group l.number) × (l.share ≤ l.number * 128)
