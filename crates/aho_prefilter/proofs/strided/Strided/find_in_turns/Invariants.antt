-- Each turn looks at one stride at least. There is no place in the strides before the one where it begins.
use Rattle.std.proofs.Common.{◌*◌, ◌≤◌}
use Rattle.memchr.specs.Find.{Nowhere}
use Rattle.aho_prefilter.specs.Strided.{IsMarkedAt}
use Rattle.aho_prefilter.proofs.strided.Strided.find_in_turns.Given as goal

abbrev pub invariant-loop : goal.invariant-loop
invariant-loop l = (l.counter ≤ l.from) × (l.from ≤ l.turns) × Nowhere (IsMarkedAt l.self l.bytes) 0 (l.from * l.self.sizes.stride)
