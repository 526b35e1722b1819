use Rattle.std.proofs.Common.{◌≡◌, length, map, take}
use Rattle.aho_core.specs.Replacement.{pieces_of}
use Rattle.aho_levels.proofs.levels.lens_of.Given as goal

abbrev pub invariant-loop-pattern : goal.invariant-loop-pattern
invariant-loop-pattern l = l.lens.items ≡ map length (pieces_of (take l.pattern-index l.patterns))
