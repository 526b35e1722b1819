-- The bytes of the patterns before the place of the loop were noted, and those below a number were counted.
use Rattle.std.proofs.Common.{◌≡◌, ℕ, ◌<◌, cond, get_or, take}
use Rattle.aho_core.specs.Replacement.{pieces_of}
use Rattle.aho_prefilter.specs.Sizes.{is_used, used_below}
use Rattle.aho_prefilter.proofs.strided.sizes.letters_of.Given as goal

abbrev pub invariant-loop-pattern : goal.invariant-loop-pattern
invariant-loop-pattern l = (byte : ℕ) → byte < 256 → get_or l.seen byte 0 ≡ cond (is_used (pieces_of (take l.pattern-index l.patterns)) byte) 1 0

abbrev pub invariant-loop-one : goal.invariant-loop-one
invariant-loop-one l =
    (l.letters ≡ used_below (pieces_of l.patterns) l.one-index)
    × ((byte : ℕ) → byte < 256 → get_or l.one-items byte 0 ≡ cond (is_used (pieces_of l.patterns) byte) 1 0)
