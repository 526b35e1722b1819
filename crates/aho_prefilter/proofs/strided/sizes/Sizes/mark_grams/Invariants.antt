-- The bits of the grams before the place of the loop are set.
use Rattle.std.proofs.Common.{◌≡◌}
use Rattle.aho_prefilter.specs.Strided.{IsTable, with_grams}
use Rattle.aho_prefilter.proofs.strided.sizes.Sizes.mark_grams.Given as goal

abbrev pub invariant-loop-offset : goal.invariant-loop-offset
invariant-loop-offset l = (l.grams ≡ with_grams l.fn.self l.bytes l.offset l.initial.grams) × IsTable l.grams
