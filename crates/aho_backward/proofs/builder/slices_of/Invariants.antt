-- What the loop keeps: the slices so far are those of the first words.
use Rattle.std.proofs.Common.{◌≡◌, map, take}
use Rattle.aho_core.specs.Replacement.{pieces_of}
use Rattle.aho_backward.proofs.builder.slices_of.Given as goal

abbrev pub invariant-loop-word : goal.invariant-loop-word
invariant-loop-word l = pieces_of l.slices.items ≡ map (λ word. word.items) (take l.word-index l.words)
