-- What the parts so far and the others say is what all say.
use Rattle.std.proofs.Common.{◌≡◌, drop, length}
use Rattle.std.specs.List.{slice_split}
use Rattle.acgrep.specs.Colors.{is_colon, palette_of, with_parts}
use Rattle.acgrep.proofs.colors.read_parts.Given as goal

abbrev pub invariant-loop-part : goal.invariant-loop-part
invariant-loop-part l =
    with_parts (drop (length l.yielded) (slice_split is_colon l.fn.text)) (palette_of l.colors) ≡ with_parts (slice_split is_colon l.fn.text) (palette_of l.initial.colors)
