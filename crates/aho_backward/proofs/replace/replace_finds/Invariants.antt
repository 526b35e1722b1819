-- What the loop keeps: the matches that are left stand behind what was copied, and with their pieces it makes the whole.
use Rattle.std.proofs.Common.{◌≡◌, [], length, ◌++◌}
use Rattle.std.specs.Prelude.{slice_index_or}
use Rattle.aho_core.specs.Replacement.{pieces_of, replaced, replaced_from}
use Rattle.aho_backward.specs.Replacing.{StandInTurn}
use Rattle.aho_backward.proofs.replace.replace_finds.Given as goal

abbrev pub invariant-loop-m : goal.invariant-loop-m
invariant-loop-m l = record {
  apart : StandInTurn l.copied (length l.haystack) l.left;
  whole : l.dst.items ++ replaced_from l.haystack l.copied l.left (λ m. slice_index_or (pieces_of l.pieces) m.pattern [])
      ≡ replaced l.haystack l.finds (pieces_of l.pieces);
}

abbrev pub decreases-loop-m : goal.decreases-loop-m
decreases-loop-m l = length l.left
