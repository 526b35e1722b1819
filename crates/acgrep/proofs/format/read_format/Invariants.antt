-- The pieces so far, and those of what is left.
use Rattle.std.proofs.Common.{◌++◌, ◌≡◌, length}
use Rattle.std.specs.Prelude.{option_map}
use Rattle.acgrep.specs.Formats.{format_pieces, format_text, unknown_in}
use Rattle.acgrep.proofs.format.read_format.Given as goal

abbrev pub invariant-loop-rest : goal.invariant-loop-rest
invariant-loop-rest l = record {
  read : format_pieces l.fn.format ≡ option_map (λ pieces. l.pieces.items ++ pieces) (format_pieces l.rest);
  text : format_text l.pieces.items ++ l.rest ≡ l.fn.format;
  unknown : unknown_in l.fn.format ≡ unknown_in l.rest;
}

abbrev pub decreases-loop-rest : goal.decreases-loop-rest
decreases-loop-rest l = length l.rest
