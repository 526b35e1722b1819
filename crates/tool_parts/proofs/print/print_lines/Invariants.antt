-- The lines of what came so far were written.
use Rattle.std.proofs.Common.{◌≡◌, Bool, Ok}
use Rattle.std.specs.Io.KnownBytes.{Appends}
use Rattle.tool_parts.specs.Answers.{is_any, lines_of}
use Rattle.tool_parts.specs.Streams.{CountsWrites, output_bytes}
use Rattle.tool_parts.proofs.print.print_lines.Given as goal

abbrev pub invariant-loop-found : goal.invariant-loop-found
invariant-loop-found g l = record {
  can_next : (goal.iterator-loop-found g).can_next l.found-iterator;
  is_finite : (goal.iterator-loop-found g).is_finite l.found-iterator;
  written : Appends (output_bytes g.W.Write l.initial.output) (output_bytes g.W.Write l.output) (lines_of l.yielded);
  told : l.any ≡ is_any l.yielded;
  faults : CountsWrites {A = Bool} l.initial.output l.output (Ok l.any);
}
