use Rattle.std.proofs.Common.{◌≡◌, drop}
use Rattle.aho_cover.specs.Pieces.{piece_in}
use Rattle.secret_rules.specs.Writing.{LieFrom}
use Rattle.secret_rules.proofs.WrittenLines.{HasWritten}
use Rattle.secret_rules.proofs.writing.write_line.Given as goal

abbrev pub invariant-loop-run : goal.invariant-loop-run
invariant-loop-run g l = record {
  rule : g.P.Pieces.rule l.pieces ≡ g.P.Pieces.rule l.initial.pieces;
  lie : LieFrom l.line l.at (drop l.run-index l.runs);
  written : HasWritten (g.W.Sink.taken l.initial.sink) (g.W.Sink.taken l.sink) l.line (piece_in (g.P.Pieces.rule l.initial.pieces) l.line) l.runs l.at (drop l.run-index l.runs);
  failures : g.W.Sink.failures l.sink ≡ g.W.Sink.failures l.initial.sink;
  empty_writes : g.W.Sink.empty_writes l.sink ≡ g.W.Sink.empty_writes l.initial.sink;
}
