use Rattle.std.proofs.Common.{◌≡◌, ◌≤◌, ◌-◌}
use Rattle.aho_stream.specs.After.{greatest_position}
use Rattle.secret_rules.specs.LineCovers.{AreSearchedFor}
use Rattle.secret_rules.specs.OpenLines.{line_rules}
use Rattle.secret_rules.proofs.Streaming.{Going}
use Rattle.secret_rules.proofs.covering.cover_from.Given as goal

abbrev pub invariant-reads : goal.invariant-reads
invariant-reads g l = record {
  setting : l.line.setting ≡ l.initial.line.setting;
  rules : line_rules l.line ≡ line_rules l.initial.line;
  rule : g.P.Pieces.rule l.pieces ≡ g.P.Pieces.rule l.initial.pieces;
  read_failures : g.R.Source.failures l.source ≡ g.R.Source.failures l.initial.source;
  failures : g.W.Sink.failures l.sink ≡ g.W.Sink.failures l.initial.sink;
  empty_writes : g.W.Sink.empty_writes l.sink ≡ g.W.Sink.empty_writes l.initial.sink;
  within : l.read ≤ greatest_position;
  going : Going g.R.Source g.W.Sink g.P.Pieces (AreSearchedFor g.A.Automaton l.initial.line.setting.automaton) l.initial.line.setting.words (line_rules l.initial.line) l.initial.line.setting.most
      (g.P.Pieces.rule l.initial.pieces) l.initial.source l.initial.sink l.initial.counts l.line l.pieces l.source l.sink l.counts;
}

abbrev pub decreases-reads : goal.decreases-reads
decreases-reads g l = greatest_position - l.read
