use Rattle.std.proofs.Common.{◌≡◌, length}
use Rattle.secret_rules.specs.LineCovers.{AreSearchedFor}
use Rattle.secret_rules.specs.OpenLines.{line_rules}
use Rattle.secret_rules.proofs.Taking.{HasTaken}
use Rattle.secret_rules.proofs.open_line.OpenLine.take_in.Given as goal

abbrev pub invariant-lines : goal.invariant-lines
invariant-lines g l = record {
  setting : l.self.setting ≡ l.initial.self.setting;
  rules : line_rules l.self ≡ line_rules l.initial.self;
  rule : g.P.Pieces.rule l.pieces ≡ g.P.Pieces.rule l.initial.pieces;
  failures : g.W.Sink.failures l.sink ≡ g.W.Sink.failures l.initial.sink;
  empty_writes : g.W.Sink.empty_writes l.sink ≡ g.W.Sink.empty_writes l.initial.sink;
  taken : HasTaken g.W.Sink g.P.Pieces (AreSearchedFor g.A.Automaton l.initial.self.setting.automaton) l.initial.self.setting.words (line_rules l.initial.self) l.initial.self.setting.most
      (g.P.Pieces.rule l.initial.pieces) l.initial.self l.self l.initial.pieces l.pieces l.initial.sink l.sink l.initial.counts l.counts l.bytes l.rest;
}

abbrev pub decreases-lines : goal.decreases-lines
decreases-lines g l = length l.rest
