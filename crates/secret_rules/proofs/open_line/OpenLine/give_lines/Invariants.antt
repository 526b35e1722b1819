use Rattle.std.proofs.Common.{◌≡◌, ◌+◌, ◌≤◌, length}
use Rattle.secret_rules.specs.OpenLines.{line_rules}
use Rattle.secret_rules.proofs.TakenLines.{HasGiven}
use Rattle.secret_rules.proofs.open_line.OpenLine.give_lines.Given as goal

abbrev pub invariant-lines : goal.invariant-lines
invariant-lines g l = record {
  setting : l.self.setting ≡ l.initial.self.setting;
  rules : line_rules l.self ≡ line_rules l.initial.self;
  fits : l.count + length l.rest ≤ l.initial.count + length l.bytes;
  given : HasGiven g.A.Automaton l.initial.self.setting (line_rules l.initial.self) g.V.LineVisitor l.initial.self l.self l.initial.count l.count l.initial.visitor l.visitor l.bytes l.rest;
}

abbrev pub decreases-lines : goal.decreases-lines
decreases-lines g l = length l.rest
