use Rattle.std.proofs.Common.{◌≡◌, ◌≤◌, ◌-◌}
use Rattle.aho_stream.specs.After.{greatest_position}
use Rattle.secret_rules.specs.OpenLines.{line_rules}
use Rattle.secret_rules.proofs.Visited.{GoingOn}
use Rattle.secret_rules.proofs.visiting.visit_from.Given as goal

abbrev pub invariant-reads : goal.invariant-reads
invariant-reads g l = record {
  setting : l.line.setting ≡ l.initial.line.setting;
  rules : line_rules l.line ≡ line_rules l.initial.line;
  read_failures : g.R.Source.failures l.source ≡ g.R.Source.failures l.initial.source;
  within : l.read ≤ greatest_position;
  counted : l.count ≤ l.read;
  going : GoingOn g.A.Automaton l.initial.line.setting (line_rules l.initial.line) g.R.Source g.V.LineVisitor l.initial.source l.initial.visitor l.line l.count l.source l.visitor;
}

abbrev pub decreases-reads : goal.decreases-reads
decreases-reads g l = greatest_position - l.read
