-- The rules of the names so far were read.
use Rattle.acgrep.proofs.Common.{name_bytes}
use Rattle.std.proofs.Common.{◌≡◌, drop}
use Rattle.acgrep.specs.RunsByRules.{AreNamedRules}
use Rattle.acgrep.proofs.Gathered.{GaveSoFar}
use Rattle.acgrep.proofs.rule_lists.read_rules.Given as goal

abbrev pub invariant-loop-name : goal.invariant-loop-name
invariant-loop-name g l = record {
  so_far : GaveSoFar (AreNamedRules (g.F.Open.holds l.fn.files)) (name_bytes l.fn.names) (g.R.Read.remaining l.initial.input) (name_bytes (drop l.name-index l.fn.names)) (g.R.Read.remaining l.input) l.rules.items;
  told : l.errors ≡ l.initial.errors;
}
