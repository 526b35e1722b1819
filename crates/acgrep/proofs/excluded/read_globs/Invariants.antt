-- The texts of the rules so far were read.
use Rattle.std.proofs.Common.{◌≡◌, drop}
use Rattle.acgrep.specs.Listed.{listed_bytes}
use Rattle.acgrep.specs.Loading.{GivesText}
use Rattle.acgrep.specs.Rules.{rules_said}
use Rattle.acgrep.proofs.Gathered.{GaveSoFar}
use Rattle.acgrep.proofs.excluded.read_globs.Given as goal

abbrev pub invariant-loop-rule : goal.invariant-loop-rule
invariant-loop-rule g l = record {
  texts : GaveSoFar (GivesText (g.F.Open.holds l.fn.files)) (rules_said l.fn.rules) (g.R.Read.remaining l.initial.input) (rules_said (drop l.rule-index l.fn.rules)) (g.R.Read.remaining l.input) (listed_bytes l.texts.items);
  told : l.errors ≡ l.initial.errors;
}
