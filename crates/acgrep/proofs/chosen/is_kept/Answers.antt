-- Where none is left out a name is not looked at.
use Rattle.std.proofs.Common.{◌∙◌, sym}
use Rattle.acgrep.specs.Folders.{tree_of}
use Rattle.acgrep.specs.Rules.{rules_said}
use Rattle.acgrep.proofs.Choosing.{all_kept}
use Rattle.acgrep.proofs.chosen.is_kept.Goals as goal

pub returns-then-not-chooses : goal.returns-then-not-chooses
returns-then-not-chooses g c = record {
  kept = all_kept (tree_of g.F.Folders c.args.files.now) (rules_said c.args.rules.now) c.args.ways (sym c.chooses.ensures ∙ c.if-not-chooses.true) c.args.name.now;
}
