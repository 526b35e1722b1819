-- The operands were chosen, or what is below them was found.
use Rattle.acgrep.proofs.Common.{Ways, name_bytes, or_input}
use Rattle.std.proofs.Common.{List, subst}
use Rattle.acgrep.specs.Arguments.{said}
use Rattle.acgrep.specs.Folders.{AreChosen, missed_of, tree_of}
use Rattle.acgrep.specs.Listed.{listed_bytes}
use Rattle.acgrep.specs.Rules.{rules_said}
use Rattle.acgrep.specs.declared.rules.Rule.{Rule}
use Rattle.acgrep.proofs.Choosing.{reached-chosen}
use Rattle.acgrep.proofs.below.found_by.Goals as goal

pub returns-in-Ok : goal.returns-in-Ok
returns-in-Ok g c =
    let tree = tree_of g.F.Folders c.args.files.now in
    let names = name_bytes c.args.operands.now in
    let found = c.in-Ok.found in
    record {
      reached = reached-chosen tree (said c.args.given.now) names (listed_bytes found.names.items) (missed_of found.unread.items) c.if-given.false
          (subst (λ (ways : Ways). AreChosen tree (rules_said c.args.given.now.rules.items) ways (or_input names) (listed_bytes found.names.items)) c.ways-2.ensures.ways
          (subst (λ (l : List Rule). AreChosen tree (rules_said l) c.ways-2.result (or_input names) (listed_bytes found.names.items)) c.as_slice-rules.ensures.value c.in-Ok.ensures.chosen)) c.in-Ok.ensures.all;
    }
