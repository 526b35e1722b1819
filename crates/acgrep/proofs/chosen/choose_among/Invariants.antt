-- What was chosen so far.
use Rattle.acgrep.proofs.Common.{name_bytes}
use Rattle.std.proofs.Common.{drop}
use Rattle.acgrep.specs.Folders.{tree_of}
use Rattle.acgrep.specs.Rules.{rules_said}
use Rattle.acgrep.proofs.Choosing.{AreSoFar}
use Rattle.acgrep.proofs.chosen.choose_among.Given as goal

abbrev pub invariant-loop-name : goal.invariant-loop-name
invariant-loop-name g l = AreSoFar (tree_of g.F.Folders l.fn.files) (rules_said l.fn.rules) l.fn.ways (name_bytes l.fn.names) (name_bytes (drop l.name-index l.fn.names)) l.found
