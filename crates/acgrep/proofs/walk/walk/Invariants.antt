-- What was found so far.
use Rattle.acgrep.proofs.Common.{name_bytes}
use Rattle.acgrep.specs.Folders.{Begins, spots_of, tree_of}
use Rattle.acgrep.specs.Rules.{rules_said}
use Rattle.acgrep.proofs.walk.walk.Given as goal

abbrev pub invariant-loop : goal.invariant-loop
invariant-loop g l = Begins (tree_of g.F.Folders l.fn.files) (rules_said l.fn.rules) l.fn.ways (name_bytes l.fn.operands) (spots_of l.pending.items) l.found
