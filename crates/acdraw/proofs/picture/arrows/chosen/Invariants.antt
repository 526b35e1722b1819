-- The runs so far that lead to the state.
use Rattle.std.proofs.Common.{◌≡◌, take}
use Rattle.acdraw.specs.Arrows.{runs_to}
use Rattle.acdraw.proofs.picture.arrows.chosen.Given as goal

abbrev pub invariant-loop-run : goal.invariant-loop-run
invariant-loop-run l = l.chosen.items ≡ runs_to l.next (take l.run-index l.runs)
