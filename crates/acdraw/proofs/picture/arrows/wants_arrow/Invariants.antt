-- No arrow so far leads to the state.
use Rattle.std.proofs.Common.{◌≢◌, take}
use Rattle.std.specs.List.{All}
use Rattle.acdraw.specs.declared.picture.arrows.Arrow.{Arrow}
use Rattle.acdraw.proofs.picture.arrows.wants_arrow.Given as goal

abbrev pub invariant-loop-arrow : goal.invariant-loop-arrow
invariant-loop-arrow l = All (λ (arrow : Arrow). arrow.next ≢ l.next) (take l.arrow-index l.arrows)
