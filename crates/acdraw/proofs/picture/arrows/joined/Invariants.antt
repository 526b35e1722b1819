-- The arrows of the runs so far, each with all the runs that lead to its state.
use Rattle.std.proofs.Common.{◌≡◌, ◌≢◌, take}
use Rattle.std.specs.List.{All, AllPairs, Any}
use Rattle.aho_table.specs.Table.{fail_id}
use Rattle.acdraw.specs.Arrows.{LeadsTo, runs_to}
use Rattle.acdraw.specs.declared.picture.arrows.Arrow.{Arrow}
use Rattle.acdraw.specs.declared.picture.runs.Run.{Run}
use Rattle.acdraw.proofs.picture.arrows.joined.Given as goal

abbrev pub invariant-loop-run : goal.invariant-loop-run
invariant-loop-run l = record {
  labels : All (λ (arrow : Arrow). arrow.runs.items ≡ runs_to arrow.next l.runs) l.arrows.items;
  each : All (λ (run : Run). run.next ≢ fail_id → Any (LeadsTo run.next) l.arrows.items) (take l.run-index l.runs);
  alone : AllPairs (λ (first second : Arrow). first.next ≢ second.next) l.arrows.items;
  somewhere : All (λ (arrow : Arrow). arrow.next ≢ fail_id) l.arrows.items;
}
