-- The arrows from a state: each is all runs of bytes that lead to one other.
use Rattle.std.specs.Prelude.{◌≡◌, ◌≢◌, ℕ, List, nat_eq}
use Rattle.std.specs.List.{All, AllPairs, Any, filter}
use Rattle.aho_table.specs.Table.{fail_id}
use Rattle.acdraw.specs.Runs.{AreApart, all_pairs}
use Rattle.acdraw.specs.declared.picture.arrows.Arrow.{Arrow}
use Rattle.acdraw.specs.declared.picture.runs.Run.{Run}

-- the runs that lead to this state
abbrev pub runs_to : ℕ → List Run → List Run
runs_to sid runs = filter (λ run. nat_eq run.next sid) runs

-- an arrow leads to this state
abbrev pub LeadsTo : ℕ → Arrow → Type 0
LeadsTo sid arrow = arrow.next ≡ sid

-- the arrows of some runs: one for each state but FAIL that they lead to, with all the runs that lead there, in their order
pub record IsJoined (runs : List Run) (arrows : List Arrow) : Type 0 where
  pub labels : All (λ (arrow : Arrow). arrow.runs.items ≡ runs_to arrow.next runs) arrows
  pub each : All (λ (run : Run). run.next ≢ fail_id → Any (LeadsTo run.next) arrows) runs
  pub alone : AllPairs (λ (first second : Arrow). first.next ≢ second.next) arrows
  pub somewhere : All (λ (arrow : Arrow). arrow.next ≢ fail_id) arrows

-- the arrows of a list of transitions: the runs, written out byte by byte, are the transitions, and no two of them could be one
pub record AreArrowsOf (transitions : List (ℕ × ℕ)) (arrows : List Arrow) : Type 0 where
  pub runs : List Run
  pub led : all_pairs runs ≡ transitions
  pub apart : AreApart runs
  pub joined : IsJoined runs arrows
