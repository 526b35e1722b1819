-- What is counted and written of the files that operands name.
use Rattle.acgrep.specs.Common.{Bor, Readers, Searcher, SinkGhosts, name_bytes}
use Rattle.std.specs.Prelude.{◌<◌, List, ℕ}
use Rattle.aho_core.specs.Replacement.{pieces_of}
use Rattle.acgrep.specs.Arguments.{Said}
use Rattle.acgrep.specs.Folders.{known_by}
use Rattle.acgrep.specs.Runs.{BeginsOrCounts, ReachesOrCounts}
use Rattle.acgrep.specs.Searchers.{ForSearcher}
use Rattle.acgrep.specs.declared.colors.Screen.{Screen}
use Rattle.acgrep.specs.declared.folders.Folders.{Ghosts as FolderGhosts}
use Rattle.acgrep.specs.declared.open.Open.{Ghosts as Openers}

-- files are opened and folders listed by one value, standard input is read from another, and a third is written to
module _ {F X R W : Type 0} (openers : Openers F X) (folders : FolderGhosts F) (readers : Readers R) (sinks : SinkGhosts W) (files : F) (names : List (Bor (List ℕ)))
    (searcher : Searcher) (screen : Screen) (given : Said) (patterns : List (Bor (List ℕ))) where
  -- the files that these operands name are searched, or the matches in them counted, whatever patterns the searcher was built from
  abbrev pub SearchesOrCounts : R → R → W → W → ℕ → Type 0
  SearchesOrCounts input input' output output' status =
      ForSearcher searcher given.flags (λ p. status < 2
      → ReachesOrCounts (known_by openers folders files) screen given p (pieces_of patterns) (name_bytes names) (readers.remaining input) (readers.remaining input') (sinks.taken output) (sinks.taken output') status)

  abbrev pub BeginsSearchOrCount : R → W → W → Type 0
  BeginsSearchOrCount input output output' =
      ForSearcher searcher given.flags
      (λ p. BeginsOrCounts (known_by openers folders files) screen given p (pieces_of patterns) (name_bytes names) (readers.remaining input) (sinks.taken output) (sinks.taken output'))
