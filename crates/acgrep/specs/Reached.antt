-- What is searched and told of the files that operands name.
use Rattle.acgrep.specs.Common.{Bor, Errors, Readers, Searcher, SinkGhosts, name_bytes}
use Rattle.std.specs.Prelude.{◌<◌, ◌≡◌, ◌⊎◌, Bool, List, false, length, true, ℕ}
use Rattle.tool_parts.specs.Telling.{Tells, TellsSome}
use Rattle.acgrep.specs.Arguments.{Said}
use Rattle.acgrep.specs.Folders.{known_by}
use Rattle.acgrep.specs.Runs.{SearchesReached}
use Rattle.acgrep.specs.Searchers.{ForSearcher}
use Rattle.acgrep.specs.Told.{IsMessage}
use Rattle.acgrep.specs.declared.colors.Screen.{Screen}
use Rattle.acgrep.specs.declared.folders.Folders.{Ghosts as FolderGhosts}
use Rattle.acgrep.specs.declared.open.Open.{Ghosts as Openers}

-- each of these names is told, unless nothing is to be told of them
pub record TellsMissed {E : Type 0} (K : SinkGhosts E) (hushed : Bool) (unread : List (List ℕ)) (old new : Errors E) : Type 0 where
  pub tells : Tells K (IsMessage unread) old new
  pub none : (hushed ≡ true) ⊎ (length unread ≡ 0) → new ≡ old
  pub some : hushed ≡ false → 0 < length unread → TellsSome K (IsMessage unread) old new

-- files are opened and folders listed by one value, standard input is read from another, and a third is written to
module _ {F X R W : Type 0} (openers : Openers F X) (folders : FolderGhosts F) (readers : Readers R) (sinks : SinkGhosts W) where
  -- the files that these operands name are searched, whatever patterns the searcher was built from
  abbrev pub SearchesOperands : F → List (Bor (List ℕ)) → Searcher → Screen → Said → R → R → W → W → ℕ → Type 0
  SearchesOperands files names searcher screen given input input' output output' status =
      ForSearcher searcher given.flags (λ p. status < 2
      → SearchesReached (known_by openers folders files) screen given p (name_bytes names) (readers.remaining input) (readers.remaining input') (sinks.taken output) (sinks.taken output') status)
