-- How often the text of each pattern was written, by the ranges that were replaced of each text, file after file.
use Rattle.acredact.specs.Common.{Occurrence}
use Rattle.std.specs.Prelude.{◌≡◌, ℕ, ◌-◌, ◌<◌, ◌^◌, min, List, Option, length, slice_index}
use Rattle.aho_cover.specs.Counting.{CountsThese, runs_named}
use Rattle.acredact.specs.Deeds.{WholeText}
use Rattle.acredact.specs.Files.{Task, Work, task_of}
use Rattle.acredact.specs.Reads.{EachGives, OfName}

-- the file of a name was read to its end, and these are the ranges of it that are counted
abbrev pub NameHas : Task → List ℕ → List Occurrence → (left left' : Option (List ℕ)) → Type 0
NameHas task name ranges left left' = OfName task.holds name (WholeText (λ text. task.deed.counts text ranges)) left left'

-- and those of all files, one after another
abbrev pub NamesHave : Task → List (List ℕ) → List Occurrence → (left left' : Option (List ℕ)) → Type 0
NamesHave task names ranges left left' = EachGives (NameHas task) names ranges left left'

abbrev pub NamesHaveRanges : Work → List (List ℕ) → List Occurrence → (left left' : Option (List ℕ)) → Type 0
NamesHaveRanges work names ranges left left' = NamesHave (task_of work) names ranges left left'

-- for each pattern the number of these ranges that have its text in their place; a count stops at the greatest number
pub record AreTotals (size : ℕ) (ranges : List Occurrence) (counts : List ℕ) : Type 0 where
  pub one_each : length counts ≡ size
  pub each : (number : ℕ) → number < size → slice_index counts number ≡ min (runs_named number ranges) (2 ^ 64 - 1)

module _ (left left' : Option (List ℕ)) (counts counts' : List ℕ) where
  -- counts have grown by the ranges of the file of a name
  abbrev pub CountsFile : Task → List ℕ → Type 0
  CountsFile task name = (ranges : List Occurrence) × NameHas task name ranges left left' × CountsThese ranges counts counts'

  -- and of all files
  abbrev pub CountsFiles : Task → List (List ℕ) → Type 0
  CountsFiles task names = (ranges : List Occurrence) × NamesHave task names ranges left left' × CountsThese ranges counts counts'

  abbrev pub CountsOfName : Work → List ℕ → Type 0
  CountsOfName work name = CountsFile (task_of work) name

  abbrev pub CountsOfNames : Work → List (List ℕ) → Type 0
  CountsOfNames work names = CountsFiles (task_of work) names
