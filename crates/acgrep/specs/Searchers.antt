-- What holds of the patterns that the searcher of a call was built from.
use Rattle.acgrep.specs.Common.{IsBuiltFrom, Patterns, Searcher}
use Rattle.acgrep.specs.Arguments.{ending_by}
use Rattle.acgrep.specs.Selected.{ForLines}
use Rattle.acgrep.specs.declared.job.Query.{Query}
use Rattle.acgrep.specs.declared.options.Flags.{Flags}

-- what holds of its patterns where none holds the byte that ends a line
abbrev pub ForSearcher : Searcher → Flags → (Patterns → Type 0) → Type 0
ForSearcher searcher flags Holds = ForLines (ending_by flags) (IsBuiltFrom searcher) Holds

-- a query seeks these patterns
abbrev pub Seeks : Query → Patterns → Type 0
Seeks query p = IsBuiltFrom query.searcher.now p

-- what holds of them where none holds that byte
abbrev pub ForQuery : Query → (Patterns → Type 0) → Type 0
ForQuery query Holds = ForLines query.job.style.ending (Seeks query) Holds
