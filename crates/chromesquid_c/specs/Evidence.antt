-- That a searcher was built from some patterns, as a proposition.
use Rattle.chromesquid.specs.Searcher.{IsBuiltFrom, Searcher}
use Rattle.aho_core.specs.Patterns.{Patterns}

-- it is not so that it was built from none
abbrev pub IsOfSome : Searcher → Type 0
IsOfSome searcher = ((p : Patterns) → IsBuiltFrom searcher p → ⊥) → ⊥
