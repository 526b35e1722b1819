-- What `{}` writes of an error.
use Rattle.std.specs.Prelude.{ℕ, List, ◌++◌, codes}
use Rattle.std.specs.Fmt.{decimal}
use Rattle.aho_core.specs.Texts.{build_error_text}
use Rattle.aho_backward.specs.declared.error.BackwardError.{BackwardError}
use Rattle.aho_backward.specs.declared.error.BackwardError.TheVariants.{StandardKind, EmptyPattern, Build}

-- why no searcher was made
abbrev pub backward_error_text : BackwardError → List ℕ
backward_error_text StandardKind = codes "match kind Standard has no search by a walk backward"
backward_error_text (EmptyPattern number) = codes "pattern " ++ (decimal number ++ codes " is empty")
backward_error_text (Build cause) = build_error_text cause
