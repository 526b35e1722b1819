-- The patterns that a call asks for.
use Rattle.acredact.specs.Common.{Patterns}
use Rattle.std.specs.Prelude.{ℕ, List}
use Rattle.tool_parts.specs.Building.{patterns_by_kind}
use Rattle.acredact.specs.Arguments.{Given, has, kind_asked}
use Rattle.acredact.specs.declared.options.Word.TheVariants.{IgnoreCase}

-- these words, by the kind and the case rule that are given
abbrev pub patterns_by_given : List Given → List (List ℕ) → Patterns
patterns_by_given given words = patterns_by_kind (kind_asked given) (has IgnoreCase given) words
