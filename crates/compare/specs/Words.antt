-- The patterns of a case.
use Rattle.std.specs.Prelude.{ℕ, Bool, List}
use Rattle.std.specs.Borrow.{Bor}
use Rattle.aho_core.specs.Patterns.{Patterns}
use Rattle.aho_core.specs.declared.search.MatchKind.{MatchKind}
use Rattle.aho_build.specs.Items.{patterns_of}
use Rattle.aho_build.specs.Settings.{default_settings}

-- these words, searched for by a match kind and a case rule
abbrev pub words_by : MatchKind → Bool → List (Bor (List ℕ)) → Patterns
words_by kind ignore_case words = patterns_of (record default_settings { kind = kind; ignore_case = ignore_case }) words
