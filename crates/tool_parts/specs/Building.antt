-- The searcher that is asked for, and why it is not made.
use Rattle.std.specs.Prelude.{◌≡◌, ◌⊎◌, ℕ, Bool, true, List, Some}
use Rattle.aho_core.specs.Patterns.{Patterns}
use Rattle.aho_core.specs.declared.error.BuildError.{BuildError}
use Rattle.aho_core.specs.declared.error.BuildError.TheVariants.{OutOfMemory}
use Rattle.aho_core.specs.declared.search.MatchKind.{MatchKind}
use Rattle.aho_build.specs.Refusals.{Growth, cause, refusal_of}
use Rattle.aho_build.specs.Settings.{default_settings}
use Rattle.aho_build.specs.declared.settings.Settings.{Settings}
use Rattle.chromesquid.specs.Searcher.{Building, default_building}

-- these words, by a match kind and a case rule
abbrev pub patterns_by_kind : MatchKind → Bool → List (List ℕ) → Patterns
patterns_by_kind kind ignore_case words = record { words = words; kind = kind; ignore_case = ignore_case }

-- the settings of their build: all else is as a new builder has it
abbrev pub build_settings : Patterns → Settings
build_settings p = record default_settings { kind = p.kind; ignore_case = p.ignore_case }

-- how their searcher is built: what memory is refused for is left out, and all finds of texts may be asked for
abbrev pub building_by_kind : MatchKind → Bool → (finds_all : Bool) → Building
building_by_kind kind ignore_case finds_all =
    record default_building { settings = record default_settings { kind = kind; ignore_case = ignore_case }; best_effort = true; finds_all = finds_all }

-- why the library does not make it: memory is wanting, or the first number that these patterns ask for above its limit, and the error says
-- which that is
abbrev pub RefusesPatterns : Patterns → BuildError → Type 0
RefusesPatterns p error =
    (error ≡ OutOfMemory)
    ⊎ ((refused : Growth) × (cause (build_settings p) p ≡ Some refused) × (error ≡ refusal_of (build_settings p) refused))
