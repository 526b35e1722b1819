-- The settings of the callers.
use Rattle.std.specs.Prelude.{true, false}
use Rattle.aho_core.specs.declared.search.MatchKind.TheVariants.{LeftmostFirst}
use Rattle.aho_build.specs.Settings.{default_settings}
use Rattle.aho_build.specs.declared.settings.Settings.{Settings}

-- the pattern of least number is found first, in both cases
abbrev pub both_cases : Settings
both_cases = record default_settings { kind = LeftmostFirst; ignore_case = true }

-- no state has a dense row, and no prefilter is held
abbrev pub without_help : Settings
without_help = record default_settings { dense_depth = 0; prefilter = false }
