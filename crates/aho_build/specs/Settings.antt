-- The settings that a build begins with, and the limits in force.
use Rattle.std.specs.Prelude.{false, min, true}
use Rattle.aho_core.specs.Numbers.{greatest_index}
use Rattle.aho_core.specs.declared.search.MatchKind.TheVariants.{Standard}
use Rattle.aho_build.specs.declared.settings.Limits.{Limits}
use Rattle.aho_build.specs.declared.settings.Settings.{Settings}

-- what a build begins with
abbrev pub default_settings : Settings
default_settings = record {
  kind = Standard;
  ignore_case = false;
  dense_depth = 3;
  prefilter = true;
  limits = record { id = greatest_index; pattern = greatest_index; length = greatest_index };
}

-- the limits in force: a limit above the greatest number counts as that
abbrev pub in_force : Settings → Limits
in_force settings = record {
  id = min settings.limits.id greatest_index;
  pattern = min settings.limits.pattern greatest_index;
  length = min settings.limits.length greatest_index;
}
