-- Which prefilter an automaton holds, and what of it is collected while its patterns are taken.
use Rattle.std.specs.Prelude.{◌≡◌, true, false, if◌then◌else◌, Option, Some, None}
use Rattle.aho_core.specs.Patterns.{Patterns}
use Rattle.aho_prefilter.specs.Prefilter.{held_for}
use Rattle.aho_prefilter.specs.Taken.{HasTaken}
use Rattle.aho_prefilter.specs.declared.prefilter.Searcher.{Searcher}
use Rattle.aho_prefilter.specs.declared.prefilter.builder.PrefilterBuilder.{PrefilterBuilder}
use Rattle.aho_build.specs.declared.compiler.prefilter.PrefilterPatterns.{PrefilterPatterns}
use Rattle.aho_build.specs.declared.settings.Settings.{Settings}

-- the prefilter for these patterns, all of them, where the settings want one
abbrev pub held_by : Settings → Patterns → Option Searcher
held_by settings p = if settings.prefilter then held_for p else None

-- a builder has these patterns exactly where the settings want a prefilter
abbrev pub AreTaken : Settings → Patterns → Option PrefilterBuilder → Type 0
AreTaken settings p None = settings.prefilter ≡ false
AreTaken settings p (Some builder) = (settings.prefilter ≡ true) × HasTaken builder p

abbrev pub Collects : Settings → Patterns → PrefilterPatterns → Type 0
Collects settings p collected = AreTaken settings p collected.builder
