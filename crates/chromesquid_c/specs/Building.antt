-- What the numbers of the options mean, and why a build fails.
use Rattle.std.specs.Prelude.{◌≡◌, ℕ, zero, suc, false, ◌&&◌, List, [], ◌∷◌, Option, None, Some, if◌then◌else◌, nat_eq}
use Rattle.std.specs.Borrow.{Bor}
use Rattle.aho_core.specs.declared.error.BuildError.{BuildError}
use Rattle.aho_core.specs.declared.error.BuildError.TheVariants.{OutOfMemory, PatternIDOverflow, PatternTooLong, StateIDOverflow}
use Rattle.aho_core.specs.declared.search.MatchKind.{MatchKind}
use Rattle.aho_core.specs.declared.search.MatchKind.TheVariants.{LeftmostFirst, LeftmostLongest, Standard}
use Rattle.aho_build.specs.Items.{patterns_of}
use Rattle.aho_build.specs.Settings.{default_settings}
use Rattle.aho_build.specs.declared.settings.Limits.{Limits}
use Rattle.aho_build.specs.declared.settings.Settings.{Settings}
use Rattle.chromesquid.specs.Building.{FailsFor, HasCount, HasLengths, HasMatchKind, HasStartKind, SearchesAsAsked}
use Rattle.chromesquid.specs.Searcher.{Building, IsBuiltFrom, Searcher}
use Rattle.chromesquid.specs.declared.kinds.AhoCorasickKind.{AhoCorasickKind}
use Rattle.chromesquid.specs.declared.kinds.AhoCorasickKind.TheVariants.{Hybrid, NoncontiguousNFA}
use Rattle.chromesquid.specs.declared.kinds.StartKind.{StartKind}
use Rattle.chromesquid.specs.declared.kinds.StartKind.TheVariants.{Anchored, Both, Unanchored}
use Rattle.chromesquid_c.specs.Holding.{HoldsSearcher}
use Rattle.chromesquid_c.specs.declared.status.TheConstants.{NO_MEMORY, TOO_LONG, TOO_MANY_PATTERNS, TOO_MANY_STATES}
use Rattle.chromesquid_c.specs.declared.handle.CsSearcher.{CsSearcher}
use Rattle.chromesquid_c.specs.declared.options.CsOptions.{CsOptions}
use Rattle.chromesquid_c.specs.declared.options.TheConstants.{OPTIONS_SIZE}

-- ---- the options

-- the match kind of a number, if it has one
abbrev pub kind_numbered : ℕ → Option MatchKind
kind_numbered zero = Some Standard
kind_numbered (suc zero) = Some LeftmostFirst
kind_numbered (suc (suc zero)) = Some LeftmostLongest
kind_numbered (suc (suc (suc n))) = None

-- which searches are answered, by a number, if it says so
abbrev pub start_numbered : ℕ → Option StartKind
start_numbered zero = Some Unanchored
start_numbered (suc zero) = Some Anchored
start_numbered (suc (suc zero)) = Some Both
start_numbered (suc (suc (suc n))) = None

-- the kind of automaton of a number, if it means one; none is asked for where the rule takes it
abbrev pub automaton_numbered : ℕ → Option (Option AhoCorasickKind)
automaton_numbered zero = Some None
automaton_numbered (suc zero) = Some (Some NoncontiguousNFA)
automaton_numbered (suc (suc zero)) = Some (Some Hybrid)
automaton_numbered (suc (suc (suc n))) = None

-- the limits that the options set
abbrev pub limits_by : CsOptions → Limits
limits_by options = record { id = options.max_index; pattern = options.max_pattern; length = options.max_len }

-- how a searcher is built for these kinds, if there are all three, and for the rest of the options
abbrev pub building_for : Option MatchKind → Option StartKind → Option (Option AhoCorasickKind) → CsOptions → Option Building
building_for None start automaton options = None
building_for (Some kind) None automaton options = None
building_for (Some kind) (Some start) None options = None
building_for (Some kind) (Some start) (Some automaton) options = Some (record {
  settings = record default_settings { kind = kind; ignore_case = options.ignore_case; prefilter = options.prefilter; limits = limits_by options };
  start_kind = start;
  kind = automaton;
  best_effort = false;
  finds_all = false;
})

-- the first of these numbers that is not 0, if there is one
abbrev pub first_over_zero : List ℕ → ℕ
first_over_zero [] = 0
first_over_zero (zero ∷ rest) = first_over_zero rest
first_over_zero (suc n ∷ rest) = suc n

-- what the options ask of a later version: 0 where nothing
abbrev pub later_option : CsOptions → ℕ
later_option options = first_over_zero (options.later_a ∷ options.later_b ∷ options.later_c ∷ options.later_d ∷ [])

-- how a searcher is built by the options, if they have the size of options, ask nothing of a later version, and each of their numbers means something
abbrev pub building_by : CsOptions → Option Building
building_by options =
    if nat_eq options.size OPTIONS_SIZE && nat_eq (later_option options) 0
    then building_for (kind_numbered options.match_kind) (start_numbered options.start_kind) (automaton_numbered options.automaton) options
    else None

-- if they mean something, this is so of what they mean
abbrev pub ForOptions : CsOptions → (Building → Type 0) → Type 0
ForOptions options Is = (building : Building) → building_by options ≡ Some building → Is building

-- ---- what is built

-- the handle leads to a searcher that was built so from these byte strings
pub record IsBuiltBy (building : Building) (items : List (Bor (List ℕ))) (handle : CsSearcher) : Type 0 where
  pub searcher : Searcher
  pub holds : HoldsSearcher handle searcher
  pub of : IsBuiltFrom searcher (patterns_of building.settings items)
  pub match_kind : HasMatchKind building.settings.kind searcher
  pub start_kind : HasStartKind building.start_kind searcher
  pub kind : SearchesAsAsked building searcher
  pub count : HasCount items searcher
  pub lengths : HasLengths items searcher

-- the number that says why a build failed
abbrev pub build_status : BuildError → ℕ
build_status OutOfMemory = NO_MEMORY
build_status (StateIDOverflow max requested) = TOO_MANY_STATES
build_status (PatternIDOverflow max requested) = TOO_MANY_PATTERNS
build_status (PatternTooLong pattern len max) = TOO_LONG

-- the build of these byte strings fails for what the number says
abbrev pub FailsWith : Settings → List (Bor (List ℕ)) → ℕ → Type 0
FailsWith settings items status = (error : BuildError) × FailsFor settings items error × (status ≡ build_status error)
