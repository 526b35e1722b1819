-- What is told of a build that fails: its numbers, and its text.
use Rattle.std.specs.Prelude.{◌≡◌, ◌++◌, ℕ, List, [], Option, None, Some, codes, if◌then◌else◌, nat_eq}
use Rattle.std.specs.Borrow.{Bor}
use Rattle.std.specs.Fmt.{decimal}
use Rattle.aho_core.specs.Texts.{build_error_text}
use Rattle.aho_core.specs.declared.error.BuildError.{BuildError}
use Rattle.aho_core.specs.declared.error.BuildError.TheVariants.{OutOfMemory, PatternIDOverflow, PatternTooLong, StateIDOverflow}
use Rattle.aho_core.specs.declared.search.MatchKind.{MatchKind}
use Rattle.aho_build.specs.declared.settings.Settings.{Settings}
use Rattle.chromesquid.specs.Building.{FailsFor}
use Rattle.chromesquid.specs.declared.kinds.StartKind.{StartKind}
use Rattle.chromesquid_c.specs.Building.{build_status, kind_numbered, later_option, start_numbered}
use Rattle.chromesquid_c.specs.declared.options.CsError.{CsError}
use Rattle.chromesquid_c.specs.declared.options.CsOptions.{CsOptions}
use Rattle.chromesquid_c.specs.declared.options.TheConstants.{OPTIONS_SIZE}
use Rattle.chromesquid_c.specs.declared.status.TheConstants.{AUTOMATON, LATER, MATCH_KIND, NO_MEMORY, NO_OPTION, SIZE, START_KIND, TOO_LONG, TOO_MANY_PATTERNS, TOO_MANY_STATES}

-- ---- its numbers

-- an option has this number, which means nothing
abbrev pub option_error : ℕ → ℕ → CsError
option_error option number = record { status = NO_OPTION; option = option; pattern = 0; requested = number; max = 0 }

-- which option that is, the first of them: the automaton where the others mean something
abbrev pub error_among : Option MatchKind → Option StartKind → CsOptions → CsError
error_among None start options = option_error MATCH_KIND options.match_kind
error_among (Some kind) None options = option_error START_KIND options.start_kind
error_among (Some kind) (Some start) options = option_error AUTOMATON options.automaton

-- what is told of options that mean nothing: of their size, where that is another one, else of what is asked of a later version
abbrev pub error_of_options : CsOptions → CsError
error_of_options options =
    if nat_eq options.size OPTIONS_SIZE
    then (if nat_eq (later_option options) 0
    then error_among (kind_numbered options.match_kind) (start_numbered options.start_kind) options
    else option_error LATER (later_option options))
    else option_error SIZE options.size

-- what is told of a build's error
abbrev pub error_told : BuildError → CsError
error_told OutOfMemory = record { status = NO_MEMORY; option = 0; pattern = 0; requested = 0; max = 0 }
error_told (StateIDOverflow max requested) = record { status = TOO_MANY_STATES; option = 0; pattern = 0; requested = requested; max = max }
error_told (PatternIDOverflow max requested) = record { status = TOO_MANY_PATTERNS; option = 0; pattern = requested; requested = requested; max = max }
error_told (PatternTooLong pattern len max) = record { status = TOO_LONG; option = 0; pattern = pattern; requested = len; max = max }

-- the build of these byte strings fails for what the number and the error say
pub record FailsTelling (settings : Settings) (items : List (Bor (List ℕ))) (status : ℕ) (told : CsError) : Type 0 where
  pub error : BuildError
  pub fails : FailsFor settings items error
  pub answered : status ≡ build_status error
  pub is_told : told ≡ error_told error

-- ---- its text

-- what an option is called
abbrev pub error_option_name : ℕ → List ℕ
error_option_name option =
    if nat_eq option MATCH_KIND then codes "match kind" else (
    if nat_eq option START_KIND then codes "start kind" else (
    if nat_eq option SIZE then codes "size" else (
    if nat_eq option LATER then codes "later option" else codes "automaton")))

-- the text of an error of this status: as a build's error is printed, or that a number of an option means nothing; none of another
abbrev pub text_by : ℕ → CsError → List ℕ
text_by status told =
    if nat_eq status NO_MEMORY then build_error_text OutOfMemory
    else (if nat_eq status NO_OPTION then error_option_name told.option ++ (codes " " ++ (decimal told.requested ++ codes " means nothing"))
    else (if nat_eq status TOO_MANY_STATES then build_error_text (StateIDOverflow told.max told.requested)
    else (if nat_eq status TOO_MANY_PATTERNS then build_error_text (PatternIDOverflow told.max told.requested)
    else (if nat_eq status TOO_LONG then build_error_text (PatternTooLong told.pattern told.requested told.max) else []))))

abbrev pub error_text : CsError → List ℕ
error_text told = text_by told.status told
