-- What is asked for: which matches of which patterns, and the settings of the automaton's build.
use Rattle.std.specs.Prelude.{◌≡◌, ℕ, Bool, false, List, [], ◌∷◌, Option, None, map, option_map, string_bytes}
use Rattle.aho_core.specs.Patterns.{Patterns}
use Rattle.aho_core.specs.declared.search.MatchKind.{MatchKind}
use Rattle.aho_core.specs.declared.search.MatchKind.TheVariants.{Standard}
use Rattle.aho_build.specs.Refusals.{cause}
use Rattle.aho_build.specs.Settings.{default_settings}
use Rattle.aho_build.specs.declared.settings.Settings.{Settings}
use Rattle.tool_parts.specs.declared.command.Request.{Request}
use Rattle.tool_parts.specs.declared.command.Task.{Task}
use Rattle.tool_parts.specs.declared.command.Task.TheVariants.{Find, Overlap}

-- which matches are printed, and the bytes of each pattern
pub record Asked : Type 0 where
  pub task : Task
  pub patterns : List (List ℕ)

-- each argument's bytes are a pattern
abbrev pub asked_for : Request → Asked
asked_for request = record { task = request.task; patterns = map string_bytes request.patterns.now }

-- a request asks for this: none where nothing is asked for
abbrev pub AsksFor : Option Request → Option Asked → Type 0
AsksFor request asked = option_map asked_for request ≡ asked

-- overlapping search is that of the kind `Standard`, and of letters as they are
abbrev pub kind_of : Task → MatchKind
kind_of (Find kind ignore_case) = kind
kind_of Overlap = Standard

abbrev pub ignores_case : Task → Bool
ignores_case (Find kind ignore_case) = ignore_case
ignores_case Overlap = false

abbrev pub asked_patterns : Asked → Patterns
asked_patterns asked = record { words = asked.patterns; kind = kind_of asked.task; ignore_case = ignores_case asked.task }

-- these words, as a task searches for them
abbrev pub task_patterns : Task → List (List ℕ) → Patterns
task_patterns task words = asked_patterns (record { task = task; patterns = words })

-- the patterns of a request
abbrev pub request_patterns : Request → Patterns
request_patterns request = asked_patterns (asked_for request)

-- their kind and case rule; all else is as a new builder has it
abbrev pub settings_for : Task → Settings
settings_for task = record default_settings { kind = kind_of task; ignore_case = ignores_case task }

-- these patterns, by the kind `Standard`
abbrev pub standard_patterns : Bool → List (List ℕ) → Patterns
standard_patterns ignore_case words = record { words = words; kind = Standard; ignore_case = ignore_case }

-- these are the patterns, by whatever kind
pub record ArePatterns (p : Patterns) (ignore_case : Bool) (words : List (List ℕ)) : Type 0 where
  pub words_are : p.words ≡ words
  pub rule : p.ignore_case ≡ ignore_case

-- nothing that is asked for is refused by the build
abbrev pub Builds : Asked → Type 0
Builds asked = cause (settings_for asked.task) (asked_patterns asked) ≡ None

-- patterns, and for each the piece that is written in the place of its matches
pub record Replacing : Type 0 where
  pub patterns : List (List ℕ)
  pub pieces : List (List ℕ)

-- the arguments at even places, the first of which is 0, and those at odd places
abbrev pub at_even : List (List ℕ) → List (List ℕ)
at_even [] = []
at_even (first ∷ []) = first ∷ []
at_even (first ∷ second ∷ rest) = first ∷ at_even rest

abbrev pub at_odd : List (List ℕ) → List (List ℕ)
at_odd [] = []
at_odd (first ∷ []) = []
at_odd (first ∷ second ∷ rest) = second ∷ at_odd rest

-- each pattern is followed by its piece
abbrev pub replacing_for : List (List ℕ) → Replacing
replacing_for arguments = record { patterns = at_even arguments; pieces = at_odd arguments }

-- replacement is that of the kind `Standard`, and of letters as they are
abbrev pub patterns_to_replace : Replacing → Patterns
patterns_to_replace asked = standard_patterns false asked.patterns

-- what holds of each replacement by these pieces of the patterns that are searched for
abbrev pub OfReplacing : (AreSearched : Patterns → Type 0) → List (List ℕ) → (Replacing → Type 0) → Type 0
OfReplacing AreSearched pieces Holds = (asked : Replacing) → asked.pieces ≡ pieces → AreSearched (patterns_to_replace asked) → Holds asked

-- no pattern is refused by the build
abbrev pub BuildsReplacing : Replacing → Type 0
BuildsReplacing asked = cause default_settings (patterns_to_replace asked) ≡ None
