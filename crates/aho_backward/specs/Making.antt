-- Why no searcher is made.
use Rattle.std.specs.Prelude.{◌≡◌, ◌≢◌, ◌⊎◌, ℕ, ◌<◌, Bool, false, List, [], Some, length, slice_index_or}
use Rattle.aho_core.specs.Patterns.{Patterns}
use Rattle.aho_core.specs.declared.error.BuildError.{BuildError}
use Rattle.aho_core.specs.declared.error.BuildError.TheVariants.{OutOfMemory}
use Rattle.aho_core.specs.declared.search.MatchKind.{MatchKind}
use Rattle.aho_core.specs.declared.search.MatchKind.TheVariants.{Standard}
use Rattle.aho_laws.specs.CutLaws.{NoneIsEmpty}
use Rattle.aho_automaton.specs.declared.automaton.Automaton.{Ghosts as Automata}
use Rattle.aho_build.specs.Refusals.{Growth, cause, refusal_of}
use Rattle.aho_build.specs.Settings.{default_settings}
use Rattle.aho_build.specs.declared.settings.Settings.{Settings}
use Rattle.aho_backward.specs.Turned.{AreLeading, turned}
use Rattle.aho_backward.specs.declared.error.BackwardError.{BackwardError}
use Rattle.aho_backward.specs.declared.error.BackwardError.TheVariants.{Build, EmptyPattern, StandardKind}

-- the settings of an automaton that is not searched by a prefilter
abbrev pub unaided_settings : MatchKind → Bool → Settings
unaided_settings kind ignore_case = record default_settings { kind = kind; ignore_case = ignore_case; prefilter = false }

-- the word of this number is the first that is empty
pub record IsFirstEmpty (words : List (List ℕ)) (number : ℕ) : Type 0 where
  pub within : number < length words
  pub empty : slice_index_or words number [] ≡ []
  pub first : (other : ℕ) → other < number → 0 < length (slice_index_or words other [])

-- the limits refuse these patterns, and the error says by which number
abbrev pub IsPastLimit : Patterns → BuildError → Type 0
IsPastLimit p error = (refused : Growth) × (cause (unaided_settings p.kind p.ignore_case) p ≡ Some refused) × (error ≡ refusal_of (unaided_settings p.kind p.ignore_case) refused)

-- memory was wanted, or the limits refuse these patterns
abbrev pub IsOutOfRoom : Patterns → BuildError → Type 0
IsOutOfRoom p error = (error ≡ OutOfMemory) ⊎ IsPastLimit p error

-- so for the patterns, or for those that lead turned round
abbrev pub IsUnbuilt : Patterns → BuildError → Type 0
IsUnbuilt p error = IsOutOfRoom p error ⊎ ((given : List ℕ) × AreLeading p given × IsOutOfRoom (turned p given) error)

-- a build is refused so
abbrev pub IsUnmade : Patterns → BackwardError → Type 0
IsUnmade p StandardKind = ⊥
IsUnmade p (EmptyPattern number) = ⊥
IsUnmade p (Build error) = IsUnbuilt p error

-- no searcher of these patterns is made, for this reason
abbrev pub MakesNone : Patterns → BackwardError → Type 0
MakesNone p StandardKind = p.kind ≡ Standard
MakesNone p (EmptyPattern number) = (p.kind ≢ Standard) × IsFirstEmpty p.words number
MakesNone p (Build error) = (p.kind ≢ Standard) × NoneIsEmpty p × IsUnbuilt p error

-- so it is said of the patterns of these words and this case rule that an automaton is of
abbrev pub ForPatternsOf : {A : Type 0} → Automata A → A → List (List ℕ) → Bool → (Patterns → Type 0) → Type 0
ForPatternsOf G a words ignore_case Says = (p : Patterns) → G.is_of a p
    → p.words ≡ words → p.ignore_case ≡ ignore_case → Says p
