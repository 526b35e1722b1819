-- What a searcher is seen as, and which patterns it was built from.
use Rattle.std.specs.Prelude.{◌≡◌, ◌≤◌, ℕ, List, Bool, true, false, IfSome, Option, None, Some, Result, Err, IsOk, is_some, length, if◌then◌else◌}
use Rattle.aho_core.specs.Answer.{IsAnswer}
use Rattle.aho_core.specs.Laws.{shortest}
use Rattle.aho_core.specs.Occurrence.{Occurrence}
use Rattle.aho_core.specs.Patterns.{Patterns}
use Rattle.aho_core.specs.Search.{Search}
use Rattle.aho_build.specs.Settings.{default_settings}
use Rattle.aho_build.specs.declared.settings.Settings.{Settings}
use Rattle.aho_core.specs.declared.error.MatchErrorKind.{MatchErrorKind}
use Rattle.aho_core.specs.declared.error.MatchErrorKind.TheVariants.{InvalidInputAnchored, InvalidInputUnanchored}
use Rattle.aho_core.specs.declared.search.Anchored.{Anchored}
use Rattle.aho_core.specs.declared.search.Anchored.TheVariants.{No, Yes}
use Rattle.aho_core.specs.declared.search.MatchKind.{MatchKind}
use Rattle.aho_automaton.specs.declared.automaton.Automaton.{Ghosts as Automata}
use Rattle.aho_backward.specs.declared.backward.Backward.{Backward}
use Rattle.aho_corasick.specs.declared.noncontiguous.NFA.{NFA}
use Rattle.aho_prefilter.specs.declared.prefilter.Searcher.{Searcher as Prefilter}
use Rattle.chromesquid.specs.Backward.{IsBackwardFor}
use Rattle.chromesquid.specs.Engine.{kind_in}
use Rattle.chromesquid.specs.contracts.engine.EngineAutomaton.TheImpl.{ghosts}
use Rattle.chromesquid.specs.declared.engine.Engine.{Engine}
use Rattle.chromesquid.specs.declared.kinds.AhoCorasickKind.{AhoCorasickKind}
use Rattle.chromesquid.specs.declared.kinds.AhoCorasickKind.TheVariants.{NoncontiguousNFA, Hybrid}
use Rattle.chromesquid.specs.declared.kinds.StartKind.{StartKind}
use Rattle.chromesquid.specs.declared.kinds.StartKind.TheVariants.{Both, Unanchored, Anchored as AnchoredOnly}

-- an automaton, which searches are answered, and a walk backward beside the automaton, if one is held
pub record Searcher : Type 0 where
  pub automaton : Engine
  pub start_kind : StartKind
  pub backward : Option (Backward NFA)

-- which kind of automaton it searches by
abbrev pub automaton_kind_of : Searcher → AhoCorasickKind
automaton_kind_of searcher = kind_in searcher.automaton

-- which of several matches it finds
abbrev pub match_kind_of : Searcher → MatchKind
match_kind_of searcher = ghosts.kind searcher.automaton

-- how many bytes each of its patterns has
abbrev pub lengths_of : Searcher → List ℕ
lengths_of searcher = ghosts.lengths searcher.automaton

-- how many patterns it has
abbrev pub patterns_len_of : Searcher → ℕ
patterns_len_of searcher = length (lengths_of searcher)

-- how many bytes of memory it holds, by the stated sizes of its parts
abbrev pub memory_usage_of : Searcher → ℕ
memory_usage_of searcher = ghosts.memory searcher.automaton

-- the prefilter that it holds, if it holds one
abbrev pub prefilter_held_by : Searcher → Option Prefilter
prefilter_held_by searcher = ghosts.prefilter searcher.automaton

-- none of its patterns is empty
abbrev pub HasNoEmpty : Searcher → Type 0
HasNoEmpty searcher = 1 ≤ shortest (lengths_of searcher)

-- one of its patterns is empty
abbrev pub HasEmpty : Searcher → Type 0
HasEmpty searcher = shortest (lengths_of searcher) ≡ 0

-- whether searches of this anchoring are answered
abbrev pub allows : StartKind → Anchored → Bool
allows Both anchored = true
allows Unanchored No = true
allows Unanchored Yes = false
allows AnchoredOnly No = false
allows AnchoredOnly Yes = true

-- the kind of automaton that is made where this one is asked for: rows answer no anchored search, and are taken where nothing is
-- asked for
abbrev pub kind_for : StartKind → Option AhoCorasickKind → AhoCorasickKind
kind_for Unanchored None = Hybrid
kind_for Unanchored (Some kind) = kind
kind_for Both asked = NoncontiguousNFA
kind_for AnchoredOnly asked = NoncontiguousNFA

-- the searcher was built from these patterns, with their match kind and case rule, each search that is answered has a start, and a
-- walk backward that is held gives the finds of the same patterns
pub record IsBuiltFrom (searcher : Searcher) (p : Patterns) : Type 0 where
  pub reads : ghosts.is_of searcher.automaton p
  pub starts : (anchored : Anchored) → allows searcher.start_kind anchored ≡ true → IsOk (ghosts.start searcher.automaton anchored)
  pub walks_back : IfSome searcher.backward (λ backward. IsBackwardFor backward p)

-- it was built from some patterns
abbrev pub IsBuiltFromSome : Searcher → Type 0
IsBuiltFromSome searcher = (p : Patterns) × IsBuiltFrom searcher p

-- so it is of all patterns that the searcher was built from
abbrev pub ForItsPatterns : Searcher → (Patterns → Type 0) → Type 0
ForItsPatterns searcher Holds = (p : Patterns) → IsBuiltFrom searcher p → Holds p

-- why a search of this anchoring is refused
abbrev pub why_refused : Anchored → MatchErrorKind
why_refused No = InvalidInputUnanchored
why_refused Yes = InvalidInputAnchored

-- the searcher answers searches of this anchoring
abbrev pub Answers : Searcher → Anchored → Type 0
Answers searcher anchored = allows searcher.start_kind anchored ≡ true

-- and refuses them
abbrev pub RefusesSearch : Searcher → Anchored → Type 0
RefusesSearch searcher anchored = allows searcher.start_kind anchored ≡ false

-- a search of this anchoring begins in the automaton's start, or is refused
abbrev pub start_by : Searcher → Anchored → Result ℕ MatchErrorKind
start_by searcher anchored = if allows searcher.start_kind anchored then ghosts.start searcher.automaton anchored else Err (why_refused anchored)

-- an automaton answers searches that are not anchored as the searcher does
pub record StandsFor {A : Type 0} (G : Automata A) (automaton : A) (searcher : Searcher) : Type 0 where
  pub some : IsBuiltFromSome searcher
  pub of : ForItsPatterns searcher (G.is_of automaton)
  pub kind : G.kind automaton ≡ match_kind_of searcher
  pub lengths : G.lengths automaton ≡ lengths_of searcher
  pub start : G.start automaton No ≡ start_by searcher No

-- whether a search finds a match is told so
pub record TellsIfFound (p : Patterns) (search : Search) (told : Bool) : Type 0 where
  pub answer : Option Occurrence
  pub answers : IsAnswer p search answer
  pub is : told ≡ is_some answer

-- how a searcher is built
pub record Building : Type 0 where
  pub settings : Settings
  pub start_kind : StartKind
  pub kind : Option AhoCorasickKind
  pub best_effort : Bool
  pub finds_all : Bool

-- how it is built where nothing is set
abbrev pub default_building : Building
default_building = record { settings = default_settings; start_kind = Unanchored; kind = None; best_effort = false; finds_all = false }
