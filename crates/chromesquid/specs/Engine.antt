-- The automaton that searches is one of several kinds: each member of it is that of the automaton that is held.
use Rattle.std.specs.Prelude.{◌≡◌, ◌⊎◌, ◌≤◌, ℕ, List, [], Bool, true, false, Option, None, IfSome, Result, Err, if◌then◌else◌}
use Rattle.aho_core.specs.Held.{held_after}
use Rattle.aho_core.specs.Laws.{Reads}
use Rattle.aho_core.specs.Occurrence.{Occurrence}
use Rattle.aho_core.specs.Patterns.{Patterns}
use Rattle.aho_core.specs.Search.{Search}
use Rattle.aho_core.specs.Step.{depth_of}
use Rattle.aho_core.specs.declared.error.BuildError.TheVariants.{StateIDOverflow}
use Rattle.aho_core.specs.declared.error.MatchErrorKind.{MatchErrorKind}
use Rattle.aho_core.specs.declared.search.Anchored.{Anchored}
use Rattle.aho_core.specs.declared.search.Anchored.TheVariants.{No}
use Rattle.aho_core.specs.declared.search.MatchKind.{MatchKind}
use Rattle.aho_build.specs.declared.settings.Settings.{Settings}
use Rattle.aho_corasick.specs.contracts.noncontiguous.NFAAutomaton.TheImpl.{ghosts as of_nfa}
use Rattle.aho_corasick.specs.contracts.noncontiguous.NFAAutomaton.TheImpl.Laws.{alike-law as nfa-alike, dead_shallow-law as nfa-dead_shallow, laws-law as nfa-laws, plain-law as nfa-plain, prefilters-law as nfa-prefilters, reaches-law as nfa-reaches, starts_shallow-law as nfa-starts_shallow, unmarked-law as nfa-unmarked}
use Rattle.aho_corasick.specs.declared.noncontiguous.NFA.{NFA}
use Rattle.aho_hybrid.specs.Filled.{IsRowsRefusal}
use Rattle.aho_hybrid.specs.contracts.hybrid.HybridAutomaton.TheImpl.{ghosts as of_hybrid}
use Rattle.aho_hybrid.specs.contracts.hybrid.HybridAutomaton.TheImpl.Laws.{alike-law as rows-alike, dead_shallow-law as rows-dead_shallow, laws-law as rows-laws, plain-law as rows-plain, prefilters-law as rows-prefilters, reaches-law as rows-reaches, starts_shallow-law as rows-starts_shallow, unmarked-law as rows-unmarked}
use Rattle.aho_levels.specs.contracts.levels.LevelsAutomaton.TheImpl.{ghosts as of_levels}
use Rattle.aho_levels.specs.contracts.levels.LevelsAutomaton.TheImpl.Laws.{alike-law as levels-alike, dead_shallow-law as levels-dead_shallow, laws-law as levels-laws, plain-law as levels-plain, prefilters-law as levels-prefilters, reaches-law as levels-reaches, starts_shallow-law as levels-starts_shallow, unmarked-law as levels-unmarked}
use Rattle.aho_prefilter.specs.Prefilter.{IsPrefilterOf, quickest_for}
use Rattle.aho_prefilter.specs.declared.prefilter.Searcher.{Searcher}
use Rattle.chromesquid.specs.declared.engine.Engine.{Engine}
use Rattle.chromesquid.specs.declared.engine.Engine.TheVariants.{Levels, Noncontiguous, Rows}
use Rattle.chromesquid.specs.declared.engine.TheConstants.{ROWS_BUDGET}
use Rattle.chromesquid.specs.declared.kinds.AhoCorasickKind.{AhoCorasickKind}
use Rattle.chromesquid.specs.declared.kinds.AhoCorasickKind.TheVariants.{NoncontiguousNFA, Hybrid as OfRows}

-- ---- its kind

-- which kind of automaton is held
abbrev pub kind_in : Engine → AhoCorasickKind
kind_in (Noncontiguous nfa) = NoncontiguousNFA
kind_in (Rows hybrid) = OfRows
kind_in (Levels levels) = OfRows

-- the rows for an `NFA` do not fit: an index of theirs is above the greatest
pub record HasNoRows (nfa : NFA) : Type 0 where
  pub max : ℕ
  pub requested : ℕ
  pub refused : IsRowsRefusal nfa ROWS_BUDGET (StateIDOverflow max requested)

-- it has this kind, or is an `NFA` for which the rows do not fit
abbrev pub HasKind : AhoCorasickKind → Engine → Type 0
HasKind kind engine = (kind_in engine ≡ kind) ⊎ ((nfa : NFA) × (engine ≡ Noncontiguous nfa) × HasNoRows nfa)

-- without rows it is this `NFA`
abbrev pub IsElse : NFA → Engine → Type 0
IsElse nfa engine = kind_in engine ≡ NoncontiguousNFA → engine ≡ Noncontiguous nfa

-- ---- its search

-- what an automaton's start refuses is refused, but where the span starts above its end
abbrev pub RefusesAs : Result ℕ MatchErrorKind → Search → Result (Option Occurrence) MatchErrorKind → Type 0
RefusesAs start search result = (reason : MatchErrorKind) → search.start ≤ search.end → start ≡ Err reason → result ≡ Err reason

-- ---- the members of `Automaton`

abbrev pub IsEngineOf : Engine → Patterns → Type 0
IsEngineOf (Noncontiguous nfa) p = of_nfa.is_of nfa p
IsEngineOf (Rows hybrid) p = of_hybrid.is_of hybrid p
IsEngineOf (Levels levels) p = of_levels.is_of levels p

abbrev pub IsHeldBy : Engine → Patterns → Anchored → List ℕ → ℕ → Type 0
IsHeldBy (Noncontiguous nfa) p anchored word sid = of_nfa.held nfa p anchored word sid
IsHeldBy (Rows hybrid) p anchored word sid = of_hybrid.held hybrid p anchored word sid
IsHeldBy (Levels levels) p anchored word sid = of_levels.held levels p anchored word sid

abbrev pub IsStateBy : Engine → ℕ → Type 0
IsStateBy (Noncontiguous nfa) sid = of_nfa.valid nfa sid
IsStateBy (Rows hybrid) sid = of_hybrid.valid hybrid sid
IsStateBy (Levels levels) sid = of_levels.valid levels sid

abbrev pub match_kind_by : Engine → MatchKind
match_kind_by (Noncontiguous nfa) = of_nfa.kind nfa
match_kind_by (Rows hybrid) = of_hybrid.kind hybrid
match_kind_by (Levels levels) = of_levels.kind levels

abbrev pub lengths_by : Engine → List ℕ
lengths_by (Noncontiguous nfa) = of_nfa.lengths nfa
lengths_by (Rows hybrid) = of_hybrid.lengths hybrid
lengths_by (Levels levels) = of_levels.lengths levels

abbrev pub list_by : Engine → ℕ → List ℕ
list_by (Noncontiguous nfa) sid = of_nfa.list nfa sid
list_by (Rows hybrid) sid = of_hybrid.list hybrid sid
list_by (Levels levels) sid = of_levels.list levels sid

abbrev pub dead_by : Engine → ℕ → Bool
dead_by (Noncontiguous nfa) sid = of_nfa.dead nfa sid
dead_by (Rows hybrid) sid = of_hybrid.dead hybrid sid
dead_by (Levels levels) sid = of_levels.dead levels sid

abbrev pub special_by : Engine → ℕ → Bool
special_by (Noncontiguous nfa) sid = of_nfa.special nfa sid
special_by (Rows hybrid) sid = of_hybrid.special hybrid sid
special_by (Levels levels) sid = of_levels.special levels sid

abbrev pub marked_by : Engine → ℕ → Bool
marked_by (Noncontiguous nfa) sid = of_nfa.marked nfa sid
marked_by (Rows hybrid) sid = of_hybrid.marked hybrid sid
marked_by (Levels levels) sid = of_levels.marked levels sid

abbrev pub starts_by : Engine → ℕ → Bool
starts_by (Noncontiguous nfa) sid = of_nfa.starts nfa sid
starts_by (Rows hybrid) sid = of_hybrid.starts hybrid sid
starts_by (Levels levels) sid = of_levels.starts levels sid

abbrev pub depth_by : Engine → ℕ → ℕ
depth_by (Noncontiguous nfa) sid = of_nfa.depth nfa sid
depth_by (Rows hybrid) sid = of_hybrid.depth hybrid sid
depth_by (Levels levels) sid = of_levels.depth levels sid

abbrev pub reach_by : Engine → ℕ → ℕ
reach_by (Noncontiguous nfa) sid = of_nfa.reach nfa sid
reach_by (Rows hybrid) sid = of_hybrid.reach hybrid sid
reach_by (Levels levels) sid = of_levels.reach levels sid

abbrev pub next_by : Engine → Anchored → ℕ → ℕ → ℕ
next_by (Noncontiguous nfa) anchored sid byte = of_nfa.next nfa anchored sid byte
next_by (Rows hybrid) anchored sid byte = of_hybrid.next hybrid anchored sid byte
next_by (Levels levels) anchored sid byte = of_levels.next levels anchored sid byte

abbrev pub lookups_by : Engine → Patterns → Anchored → List ℕ → ℕ → ℕ
lookups_by (Noncontiguous nfa) p anchored word byte = of_nfa.lookups nfa p anchored word byte
lookups_by (Rows hybrid) p anchored word byte = of_hybrid.lookups hybrid p anchored word byte
lookups_by (Levels levels) p anchored word byte = of_levels.lookups levels p anchored word byte

abbrev pub start_by : Engine → Anchored → Result ℕ MatchErrorKind
start_by (Noncontiguous nfa) anchored = of_nfa.start nfa anchored
start_by (Rows hybrid) anchored = of_hybrid.start hybrid anchored
start_by (Levels levels) anchored = of_levels.start levels anchored

abbrev pub memory_by : Engine → ℕ
memory_by (Noncontiguous nfa) = of_nfa.memory nfa
memory_by (Rows hybrid) = of_hybrid.memory hybrid
memory_by (Levels levels) = of_levels.memory levels

abbrev pub prefilter_by : Engine → Option Searcher
prefilter_by (Noncontiguous nfa) = of_nfa.prefilter nfa
prefilter_by (Rows hybrid) = of_hybrid.prefilter hybrid
prefilter_by (Levels levels) = of_levels.prefilter levels

-- its rows, if it has some, hold this prefilter
abbrev pub HoldsInRows : Option Searcher → Engine → Type 0
HoldsInRows held engine = kind_in engine ≡ OfRows → prefilter_by engine ≡ held

-- the prefilter that rows for these patterns hold, where the settings want one
abbrev pub held_in_rows : Settings → Patterns → Option Searcher
held_in_rows settings p = if settings.prefilter then quickest_for p else None

-- ---- its laws

pub laws_by : (e : Engine) (p : Patterns) → IsEngineOf e p → Reads p (match_kind_by e) (lengths_by e) (IsHeldBy e p) (list_by e) (dead_by e) (starts_by e)
laws_by (Noncontiguous nfa) p of = nfa-laws nfa p of
laws_by (Rows hybrid) p of = rows-laws hybrid p of
laws_by (Levels levels) p of = levels-laws levels p of

pub alike_by : (e : Engine) (p : Patterns) (word other : List ℕ) (sid : ℕ) → IsEngineOf e p
    → IsHeldBy e p No word sid → held_after p No other ≡ held_after p No word → IsHeldBy e p No other sid
alike_by (Noncontiguous nfa) p word other sid of = nfa-alike nfa p word other sid of
alike_by (Rows hybrid) p word other sid of = rows-alike hybrid p word other sid of
alike_by (Levels levels) p word other sid of = levels-alike levels p word other sid of

pub plain_state_by : (e : Engine) (sid : ℕ) → IsStateBy e sid → special_by e sid ≡ false → (dead_by e sid ≡ false) × (list_by e sid ≡ [])
plain_state_by (Noncontiguous nfa) sid valid = nfa-plain nfa sid valid
plain_state_by (Rows hybrid) sid valid = rows-plain hybrid sid valid
plain_state_by (Levels levels) sid valid = levels-plain levels sid valid

pub unmarked_by : (e : Engine) (sid : ℕ) → IsStateBy e sid → marked_by e sid ≡ false → (dead_by e sid ≡ false) × (list_by e sid ≡ [])
unmarked_by (Noncontiguous nfa) sid valid = nfa-unmarked nfa sid valid
unmarked_by (Rows hybrid) sid valid = rows-unmarked hybrid sid valid
unmarked_by (Levels levels) sid valid = levels-unmarked levels sid valid

pub dead_shallow_by : (e : Engine) (sid : ℕ) → IsStateBy e sid → dead_by e sid ≡ true → depth_by e sid ≡ 0
dead_shallow_by (Noncontiguous nfa) sid valid = nfa-dead_shallow nfa sid valid
dead_shallow_by (Rows hybrid) sid valid = rows-dead_shallow hybrid sid valid
dead_shallow_by (Levels levels) sid valid = levels-dead_shallow levels sid valid

pub starts_shallow_by : (e : Engine) (sid : ℕ) → IsStateBy e sid → starts_by e sid ≡ true → depth_by e sid ≡ 0
starts_shallow_by (Noncontiguous nfa) sid valid = nfa-starts_shallow nfa sid valid
starts_shallow_by (Rows hybrid) sid valid = rows-starts_shallow hybrid sid valid
starts_shallow_by (Levels levels) sid valid = levels-starts_shallow levels sid valid

pub prefilters_by : (e : Engine) (p : Patterns) → IsEngineOf e p → IfSome (prefilter_by e) (λ searcher. IsPrefilterOf searcher p)
prefilters_by (Noncontiguous nfa) p of = nfa-prefilters nfa p of
prefilters_by (Rows hybrid) p of = rows-prefilters hybrid p of
prefilters_by (Levels levels) p of = levels-prefilters levels p of

pub reaches_by : (e : Engine) (p : Patterns) (word : List ℕ) (sid : ℕ) → IsEngineOf e p → IsHeldBy e p No word sid → reach_by e sid ≡ depth_of (held_after p No word)
reaches_by (Noncontiguous nfa) p word sid of = nfa-reaches nfa p word sid of
reaches_by (Rows hybrid) p word sid of = rows-reaches hybrid p word sid of
reaches_by (Levels levels) p word sid of = levels-reaches levels p word sid of
