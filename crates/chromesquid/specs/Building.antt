-- What a build of some byte strings makes, and why it fails.
use Rattle.std.specs.Prelude.{List, None, Option, Some, false, length, map, true, ℕ, ◌≡◌, ◌⊎◌}
use denote.Ref.{Bor}
use Rattle.aho_core.specs.Patterns.{Patterns}
use Rattle.aho_core.specs.declared.error.BuildError.{BuildError}
use Rattle.aho_core.specs.declared.error.BuildError.TheVariants.{OutOfMemory}
use Rattle.aho_core.specs.declared.search.Anchored.TheVariants.{No}
use Rattle.aho_core.specs.declared.search.MatchKind.{MatchKind}
use Rattle.aho_build.specs.Automaton.{memory_for}
use Rattle.aho_build.specs.Items.{patterns_of}
use Rattle.aho_build.specs.Refusals.{Growth, cause, refusal_of}
use Rattle.aho_build.specs.declared.settings.Settings.{Settings}
use Rattle.aho_backward.specs.declared.backward.Backward.{Backward}
use Rattle.aho_corasick.specs.contracts.noncontiguous.NFAAutomaton.TheImpl.{ghosts as of_nfa}
use Rattle.aho_corasick.specs.declared.noncontiguous.NFA.{NFA}
use Rattle.chromesquid.specs.Backward.{HoldsIfWorth}
use Rattle.chromesquid.specs.Engine.{HasKind}
use Rattle.chromesquid.specs.Searcher.{Building, IsBuiltFrom, Searcher, allows, automaton_kind_of, kind_for, lengths_of, match_kind_of, memory_usage_of, patterns_len_of}
use Rattle.chromesquid.specs.declared.kinds.AhoCorasickKind.{AhoCorasickKind}
use Rattle.chromesquid.specs.declared.kinds.AhoCorasickKind.TheVariants.{NoncontiguousNFA}
use Rattle.chromesquid.specs.declared.kinds.StartKind.{StartKind}

-- ---- what is made

-- the kind of automaton that a builder is to make
abbrev pub kind_to_make : Building → AhoCorasickKind
kind_to_make building = kind_for building.start_kind building.kind

-- it searches by an automaton of this kind, or by an `NFA` for which rows do not fit
abbrev pub SearchesBy : AhoCorasickKind → Searcher → Type 0
SearchesBy kind searcher = HasKind kind searcher.automaton

-- so it does by the kind that is to be made, where memory that is refused is no reason to have less
abbrev pub SearchesAsAsked : Building → Searcher → Type 0
SearchesAsAsked building searcher = building.best_effort ≡ false → SearchesBy (kind_to_make building) searcher

-- it has no rows: it searches by the noncontiguous automaton
abbrev pub HasTrie : Searcher → Type 0
HasTrie searcher = automaton_kind_of searcher ≡ NoncontiguousNFA

-- it finds by this match kind
abbrev pub HasMatchKind : MatchKind → Searcher → Type 0
HasMatchKind kind searcher = match_kind_of searcher ≡ kind

-- it answers these searches
abbrev pub HasStartKind : StartKind → Searcher → Type 0
HasStartKind kind searcher = searcher.start_kind ≡ kind

-- its patterns are as long as these byte strings
abbrev pub HasLengths : List (Bor (List ℕ)) → Searcher → Type 0
HasLengths items searcher = lengths_of searcher ≡ map (λ item. length item.now) items

-- without rows it has the size of this `NFA`
abbrev pub HasSizeOf : NFA → Searcher → Type 0
HasSizeOf nfa searcher = HasTrie searcher → memory_usage_of searcher ≡ of_nfa.memory nfa

-- and as many
abbrev pub HasCount : List (Bor (List ℕ)) → Searcher → Type 0
HasCount items searcher = patterns_len_of searcher ≡ length items

-- where it has no rows, its size is the one that is stated for these byte strings
abbrev pub HasMemory : Settings → List (Bor (List ℕ)) → Searcher → Type 0
HasMemory settings items searcher = HasTrie searcher → memory_usage_of searcher ≡ memory_for settings (patterns_of settings items)

-- it was built from them, and has that size
abbrev pub IsBuiltWithMemory : Settings → List (Bor (List ℕ)) → Searcher → Type 0
IsBuiltWithMemory settings items searcher = IsBuiltFrom searcher (patterns_of settings items) × HasMemory settings items searcher

-- no walk backward is held beside its automaton
abbrev pub HasNoBackward : Searcher → Type 0
HasNoBackward searcher = searcher.backward ≡ None

-- where all finds are asked for by searches that are not anchored, and memory that is refused is a failure, a walk backward is held if
-- it is worth it and can be made
abbrev pub IsHeldAsAsked : Building → Patterns → Option (Backward NFA) → Type 0
IsHeldAsAsked building p held = building.finds_all ≡ true → building.best_effort ≡ false → allows building.start_kind No ≡ true → HoldsIfWorth p held

-- so it is held beside a searcher's automaton
abbrev pub HoldsAsAsked : Building → Patterns → Searcher → Type 0
HoldsAsAsked building p searcher = IsHeldAsAsked building p searcher.backward

-- ---- what is refused

-- memory was wanted, or the settings refuse these patterns, and the error says which number was the first above its limit
abbrev pub IsFailureOf : Settings → Patterns → BuildError → Type 0
IsFailureOf settings p error =
    (error ≡ OutOfMemory)
    ⊎ ((refused : Growth) × (cause settings p ≡ Some refused) × (error ≡ refusal_of settings refused))

-- the same of the patterns of these byte strings
abbrev pub FailsFor : Settings → List (Bor (List ℕ)) → BuildError → Type 0
FailsFor settings items error = IsFailureOf settings (patterns_of settings items) error

-- the limits refuse nothing of them
abbrev pub Accepts : Settings → List (Bor (List ℕ)) → Type 0
Accepts settings items = cause settings (patterns_of settings items) ≡ None
