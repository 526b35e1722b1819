-- What an automaton's laws tell of its kind and its lengths, and of what a searcher was built from.
use Rattle.std.proofs.Common.{◌≡◌, ◌∙◌, ap, sym, subst, refl, true, false, Bool, List, ℕ, None, Option}
use Rattle.std.specs.Prelude.{Err, IsOk, Ok, Result, map, length, if◌then◌else◌}
use Rattle.std.proofs.lemmas.Bool.{both_ways}
use Rattle.std.proofs.lemmas.List.{length-map}
use Rattle.std.proofs.lemmas.Simd.{map-map}
use denote.Ref.{Bor}
use Rattle.aho_core.specs.Laws.{furthest, longest, shortest}
use Rattle.aho_core.specs.Occurrence.{Occurrence}
use Rattle.aho_core.specs.Patterns.{Patterns}
use Rattle.aho_core.specs.declared.error.MatchErrorKind.TheVariants.{InvalidInputUnanchored}
use Rattle.aho_core.specs.declared.search.Anchored.{Anchored}
use Rattle.aho_core.specs.declared.search.Anchored.TheVariants.{No, Yes}
use Rattle.aho_core.specs.declared.search.MatchKind.{MatchKind}
use Rattle.aho_core.specs.declared.search.MatchKind.TheVariants.{LeftmostFirst, LeftmostLongest, Standard}
use Rattle.aho_build.specs.Items.{patterns_of}
use Rattle.aho_build.specs.declared.settings.Settings.{Settings}
use Rattle.aho_corasick.specs.Clones.{IsCloneOf}
use Rattle.aho_corasick.specs.declared.noncontiguous.NFA.{NFA}
use Rattle.aho_corasick.specs.contracts.noncontiguous.NFAAutomaton.TheImpl.{ghosts as of_nfa}
use Rattle.aho_hybrid.specs.contracts.hybrid.HybridAutomaton.TheImpl.{ghosts as of_rows}
use Rattle.aho_hybrid.specs.declared.hybrid.Hybrid.{Hybrid as HybridOf}
use Rattle.aho_levels.specs.contracts.levels.LevelsAutomaton.TheImpl.{ghosts as of_levels}
use Rattle.aho_levels.specs.declared.levels.Levels.{Levels as LevelsOf}
use Rattle.aho_backward.specs.declared.backward.Backward.{Backward}
use Rattle.chromesquid.specs.Backward.{IsHeldFor}
use Rattle.chromesquid.specs.Engine.{kind_in, laws_by}
use Rattle.chromesquid.specs.Searcher.{Answers, IsBuiltFrom, RefusesSearch, Searcher, allows, kind_for, lengths_of, match_kind_of, patterns_len_of, why_refused, start_by}
use Rattle.chromesquid.specs.contracts.engine.EngineAutomaton.TheImpl.{ghosts}
use Rattle.chromesquid.specs.declared.engine.Engine.{Engine}
use Rattle.chromesquid.specs.declared.engine.Engine.TheVariants.{Levels, Noncontiguous, Rows}
use Rattle.chromesquid.specs.declared.kinds.AhoCorasickKind.{AhoCorasickKind}
use Rattle.chromesquid.specs.declared.kinds.AhoCorasickKind.TheVariants.{NoncontiguousNFA, Hybrid}
use Rattle.chromesquid.specs.declared.kinds.StartKind.{StartKind}
use Rattle.chromesquid.specs.declared.kinds.StartKind.TheVariants.{Both, Unanchored, Anchored as AnchoredOnly}

-- it finds by its patterns' match kind
pub kind-of : (p : Patterns) (engine : Engine) → ghosts.is_of engine p → ghosts.kind engine ≡ p.kind
kind-of p engine of = (laws_by engine p of).kind_is

-- its lengths are those of its patterns
pub lengths-of : (p : Patterns) (engine : Engine) → ghosts.is_of engine p → ghosts.lengths engine ≡ map length p.words
lengths-of p engine of = (laws_by engine p of).lengths_are

-- so they are those of the byte strings that it was built from
pub lengths-of_items : (settings : Settings) (items : List (Bor (List ℕ))) (searcher : Searcher) → IsBuiltFrom searcher (patterns_of settings items)
    → ghosts.lengths searcher.automaton ≡ map (λ item. length item.now) items
lengths-of_items settings items searcher built = lengths-of (patterns_of settings items) searcher.automaton built.reads ∙ map-map length (λ item. item.now) items

-- rows are not the noncontiguous automaton
abbrev is_rows : AhoCorasickKind → Bool
is_rows NoncontiguousNFA = false
is_rows Hybrid = true

rows_are_no_trie : Hybrid ≡ NoncontiguousNFA → ⊥
rows_are_no_trie same = both_ways true (ap is_rows same) refl

-- an automaton of this kind has a start for each search that is answered
suits : (start_kind : StartKind) (asked : Option AhoCorasickKind) (engine : Engine) (anchored : Anchored) → (kind_for start_kind asked ≡ NoncontiguousNFA → kind_in engine ≡ NoncontiguousNFA)
    → allows start_kind anchored ≡ true → IsOk (ghosts.start engine anchored)
suits start_kind asked (Noncontiguous nfa) anchored kind allowed = refl
suits start_kind asked (Rows hybrid) No kind allowed = refl
suits start_kind asked (Levels levels) anchored kind allowed = refl
suits Both asked (Rows hybrid) Yes kind allowed = absurd (rows_are_no_trie (kind refl))
suits Unanchored asked (Rows hybrid) Yes kind allowed = absurd (both_ways false refl allowed)
suits AnchoredOnly asked (Rows hybrid) Yes kind allowed = absurd (rows_are_no_trie (kind refl))

-- so a searcher with the automaton that was made for some patterns was built from them
pub built_as : (kind : AhoCorasickKind) (start_kind : StartKind) (asked : Option AhoCorasickKind) (engine : Engine) (back : Option (Backward NFA)) (p : Patterns) → kind ≡ kind_for start_kind asked
    → (kind ≡ NoncontiguousNFA → kind_in engine ≡ NoncontiguousNFA) → ghosts.is_of engine p → IsHeldFor p back
    → IsBuiltFrom (record { automaton = engine; start_kind = start_kind; backward = back }) p
built_as kind start_kind asked engine back p is trie of held =
    record {
      reads = of;
      starts = λ anchored allowed. suits start_kind asked engine anchored (λ same. trie (is ∙ same)) allowed;
      walks_back = held;
    }

-- a copy of what is held is one of the automaton
pub copy_of_trie : (nfa copy : NFA) → IsCloneOf of_nfa copy nfa → IsCloneOf ghosts (Noncontiguous copy) (Noncontiguous nfa)
copy_of_trie nfa copy clone =
    record {
      same_patterns = clone.same_patterns;
      same_held = clone.same_held;
      same_valid = clone.same_valid;
      same_kind = clone.same_kind;
      same_lengths = clone.same_lengths;
      same_list = clone.same_list;
      same_dead = clone.same_dead;
      same_special = clone.same_special;
      same_marked = clone.same_marked;
      same_starts = clone.same_starts;
      same_depth = clone.same_depth;
      same_reach = clone.same_reach;
      same_next = clone.same_next;
      same_lookups = clone.same_lookups;
      same_start = clone.same_start;
      same_memory = clone.same_memory;
      same_prefilter = clone.same_prefilter;
      same_skips_streams = refl;
    }

pub copy_of_rows : (hybrid copy : HybridOf) → IsCloneOf of_rows copy hybrid → IsCloneOf ghosts (Rows copy) (Rows hybrid)
copy_of_rows hybrid copy clone =
    record {
      same_patterns = clone.same_patterns;
      same_held = clone.same_held;
      same_valid = clone.same_valid;
      same_kind = clone.same_kind;
      same_lengths = clone.same_lengths;
      same_list = clone.same_list;
      same_dead = clone.same_dead;
      same_special = clone.same_special;
      same_marked = clone.same_marked;
      same_starts = clone.same_starts;
      same_depth = clone.same_depth;
      same_reach = clone.same_reach;
      same_next = clone.same_next;
      same_lookups = clone.same_lookups;
      same_start = clone.same_start;
      same_memory = clone.same_memory;
      same_prefilter = clone.same_prefilter;
      same_skips_streams = refl;
    }

pub copy_of_levels : (levels copy : LevelsOf) → IsCloneOf of_levels copy levels → IsCloneOf ghosts (Levels copy) (Levels levels)
copy_of_levels levels copy clone =
    record {
      same_patterns = clone.same_patterns;
      same_held = clone.same_held;
      same_valid = clone.same_valid;
      same_kind = clone.same_kind;
      same_lengths = clone.same_lengths;
      same_list = clone.same_list;
      same_dead = clone.same_dead;
      same_special = clone.same_special;
      same_marked = clone.same_marked;
      same_starts = clone.same_starts;
      same_depth = clone.same_depth;
      same_reach = clone.same_reach;
      same_next = clone.same_next;
      same_lookups = clone.same_lookups;
      same_start = clone.same_start;
      same_memory = clone.same_memory;
      same_prefilter = clone.same_prefilter;
      same_skips_streams = refl;
    }

-- a searcher has as many patterns as it was built from
pub count_of : (p : Patterns) (searcher : Searcher) → IsBuiltFrom searcher p → patterns_len_of searcher ≡ length p.words
count_of p searcher built = ap length (lengths-of p searcher.automaton built.reads) ∙ length-map p.words length

-- the shortest and the longest of its patterns
pub shortest_of : (p : Patterns) (searcher : Searcher) → IsBuiltFrom searcher p → shortest (lengths_of searcher) ≡ shortest (map length p.words)
shortest_of p searcher built = ap shortest (lengths-of p searcher.automaton built.reads)

pub longest_of : (p : Patterns) (searcher : Searcher) → IsBuiltFrom searcher p → longest (lengths_of searcher) ≡ longest (map length p.words)
longest_of p searcher built = ap longest (lengths-of p searcher.automaton built.reads)

-- and finds by their match kind
pub finds_by : (p : Patterns) (searcher : Searcher) → IsBuiltFrom searcher p → match_kind_of searcher ≡ p.kind
finds_by p searcher built = kind-of p searcher.automaton built.reads

-- a search has no start where it is refused
pub start_refused : (searcher : Searcher) → RefusesSearch searcher No → start_by searcher No ≡ Err InvalidInputUnanchored
start_refused searcher refuses = ap (λ (b : Bool). if b then ghosts.start searcher.automaton No else Err (why_refused No)) refuses

-- what is told is some value
ok_value : {A E : Type 0} (r : Result A E) → IsOk r → (x : A) × (r ≡ Ok x)
ok_value (Ok x) ok = (x, refl)
ok_value (Err e) ok = absurd (both_ways false refl ok)

-- the automaton has a start for each search that is answered
pub engine_start : (anchored : Anchored) (searcher : Searcher) → (p : Patterns) × IsBuiltFrom searcher p → Answers searcher anchored → (sid : ℕ) × (ghosts.start searcher.automaton anchored ≡ Ok sid)
engine_start anchored searcher built answers = ok_value (ghosts.start searcher.automaton anchored) (built.1.starts anchored answers)

-- and one where it is answered
pub start_of : (anchored : Anchored) (searcher : Searcher) → (p : Patterns) × IsBuiltFrom searcher p → Answers searcher anchored → (sid : ℕ) × (start_by searcher anchored ≡ Ok sid)
start_of anchored searcher built answers =
    let start = engine_start anchored searcher built answers in
    (start.0, ap (λ (b : Bool). if b then ghosts.start searcher.automaton anchored else Err (why_refused anchored)) answers ∙ start.1)

-- a searcher that was built from a list of byte strings has as many patterns
pub count-of_items : (settings : Settings) (items : List (Bor (List ℕ))) (searcher : Searcher) → IsBuiltFrom searcher (patterns_of settings items)
    → patterns_len_of searcher ≡ length items
count-of_items settings items searcher built = ap length (lengths-of_items settings items searcher built) ∙ length-map items (λ item. length item.now)

-- a copy of a searcher's automaton is of patterns that the searcher was built from
pub copy_is_of : (engine copy : Engine) (searcher : Searcher) → engine ≡ searcher.automaton → IsCloneOf ghosts copy engine
    → (p : Patterns) → IsBuiltFrom searcher p → IsBuiltFrom (record { automaton = copy; start_kind = searcher.start_kind; backward = None }) p
copy_is_of engine copy searcher is clone p built =
    record {
      reads = (clone.same_patterns p).0 (subst (λ (e : Engine). ghosts.is_of e p) (sym is) built.reads);
      starts = λ anchored allowed.
          subst IsOk (sym (ap (λ f. f anchored) clone.same_start)) (subst (λ (e : Engine). IsOk (ghosts.start e anchored)) (sym is) (built.starts anchored allowed));
      walks_back = tt;
    }

-- an earliest search need not read behind its match
pub furthest_earliest : (kind : MatchKind) (lengths : List ℕ) (m : Occurrence) → furthest kind true lengths m ≡ m.end
furthest_earliest Standard lengths m = refl
furthest_earliest LeftmostFirst lengths m = refl
furthest_earliest LeftmostLongest lengths m = refl
