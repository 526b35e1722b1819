-- What an overlapping search passes over, where it skips from a start.
use Rattle.std.proofs.Common.{◌≡◌, ℕ, ◌+◌, ◌<◌, ◌≤◌, inl, inr, Bool, true, List, [], length, sym, ◌∙◌, ap, subst, arith}
use Rattle.std.specs.Prelude.{Option, Some, None, slice_range}
use Rattle.std.proofs.lemmas.Bool.{cases_lt}
use Rattle.aho_core.specs.declared.search.Anchored.{Anchored}
use Rattle.aho_core.specs.declared.search.Anchored.TheVariants.{No}
use Rattle.aho_core.specs.declared.search.MatchKind.{MatchKind}
use Rattle.aho_core.specs.declared.search.MatchKind.TheVariants.{Standard}
use Rattle.aho_core.specs.Laws.{Reads}
use Rattle.aho_core.specs.Occurrence.{Occurrence}
use Rattle.aho_core.specs.Occurs.{Occurs}
use Rattle.aho_core.specs.Patterns.{Patterns}
use Rattle.aho_core.specs.Progress.{StandsAt, listed_at}
use Rattle.aho_core.specs.Search.{Search}
use Rattle.aho_prefilter.specs.Candidate.{IsCandidate, NoneStartsBefore, place_of}
use Rattle.aho_prefilter.specs.declared.prefilter.Candidate.{Candidate}
use Rattle.aho_prefilter.proofs.Skips.{IsCandidate-place, IsCandidate-nothing}
use Rattle.aho_automaton.specs.Overlaps.{NoneEnds, SkipsTo}
use Rattle.aho_automaton.proofs.Endings.{nothing_ends, nothing_here}
use Rattle.aho_automaton.proofs.Listing.{ending}
use Rattle.aho_automaton.proofs.Origins.{starts_past}
use Rattle.aho_automaton.proofs.PartWay.{here_is, none_further, place_low}
use Rattle.aho_automaton.proofs.Places.{no_part}

-- none up to a place, and none from there on
pub none_joined : (p : Patterns) (search : Search) (from mid upto : ℕ) → NoneEnds p search from (mid + 1) → NoneEnds p search mid upto → NoneEnds p search from upto
none_joined p search from mid upto first second end least most =
    elim (cases_lt mid end) [ inl past ↦ second end past most | inr ge ↦ first end least (omega arith) ]

module _ {p : Patterns} {kind : MatchKind} {lengths : List ℕ} {held : Anchored → List ℕ → ℕ → Type 0} {list : ℕ → List ℕ} {dead starts : ℕ → Bool} (laws : Reads p kind lengths held list dead starts) (standard : kind ≡ Standard)
    (valid : ℕ → Type 0) (search : Search) (within : search.end ≤ length search.haystack) where
  module _ (unanchored : search.anchored ≡ No) (sid at : ℕ) (s : StandsAt valid held p search sid at) (is_start : starts sid ≡ true) where
    -- what ends past a start that is held
    starts_later : (m : Occurrence) → Occurs p No search.haystack search.start search.end m → at < m.end → Occurs p No search.haystack at search.end m
    starts_later m o past =
        elim (cases_lt m.start s.origin) [
          | inl sooner ↦ absurd (omega (arith, s.apart m o sooner, s.before_place))
          | inr ge ↦
              (let here : Occurs p No search.haystack s.origin search.end m = record { numbered = o.numbered; after_start = ge; before_end = o.before_end; sized = o.sized; same = o.same; admitted = λ x. cc } in
              let word_held = subst (λ (a : Anchored). held a (slice_range search.haystack s.origin at) sid) unanchored s.is_held in
              record {
                numbered = o.numbered;
                after_start = starts_past p search.haystack search.start s.origin search.end s.after_start at s.before_place s.in_span within (λ v n. laws.start_apart (slice_range search.haystack s.origin at) v sid n word_held is_start) m here past;
                before_end = o.before_end;
                sized = o.sized;
                same = o.same;
                admitted = λ x. cc;
              })
        ]

    -- none ends where none can start
    none_ends : (end : ℕ) → at < end → end ≤ search.end → ((m : Occurrence) → Occurs p No search.haystack at search.end m → m.end ≡ end → ⊥) → listed_at p search end ≡ []
    none_ends end past high none =
        here_is p search end (omega (arith, place_low valid held p search sid at s)) high
        ∙ ap (λ (a : Anchored). ending p search.haystack search.start a end) unanchored
        ∙ nothing_ends p search.haystack search.start end search.end high (omega arith) (λ m o e. none m (starts_later m o (omega arith)) e)

    -- with the start at a later place before which none starts
    stands_there : (place : ℕ) → at ≤ place → place ≤ search.end → NoneStartsBefore p search.haystack at search.end place → StandsAt valid held p search sid place
    stands_there place low high none =
        elim (cases_lt at place) [
          | inl past ↦ record {
            origin = place;
            after_start = omega (arith, place_low valid held p search sid at s);
            before_place = omega arith;
            in_span = high;
            from_start = λ anchored. cc;
            apart = λ m o sooner. elim (cases_lt at m.end) [ inl later ↦ absurd (omega (arith, none m (starts_later m o later))) | inr ge ↦ omega arith ];
            is_state = s.is_state;
            is_held =
                subst (λ (w : List ℕ). held search.anchored w sid) (sym (no_part search.haystack place))
                (subst (λ (a : Anchored). held a [] sid) (sym unanchored)
                (laws.start_again (slice_range search.haystack s.origin at) sid (subst (λ (a : Anchored). held a (slice_range search.haystack s.origin at) sid) unanchored s.is_held) is_start));
          }
          | inr ge ↦ (let same : at ≡ place = omega arith in subst (StandsAt valid held p search sid) same s)
        ]

    -- from a start that lists nothing the search skips to the next candidate
    pub skips_to : list sid ≡ [] → (candidate : Candidate) (place : Option ℕ) → IsCandidate p search.haystack at search.end candidate → place_of candidate ≡ place → SkipsTo valid held p search sid at place
    skips_to nothing candidate None is tells = λ end least most.
        none_ends end least (omega arith) (λ m o e. IsCandidate-nothing p search.haystack at search.end candidate is tells m o)
    skips_to nothing candidate (Some place) is tells =
        let told = IsCandidate-place p search.haystack at search.end place candidate is tells in
        let there = stands_there place told.0 told.1 told.2 in (
          told.0,
          there,
          none_further p search at place (place_low valid held p search sid place there) told.1 (nothing_here laws standard valid search sid place within there nothing)
              (λ end least most. none_ends end least (omega (arith, told.1)) (λ m o e. omega (arith, told.2 m o, o.sized))),
        )
