-- What is known of a later part of a span is known of the whole span: what a search keeps that skips.
use Rattle.std.proofs.Common.{◌≡◌, ℕ, ◌+◌, ◌≤◌, inl, inr, Bool, true, false, List, length, subst, arith}
use Rattle.std.specs.Prelude.{Some, None, slice_range}
use Rattle.std.proofs.lemmas.Bool.{cases_lt}
use Rattle.aho_core.specs.declared.search.Anchored.{Anchored}
use Rattle.aho_core.specs.declared.search.Anchored.TheVariants.{No}
use Rattle.aho_core.specs.declared.search.MatchKind.{MatchKind}
use Rattle.aho_core.specs.Answer.{IsAnswer}
use Rattle.aho_core.specs.Laws.{Reads}
use Rattle.aho_core.specs.Occurrence.{Occurrence}
use Rattle.aho_core.specs.Patterns.{Patterns}
use Rattle.aho_prefilter.specs.Candidate.{IsCandidate, IsWholeMatch, NoneStartsBefore, NothingOccurs, place_of}
use Rattle.aho_prefilter.specs.declared.prefilter.Candidate.{Candidate}
use Rattle.aho_prefilter.proofs.Skips.{IsCandidate-place, IsCandidate-nothing, NoneStartsBefore-nothing, IsWholeMatch-sooner}
use Rattle.aho_automaton.specs.WalkEnds.{Carries, NoneLonger}
use Rattle.aho_automaton.proofs.Origins.{nothing_stands, skipped}
use Rattle.aho_automaton.proofs.Walks.{Standing}

-- nothing was found from the origin on, and the state is a start: the part from here on carries
pub Carries-skipped : (p : Patterns) (haystack : List ℕ) (start end origin at sid : ℕ) (kind : MatchKind) (lengths : List ℕ) (held : Anchored → List ℕ → ℕ → Type 0) (list : ℕ → List ℕ) (dead starts : ℕ → Bool)
    → Reads p kind lengths held list dead starts
    → start ≤ origin → origin ≤ at → at ≤ end → end ≤ length haystack
    → NoneStartsBefore p haystack start end origin
    → Standing p held No haystack origin at sid None → starts sid ≡ true
    → Carries p haystack start end at
Carries-skipped p haystack start end origin at sid kind lengths held list dead starts laws le lt in_span within none stands is_start place candidate =
    skipped p haystack start origin end le at place sid held lt in_span within none
    (λ v n. laws.start_apart (slice_range haystack origin at) v sid n stands.held_now is_start) candidate stands

-- the place of a candidate is the next origin
pub origin_of : (p : Patterns) (haystack : List ℕ) (start end at place : ℕ) (candidate : Candidate) → Carries p haystack start end at
    → IsCandidate p haystack at end candidate → place_of candidate ≡ Some place
    → (at ≤ place) × (place ≤ end) × NoneStartsBefore p haystack start end place
origin_of p haystack start end at place candidate carries is tells =
    let told = IsCandidate-place p haystack at end place candidate is tells in
    (told.0, told.1, carries place told.2)

-- no candidate, no answer
pub no_candidate : (p : Patterns) (haystack : List ℕ) (start end at : ℕ) (candidate : Candidate) → Carries p haystack start end at
    → IsCandidate p haystack at end candidate → place_of candidate ≡ None → NothingOccurs p haystack start end
no_candidate p haystack start end at candidate carries is tells =
    NoneStartsBefore-nothing p haystack start end (carries (end + 1) (λ m o. absurd (IsCandidate-nothing p haystack at end candidate is tells m o)))

-- a match is the answer
pub whole_of_span : (p : Patterns) (haystack : List ℕ) (start end at : ℕ) (m : Occurrence) → start ≤ at → Carries p haystack start end at
    → IsWholeMatch p haystack at end m → IsWholeMatch p haystack start end m
whole_of_span p haystack start end at m le carries is = IsWholeMatch-sooner p haystack start at end le m (carries m.start is.first) is

-- where a walk waits, the search goes on as if it began there
pub waits_there : (p : Patterns) (kind : MatchKind) (lengths : List ℕ) (held : Anchored → List ℕ → ℕ → Type 0) (list : ℕ → List ℕ) (dead starts : ℕ → Bool)
    → Reads p kind lengths held list dead starts → (anchored : Anchored) → anchored ≡ No
    → (haystack : List ℕ) (start at end sid : ℕ) → start ≤ at → at ≤ end → end ≤ length haystack
    → Standing p held anchored haystack start at sid None → starts sid ≡ true
    → Carries p haystack start end at
waits_there p kind lengths held list dead starts laws anchored unanchored haystack start at end sid lt in_span within stands is_start =
    Carries-skipped p haystack start end start at sid kind lengths held list dead starts laws (omega arith) lt in_span within (λ m o. o.after_start)
    (subst (λ (a : Anchored). Standing p held a haystack start at sid None) unanchored stands) is_start

-- where all that starts at the last candidate or before has ended with nothing found, the search goes on behind it
pub jumps_there : (p : Patterns) (held : Anchored → List ℕ → ℕ → Type 0) (anchored : Anchored) → anchored ≡ No
    → (haystack : List ℕ) (start at end sid reach last next : ℕ) → start ≤ at → at ≤ end → end ≤ length haystack
    → Standing p held anchored haystack start at sid None
    → NoneLonger p haystack start end reach → last + reach ≤ at → NoneStartsBefore p haystack (last + 1) end next
    → Carries p haystack start end next
jumps_there p held anchored unanchored haystack start at end sid reach last next lt in_span within stands longest ended behind place candidate n o =
    elim (cases_lt last n.start) [
      | inl later ↦
          let far : next ≤ n.start = behind n (record { numbered = o.numbered; after_start = omega arith; before_end = o.before_end; sized = o.sized; same = o.same; admitted = λ x. cc }) in
          candidate n (record { numbered = o.numbered; after_start = far; before_end = o.before_end; sized = o.sized; same = o.same; admitted = λ x. cc })
      | inr sooner ↦
          let high : n.end ≤ n.start + reach = longest n o in
          absurd
          (nothing_stands p haystack start at sid held lt (omega arith) (subst (λ (a : Anchored). Standing p held a haystack start at sid None) unanchored stands) n
          (record { numbered = o.numbered; after_start = o.after_start; before_end = omega arith; sized = o.sized; same = o.same; admitted = λ x. cc }))
    ]

-- what is not longer in a span is not longer in its later part
pub NoneLonger-later : (p : Patterns) (haystack : List ℕ) (start origin end reach : ℕ) → start ≤ origin → NoneLonger p haystack start end reach → NoneLonger p haystack origin end reach
NoneLonger-later p haystack start origin end reach le longest n o =
    longest n (record { numbered = o.numbered; after_start = omega (arith, o.after_start); before_end = o.before_end; sized = o.sized; same = o.same; admitted = λ x. cc })

-- from an origin on, and then from a later place
pub carried_on : (p : Patterns) (haystack : List ℕ) (start origin end at : ℕ) → start ≤ origin → NoneStartsBefore p haystack start end origin → Carries p haystack origin end at → Carries p haystack start end at
carried_on p haystack start origin end at le none carries place later n o =
    carries place later n (record { numbered = o.numbered; after_start = none n o; before_end = o.before_end; sized = o.sized; same = o.same; admitted = λ x. cc })

-- a match answers a search that does not ask for the earliest
pub whole_answers : (p : Patterns) (haystack : List ℕ) (start end at : ℕ) (earliest : Bool) (m : Occurrence) → earliest ≡ false → start ≤ at → Carries p haystack start end at
    → IsWholeMatch p haystack at end m → IsAnswer p (record { haystack = haystack; start = start; end = end; anchored = No; earliest = earliest }) (Some m)
whole_answers p haystack start end at true m not le carries is = cc
whole_answers p haystack start end at false m not le carries is = (whole_of_span p haystack start end at m le carries is).best
