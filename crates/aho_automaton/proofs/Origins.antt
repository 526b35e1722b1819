-- A search that begins later, at an origin, since nothing starts before it: its answer is the answer of the whole span.
use Rattle.std.proofs.Common.{◌≡◌, ℕ, ◌-◌, ◌<◌, ◌≤◌, inl, inr, Bool, true, false, List, ◌++◌, length, sym, ◌∙◌, ap, subst, arith}
use Rattle.std.specs.Prelude.{Option, Some, None, slice_range}
use Rattle.std.proofs.lemmas.Bool.{cases_lt}
use Rattle.aho_core.specs.declared.search.Anchored.{Anchored}
use Rattle.aho_core.specs.declared.search.Anchored.TheVariants.{No}
use Rattle.aho_core.specs.Answer.{IsAnswer}
use Rattle.aho_core.specs.Best.{IsBestOrNone}
use Rattle.aho_core.specs.Occurrence.{Occurrence}
use Rattle.aho_core.specs.Occurs.{Occurs}
use Rattle.aho_core.specs.Patterns.{Patterns}
use Rattle.aho_automaton.proofs.Places.{best_in_whole, into_part, length_part, moved_back, part_join, widened}
use Rattle.aho_automaton.proofs.Walks.{Standing}

-- where nothing was found, nothing occurs
pub nothing_stands : (p : Patterns) (haystack : List ℕ) (origin at sid : ℕ) (held : Anchored → List ℕ → ℕ → Type 0) → origin ≤ at → at ≤ length haystack
    → Standing p held No haystack origin at sid None → (n : Occurrence) → Occurs p No haystack origin at n → ⊥
nothing_stands p haystack origin at sid held lt within stands = subst (IsBestOrNone p.kind (Occurs p No haystack origin at)) stands.is (best_in_whole p No haystack origin at stands.part lt within stands.part_best)

module _ (p : Patterns) (haystack : List ℕ) (start origin end : ℕ) (le : start ≤ origin) where
  -- what occurs from the origin on occurs from the start on
  occurs_sooner : (front : ℕ) (n : Occurrence) → Occurs p No haystack origin front n → Occurs p No haystack start front n
  occurs_sooner front n o = record { numbered = o.numbered; after_start = omega (arith, o.after_start); before_end = o.before_end; sized = o.sized; same = o.same; admitted = λ x. cc }

  -- and the other way round where it starts there
  occurs_later : (front : ℕ) (n : Occurrence) → origin ≤ n.start → Occurs p No haystack start front n → Occurs p No haystack origin front n
  occurs_later front n lt o = record { numbered = o.numbered; after_start = lt; before_end = o.before_end; sized = o.sized; same = o.same; admitted = λ x. cc }

  -- nothing of the span starts before this place
  abbrev NoneBefore : ℕ → Type 0
  NoneBefore place = (n : Occurrence) → Occurs p No haystack start end n → place ≤ n.start

  -- what occurs up to a place of the span occurs from the origin on
  from_origin : (front : ℕ) (n : Occurrence) → front ≤ end → NoneBefore origin → Occurs p No haystack start front n → Occurs p No haystack origin front n
  from_origin front n within none o = occurs_later front n (none n (widened p No haystack start front end n within o)) o

  best_sooner : (front : ℕ) (best : Option Occurrence) → front ≤ end → NoneBefore origin → IsBestOrNone p.kind (Occurs p No haystack origin front) best → IsBestOrNone p.kind (Occurs p No haystack start front) best
  best_sooner front None within none is_best = λ n o. is_best n (from_origin front n within none o)
  best_sooner front (Some m) within none is_best = (occurs_sooner front m is_best.0, λ n o. is_best.1 n (from_origin front n within none o))

  -- nothing starts before the origin, so the answer from there is the answer
  pub answer_from_origin : (earliest : Bool) (answer : Option Occurrence) → NoneBefore origin
      → IsAnswer p (record { haystack = haystack; start = origin; end = end; anchored = No; earliest = earliest }) answer
      → IsAnswer p (record { haystack = haystack; start = start; end = end; anchored = No; earliest = earliest }) answer
  answer_from_origin false answer none is_answer = best_sooner end answer (omega arith) none is_answer
  answer_from_origin true None none is_answer = λ n o. is_answer n (from_origin end n (omega arith) none o)
  answer_from_origin true (Some m) none is_answer = (
    is_answer.0,
    record {
      within = is_answer.1.within;
      some = (is_answer.1.some.0, occurs_sooner is_answer.0 is_answer.1.some.0 is_answer.1.some.1);
      -- a front past the span's end isn't asked for
      least = λ front n o. elim (cases_lt end front) [ inl past ↦ omega (arith, is_answer.1.within) | inr within ↦ is_answer.1.least front n (from_origin front n within none o) ];
    },
    best_sooner is_answer.0 (Some m) is_answer.1.within none is_answer.2,
  )

  -- what the laws say of a start held at a place: what ends past it in a longer word starts there or later
  abbrev Apart : ℕ → Type 0
  Apart at = (v : List ℕ) (n : Occurrence) → Occurs p No (slice_range haystack origin at ++ v) 0 (length (slice_range haystack origin at ++ v)) n → length (slice_range haystack origin at) < n.end → length (slice_range haystack origin at) ≤ n.start

  -- the same of the part from the origin on
  pub starts_past : (at : ℕ) → origin ≤ at → at ≤ end → end ≤ length haystack → Apart at
      → (n : Occurrence) → Occurs p No haystack origin end n → at < n.end → at ≤ n.start
  starts_past at lt in_span within apart n here past =
      let front : List ℕ = slice_range haystack origin at in
      let rest : List ℕ = slice_range haystack at end in
      let joined : slice_range haystack origin end ≡ front ++ rest = part_join haystack origin at end lt in_span in
      let whole : length (front ++ rest) ≡ end - origin = sym (ap length joined) ∙ length_part haystack origin end within in
      let apart_here = apart rest (moved_back origin n)
      (subst (λ (x : ℕ). Occurs p No (front ++ rest) 0 x (moved_back origin n)) (sym whole)
      (subst (λ (w : List ℕ). Occurs p No w 0 (end - origin) (moved_back origin n)) joined (into_part p No haystack origin end n here)))
      (omega (arith, here.after_start, length_part haystack origin at (omega arith))) in
      omega (arith, here.after_start, apart_here, length_part haystack origin at (omega arith))

  -- where nothing was found and the state is a start, nothing starts before the next candidate either
  pub skipped : (at next sid : ℕ) (held : Anchored → List ℕ → ℕ → Type 0) → origin ≤ at → at ≤ end → end ≤ length haystack
      → NoneBefore origin → Apart at
      → ((n : Occurrence) → Occurs p No haystack at end n → next ≤ n.start)
      → Standing p held No haystack origin at sid None
      → NoneBefore next
  skipped at next sid held lt in_span within none apart candidate stands n o =
      let late : origin ≤ n.start = none n o in
      elim (cases_lt at n.end) [
        | inl past ↦ candidate n (record { numbered = o.numbered; after_start = starts_past at lt in_span within apart n (occurs_later end n late o) past; before_end = o.before_end; sized = o.sized; same = o.same; admitted = λ x. cc })
        | inr ge ↦ absurd (nothing_stands p haystack origin at sid held lt (omega arith) stands n (record { numbered = o.numbered; after_start = late; before_end = ge; sized = o.sized; same = o.same; admitted = λ x. cc }))
      ]
