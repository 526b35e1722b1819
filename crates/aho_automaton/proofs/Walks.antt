-- What a walk over a span knows at each place, and what a search answers from it.
use Rattle.std.proofs.Common.{◌≡◌, ◌≢◌, ℕ, ◌+◌, ◌-◌, ◌<◌, ◌≤◌, inl, inr, Bool, true, false, List, [], ◌∷◌, ◌++◌, length, get_or, refl, sym, ◌∙◌, ap, subst, arith}
use Rattle.std.specs.Prelude.{Option, Some, None, is_some, slice_range}
use Rattle.std.proofs.lemmas.Bool.{cases_lt}
use Rattle.aho_core.specs.declared.search.Anchored.{Anchored}
use Rattle.aho_core.specs.declared.search.Anchored.TheVariants.{No, Yes}
use Rattle.aho_core.specs.declared.search.MatchKind.{MatchKind}
use Rattle.aho_core.specs.declared.search.MatchKind.TheVariants.{Standard}
use Rattle.aho_core.specs.Answer.{IsAnswer}
use Rattle.aho_core.specs.Best.{IsBestOrNone}
use Rattle.aho_core.specs.Laws.{BestAfter, Fits, Reads, better, first_is_answer, longest, told}
use Rattle.aho_core.specs.Occurrence.{Occurrence}
use Rattle.aho_core.specs.Occurs.{Occurs}
use Rattle.aho_core.specs.Order.{IsBefore}
use Rattle.aho_core.specs.Patterns.{Patterns}
use Rattle.aho_automaton.proofs.Places.{moved, moved_option, widened, narrowed, best_in_whole, length_part, part_more, part_join, no_part}
use Rattle.aho_automaton.proofs.Told.{moved-told, moved-better, better-none, better-first, better-last, why_it_stops, earliest_stops}

-- where a search stands after the bytes from `start` to `at`: its state is held after them, and the best so far is theirs.
-- The laws speak of whole words, so `part` is the best of these bytes as a word of their own
pub record Standing (p : Patterns) (held : Anchored → List ℕ → ℕ → Type 0) (anchored : Anchored) (haystack : List ℕ) (start at sid : ℕ) (best : Option Occurrence) : Type 0 where
  pub held_now : held anchored (slice_range haystack start at) sid
  pub part : Option Occurrence
  pub is : moved_option start part ≡ best
  pub part_best : BestAfter p anchored (slice_range haystack start at) part

-- whatever occurs ends at the start or later
pub not_before : (p : Patterns) (anchored : Anchored) (haystack : List ℕ) (start : ℕ) → (front : ℕ) (n : Occurrence) → Occurs p anchored haystack start front n → start ≤ front
not_before p anchored haystack start front n o = omega (arith, o.after_start, o.sized, o.before_end)

module _ {p : Patterns} {kind : MatchKind} {lengths : List ℕ} {held : Anchored → List ℕ → ℕ → Type 0} {list : ℕ → List ℕ} {dead starts : ℕ → Bool} (laws : Reads p kind lengths held list dead starts) (anchored : Anchored) (haystack : List ℕ) (start : ℕ) where
  -- the best so far, after these bytes in this state
  abbrev Stands : ℕ → ℕ → Option Occurrence → Type 0
  Stands at sid best = Standing p held anchored haystack start at sid best

  -- the state is held after the bytes before a place and the byte there
  abbrev HeldNext : ℕ → ℕ → Type 0
  HeldNext at next = held anchored (slice_range haystack start at ++ get_or haystack at 0 ∷ []) next

  -- what the state tells at a place
  abbrev told_here : ℕ → ℕ → Option Occurrence
  told_here at sid = told lengths anchored start at (list sid)

  -- what the search answers
  abbrev Answers : Bool → ℕ → Option Occurrence → Type 0
  Answers earliest end best = IsAnswer p (record { haystack = haystack; start = start; end = end; anchored = anchored; earliest = earliest }) best

  -- before the first byte
  pub stands_at_start : (sid : ℕ) (best : Option Occurrence) → held anchored [] sid → best ≡ told_here start sid → Stands start sid best
  stands_at_start sid best is_held e = record {
    held_now = subst (λ (w : List ℕ). held anchored w sid) (sym (no_part haystack start)) is_held;
    part = told lengths anchored 0 0 (list sid);
    is = moved-told lengths (list sid) anchored start 0 start (omega arith) (laws.listed anchored [] sid is_held) ∙ sym e;
    part_best = subst (λ (w : List ℕ). BestAfter p anchored w (told lengths anchored 0 0 (list sid))) (sym (no_part haystack start)) (laws.at_start anchored sid is_held);
  }

  -- one byte further
  pub held_further : (at sid : ℕ) → start ≤ at → at < length haystack → HeldNext at sid → held anchored (slice_range haystack start (at + 1)) sid
  held_further at sid le lt is_held = subst (λ (w : List ℕ). held anchored w sid) (sym (part_more haystack start at le lt)) is_held

  -- what a state lists is no longer than what was read
  pub fits_here : (at sid : ℕ) → at ≤ length haystack → held anchored (slice_range haystack start at) sid → Fits lengths (at - start) (list sid)
  fits_here at sid within is_held = subst (λ (n : ℕ). Fits lengths n (list sid)) (length_part haystack start at within) (laws.listed anchored _ sid is_held)

  -- with what the next state tells
  pub stands_further : (at sid next : ℕ) (best now : Option Occurrence) → start ≤ at → at < length haystack → HeldNext at next → now ≡ told_here (at + 1) next → Stands at sid best → Stands (at + 1) next (better kind best now)
  stands_further at sid next best now le lt is_held e s =
      let long : length (slice_range haystack start at) + 1 ≡ at + 1 - start = omega (arith, length_part haystack start at (omega arith)) in
      let told_part = told lengths anchored 0 (at + 1 - start) (list next) in
      let further = held_further at next le lt is_held in
      record {
        held_now = further;
        part = better kind s.part told_part;
        is =
            moved-better kind start s.part told_part
            ∙ ap (λ (x : Option Occurrence). better kind x (moved_option start told_part)) s.is
            ∙ ap (better kind best) (moved-told lengths (list next) anchored start (at + 1 - start) (at + 1) (omega arith) (fits_here (at + 1) next (omega arith) further) ∙ sym e);
        part_best =
            subst (λ (n : ℕ). BestAfter p anchored (slice_range haystack start (at + 1)) (better kind s.part (told lengths anchored 0 n (list next)))) long
            (subst (λ (w : List ℕ). BestAfter p anchored w (better kind s.part (told lengths anchored 0 (length (slice_range haystack start at) + 1) (list next)))) (sym (part_more haystack start at le lt))
            (laws.after_byte anchored (slice_range haystack start at) (get_or haystack at 0) next s.part is_held s.part_best));
      }

  -- a state that tells nothing leaves the best
  pub stands_silent : (at sid next : ℕ) (best best' : Option Occurrence) → start ≤ at → at < length haystack → HeldNext at next → None ≡ told_here (at + 1) next → Stands at sid best → best' ≡ best → Stands (at + 1) next best'
  stands_silent at sid next best best' le lt is_held e s same = subst (Stands (at + 1) next) (better-none kind best ∙ sym same) (stands_further at sid next best None le lt is_held e s)

  -- and so does one that lists nothing
  pub stands_unlisted : (at sid next : ℕ) (best best' : Option Occurrence) → start ≤ at → at < length haystack → HeldNext at next → list next ≡ [] → Stands at sid best → best' ≡ best → Stands (at + 1) next best'
  stands_unlisted at sid next best best' le lt is_held e s same = stands_silent at sid next best best' le lt is_held (sym (ap (told lengths anchored start (at + 1)) e)) s same

  -- the first match told is the best
  pub stands_first : (at sid next : ℕ) (best now : Option Occurrence) → start ≤ at → at < length haystack → HeldNext at next → now ≡ told_here (at + 1) next → best ≡ None → Stands at sid best → Stands (at + 1) next now
  stands_first at sid next best now le lt is_held e none s =
      subst (Stands (at + 1) next) (ap (λ (x : Option Occurrence). better kind x now) none ∙ better-first kind now) (stands_further at sid next best now le lt is_held e s)

  -- a search that goes on takes each match told
  pub stands_last : (earliest : Bool) (at sid next : ℕ) (best best' : Option Occurrence) (m : Occurrence) → first_is_answer kind earliest ≡ false → start ≤ at → at < length haystack → HeldNext at next → Some m ≡ told_here (at + 1) next → Stands at sid best → best' ≡ Some m → Stands (at + 1) next best'
  stands_last earliest at sid next best best' m goes_on le lt is_held e s same =
      subst (Stands (at + 1) next) (better-last kind earliest best m goes_on ∙ sym same) (stands_further at sid next best (Some m) le lt is_held e s)

  -- the best so far is the best of the span up to there
  pub standing_best : (at sid : ℕ) (best : Option Occurrence) → start ≤ at → at ≤ length haystack → Stands at sid best → IsBestOrNone p.kind (Occurs p anchored haystack start at) best
  standing_best at sid best le within s = subst (IsBestOrNone p.kind (Occurs p anchored haystack start at)) s.is (best_in_whole p anchored haystack start at s.part le within s.part_best)

  -- nothing so far, so whatever occurs ends later
  pub later : (at sid : ℕ) (best : Option Occurrence) → start ≤ at → at ≤ length haystack → best ≡ None → Stands at sid best → (front : ℕ) (n : Occurrence) → Occurs p anchored haystack start front n → at + 1 ≤ front
  later at sid best le within none s front n o =
      elim (cases_lt at front) [
        | inl lt ↦ omega arith
        | inr ge ↦ absurd (standing_best at sid None le within (subst (Stands at sid) none s) n (widened p anchored haystack start front at n ge o))
      ]

  -- the best of the span is the answer of a search that found nothing, or goes on past its first match
  best_answers : (earliest : Bool) (end : ℕ) (best : Option Occurrence) → (first_is_answer kind earliest ≡ true → best ≡ None) → IsBestOrNone p.kind (Occurs p anchored haystack start end) best → Answers earliest end best
  best_answers false end best quiet is_best = is_best
  best_answers true end None quiet is_best = is_best
  best_answers true end (Some m) quiet is_best = let e = quiet (earliest_stops kind) in cc

  -- at the end of the span
  pub answer_at_end : (earliest : Bool) (end at sid : ℕ) (best : Option Occurrence) → at ≡ end → (first_is_answer kind earliest ≡ true → best ≡ None) → start ≤ at → end ≤ length haystack → Stands at sid best → Answers earliest end best
  answer_at_end earliest end at sid best is_end quiet le within s =
      best_answers earliest end best quiet (subst (λ (x : ℕ). IsBestOrNone p.kind (Occurs p anchored haystack start x) best) is_end (standing_best at sid best le (omega arith) s))

  -- at a dead state
  pub answer_when_dead : (earliest : Bool) (at end sid next : ℕ) (best : Option Occurrence) → (first_is_answer kind earliest ≡ true → best ≡ None) → dead next ≡ true → start ≤ at → at < end → end ≤ length haystack → HeldNext at next → Stands at sid best → Answers earliest end best
  answer_when_dead earliest at end sid next best quiet is_dead le lt within is_held before =
      let s : Stands (at + 1) next best = stands_unlisted at sid next best best le (omega arith) is_held (laws.dead_lists_none next is_dead) before refl in
      let kept : BestAfter p anchored (slice_range haystack start end) s.part =
      subst (λ (w : List ℕ). BestAfter p anchored w s.part) (sym (part_join haystack start (at + 1) end (omega arith) (omega arith)))
      (laws.dead_keeps anchored (slice_range haystack start (at + 1)) (slice_range haystack (at + 1) end) next s.part s.held_now is_dead s.part_best) in
      best_answers earliest end best quiet (subst (IsBestOrNone p.kind (Occurs p anchored haystack start end)) s.is (best_in_whole p anchored haystack start end s.part (omega arith) within kept))

  -- at the first match of a search that stops there
  pub answer_found : (earliest : Bool) (at end sid : ℕ) (best : Option Occurrence) → first_is_answer kind earliest ≡ true → is_some best ≡ true → start ≤ at → at ≤ end → at ≤ length haystack
      → ((front : ℕ) (n : Occurrence) → Occurs p anchored haystack start front n → at ≤ front) → Stands at sid best → Answers earliest end best
  answer_found earliest at end sid None stops some le lt within least s = cc
  answer_found true at end sid (Some m) stops some le lt within least s =
      let is_best = standing_best at sid (Some m) le within s in
      (at, record { within = lt; some = (m, is_best.0); least = least }, is_best)
  answer_found false at end sid (Some m) stops some le lt within least s =
      let is_best = standing_best at sid (Some m) le within s in
      let standard : Standard ≡ p.kind = elim (why_it_stops kind false stops) [ inl e ↦ cc | inr e ↦ sym e ∙ laws.kind_is ] in (
        widened p anchored haystack start at end m lt is_best.0,
        λ n o. elim (cases_lt at n.end) [
          | inl past ↦ inr (subst (λ (k : MatchKind). IsBefore k m n) standard (inl (omega (arith, is_best.0.before_end))))
          | inr ge ↦ is_best.1 n (narrowed p anchored haystack start at end n ge o)
        ],
      )

  -- a match told before the first byte starts there
  pub near_at_start : (sid : ℕ) (best : Option Occurrence) (m : Occurrence) → start ≤ length haystack → Stands start sid best → best ≡ Some m → start ≤ m.start + longest lengths
  near_at_start sid None m within s e = cc
  near_at_start sid (Some n) m within s e = let same : n ≡ m = cc in omega (arith, (standing_best start sid (Some n) (omega arith) within s).0.after_start, ap (λ (x : Occurrence). x.start) same)

  near_of_part : (at sid : ℕ) (part : Option Occurrence) (m : Occurrence) → kind ≢ Standard → at ≤ length haystack → dead sid ≡ false → held No (slice_range haystack start at) sid → BestAfter p No (slice_range haystack start at) part → moved_option start part ≡ Some m → at ≤ m.start + longest lengths
  near_of_part at sid None m leftmost within alive is_held part_best is = cc
  near_of_part at sid (Some q) m leftmost within alive is_held part_best is =
      let same : moved start q ≡ m = cc in
      omega (arith, laws.near (slice_range haystack start at) sid q leftmost is_held alive part_best, length_part haystack start at within, ap (λ (x : Occurrence). x.start) same)

  -- until the state is dead, a leftmost match's start is near
  pub near_further : (at sid : ℕ) (best : Option Occurrence) (m : Occurrence) → anchored ≡ No → kind ≢ Standard → at ≤ length haystack → dead sid ≡ false → Stands at sid best → best ≡ Some m → at ≤ m.start + longest lengths
  near_further at sid best m unanchored leftmost within alive s e =
      near_of_part at sid s.part m leftmost within alive (subst (λ (x : Anchored). held x (slice_range haystack start at) sid) unanchored s.held_now)
      (subst (λ (x : Anchored). BestAfter p x (slice_range haystack start at) s.part) unanchored s.part_best) (s.is ∙ e)

  -- until the state is dead, an anchored search has read no more than the longest pattern
  pub anchored_near_further : (at sid : ℕ) (best : Option Occurrence) → anchored ≡ Yes → start ≤ at → at ≤ length haystack → dead sid ≡ false → Stands at sid best → at ≤ start + longest lengths
  anchored_near_further at sid best is_anchored le within alive s =
      let is_held : held Yes (slice_range haystack start at) sid = subst (λ (x : Anchored). held x (slice_range haystack start at) sid) is_anchored s.held_now in
      omega (arith, laws.anchored_near (slice_range haystack start at) sid is_held alive, length_part haystack start at within)
