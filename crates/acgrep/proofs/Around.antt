-- The line around a place, and patterns that hold no newline.
use Rattle.acgrep.proofs.Common.{IsAnswer, IsBefore, MatchKind, Nowhere, Occurrence, OccursIn, Patterns, cases_lt, common_steps, eqb-true, get_or, length-drop, length-take-le, pattern_at, plain_search}
use Rattle.std.proofs.Common.{◌+◌, ◌-◌, ◌<◌, ◌==◌, ◌∙◌, ◌≡◌, ◌≤◌, ◌⊎◌, List, Some, ap, arith, drop, inl, inr, length, subst, sym, take, true, ℕ}
use Rattle.std.proofs.Math.ListN.{get_or-map}
use Rattle.std.proofs.lemmas.List.{get_or-drop, get_or-take}
use Rattle.std.specs.Prelude.{slice_index}
use Rattle.aho_core.specs.Bytes.{folded}
use Rattle.aho_core.specs.declared.search.Span.{Span}
use Rattle.acgrep.specs.Lines.{IsEnding}
use Rattle.acgrep.specs.Selected.{HoldNoEnding, IsFirstWith, IsLine}

-- of the others none ends before the best begins
best_first : (kind : MatchKind) (m other : Occurrence) → m.start ≤ m.end → other.start ≤ other.end → (other ≡ m) ⊎ IsBefore kind m other → m.start ≤ other.end
best_first kind m other ordered turned is = grind (arith, common_steps)

module _ (ending : ℕ) where
  -- a newline of the front is one of the text
  pub newline_front : (text : List ℕ) (at place : ℕ) → place < at → IsEnding ending (take at text) place → IsEnding ending text place
  newline_front text at place low is = subst (λ b. (b == ending) ≡ true) (get_or-take at text place 0 low) is

  pub front_newline : (text : List ℕ) (at place : ℕ) → place < at → IsEnding ending text place → IsEnding ending (take at text) place
  front_newline text at place low is = subst (λ b. (b == ending) ≡ true) (sym (get_or-take at text place 0 low)) is

  -- one of what follows a place is one of the text
  pub newline_behind : (text : List ℕ) (at place : ℕ) → IsEnding ending (drop at text) place → IsEnding ending text (at + place)
  newline_behind text at place is = subst (λ b. (b == ending) ≡ true) (get_or-drop at text place 0) is

  pub behind_newline : (text : List ℕ) (at place : ℕ) → IsEnding ending text (at + place) → IsEnding ending (drop at text) place
  behind_newline text at place is = subst (λ b. (b == ending) ≡ true) (sym (get_or-drop at text place 0)) is

  -- none at the end of the front and none at the begin of the rest
  pub none_around : (text : List ℕ) (at start len : ℕ) → at ≤ length text → Nowhere (IsEnding ending (take at text)) start (length (take at text)) → Nowhere (IsEnding ending (drop at text)) 0 len
      → Nowhere (IsEnding ending text) start (at + len)
  none_around text at start len within front rest k low high is =
      elim (cases_lt k at) [
        | inl before ↦ front k low (subst (λ n. k < n) (sym (length-take-le at text within)) before) (front_newline text at k before is)
        | inr behind ↦
            rest (k - at) (omega arith) (omega (arith, high, behind)) (behind_newline text at (k - at) (subst (IsEnding ending text) (sym (omega (arith, behind))) is))
      ]

  module _ (p : Patterns) (plain : HoldNoEnding ending p) where
    -- what begins before a newline, or at it, ends there or before
    pub ends_before : (text : List ℕ) (end : ℕ) (m : Occurrence) → OccursIn p (plain_search text) m → m.start ≤ end → (end < length text → IsEnding ending text end) → m.end ≤ end
    ends_before text end m occurs low newline =
        elim (cases_lt end m.end) [
          | inr before ↦ before
          | inl behind ↦
              let k = end - m.start in
              let f = folded p in
              let pattern = pattern_at p m.pattern in
              let part = take (m.end - m.start) (drop m.start text) in
              let here : slice_index text end ≡ ending = eqb-true (slice_index text end) ending (newline (omega (arith, behind, occurs.before_end))) in
              let at : m.start + k ≡ end = omega (arith, low) in
              let read : slice_index part k ≡ ending = get_or-take (m.end - m.start) (drop m.start text) k 0 (omega (arith, low, behind)) ∙ get_or-drop m.start text k 0 ∙ ap (λ n. slice_index text n) at ∙ here in
              let same : f (slice_index pattern k) ≡ f (slice_index part k) = sym (get_or-map f pattern k 0) ∙ ap (λ l. get_or l k (f 0)) occurs.same ∙ get_or-map f part k 0 in
              absurd (plain m.pattern k occurs.numbered (omega (arith, occurs.sized, low, behind)) (same ∙ ap f read))
        ]

  -- the line around the answer of a search is the first in which something occurs
  pub first_around : (p : Patterns) (text : List ℕ) (m : Occurrence) (line : Span) → HoldNoEnding ending p → IsAnswer p (plain_search text) (Some m) → IsLine ending text line → line.start ≤ m.start → m.start ≤ line.end → IsFirstWith p ending text line
  first_around p text m line plain best is_line before behind =
      let occurs : OccursIn p (plain_search text) m = best.0 in
      record {
        is_line = is_line;
        some = (m, record { numbered = occurs.numbered; after_start = before; before_end = ends_before p plain text line.end m occurs behind is_line.ends; sized = occurs.sized; same = occurs.same; admitted = λ e. cc });
        first = λ other there. omega (arith, before, best_first p.kind m other (omega (arith, occurs.sized)) (omega (arith, there.sized)) (best.1 other there));
      }

  -- the last line of the front and the first of the rest are one line
  pub line_of_parts : (text part : List ℕ) (place start len : ℕ) → place ≤ length text → part ≡ drop place text
      → start ≤ length (take place text) → Nowhere (IsEnding ending (take place text)) start (length (take place text)) → (0 < start → IsEnding ending (take place text) (start - 1))
      → len ≤ length part → Nowhere (IsEnding ending part) 0 len → (len < length part → IsEnding ending part len)
      → IsLine ending text (record { start = start; end = place + len })
  line_of_parts text part place start len within same low front begins high rest ends =
      let front_long : length (take place text) ≡ place = length-take-le place text within in
      let rest_long : length part + place ≡ length text = omega (arith, ap length same, length-drop place text, within) in
      record {
        ordered = omega (arith, low, front_long);
        within = omega (arith, high, rest_long);
        begins = λ some. newline_front text place (start - 1) (omega (arith, low, front_long, some)) (begins some);
        ends = λ more. newline_behind text place len (subst (λ l. IsEnding ending l len) same (ends (omega (arith, more, rest_long))));
        one = none_around text place start len within front (subst (λ l. Nowhere (IsEnding ending l) 0 len) same rest);
      }
