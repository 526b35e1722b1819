-- The longest match that begins first tells which pattern is the whole line.
use Rattle.acgrep.proofs.Common.{IsAnswer, IsBefore, LeftmostLongest, MatchKind, Occurrence, OccursIn, Patterns, and_from, and_parts, cases_Bool, eq-eqb, plain_search, true≢false}
use Rattle.std.proofs.Common.{◌==◌, ◌∙◌, ◌≡◌, List, None, Some, ap, arith, eqb-true, inl, inr, length, subst, sym, ℕ}
use Rattle.std.specs.Prelude.{◌&&◌, ◌⊎◌, Bool, if◌then◌else◌}
use Rattle.acgrep.specs.Alone.{IsWholeLine, IsWholeOrNone, whole_match}

module _ (p : Patterns) (line : List ℕ) (m : Occurrence) (kind : p.kind ≡ LeftmostLongest) (best : IsAnswer p (plain_search line) (Some m)) where
  -- what is the whole line begins where the best begins, and ends where it ends
  same_span : (whole : Occurrence) → IsWholeLine p line whole → (m.start ≡ 0) × (m.end ≡ length line)
  same_span whole is =
      let here : OccursIn p (plain_search line) m = best.0 in
      elim (best.1 whole is.occurs) [
        | inl same ↦ (sym (ap (λ (o : Occurrence). o.start) same) ∙ is.begins, sym (ap (λ (o : Occurrence). o.end) same) ∙ is.ends)
        | inr before ↦
            let order : IsBefore LeftmostLongest m whole = subst (λ (k : MatchKind). IsBefore k m whole) kind before in
            elim order [
              | inl less ↦ absurd (omega (arith, less, is.begins))
              | inr (begin, inl longer) ↦ absurd (omega (arith, longer, is.ends, here.before_end))
              | inr (begin, inr (ends, number)) ↦ (begin ∙ is.begins, ends ∙ is.ends)
            ]
      ]

  -- so it is that, or there is none
  pub best_whole : IsWholeOrNone p line (whole_match (length line) m)
  best_whole =
      elim (cases_Bool ((m.start == 0) && (m.end == length line))) [
        | inl is ↦
            let both = and_parts (m.start == 0) (m.end == length line) is in
            subst (λ (b : Bool). IsWholeOrNone p line (if b then Some m else None)) (sym is) (
              record { occurs = best.0; begins = eqb-true m.start 0 both.0; ends = eqb-true m.end (length line) both.1 },
              λ other whole. subst (λ (k : MatchKind). (other ≡ m) ⊎ IsBefore k m other) kind (best.1 other whole.occurs),
            )
        | inr not ↦
            subst (λ (b : Bool). IsWholeOrNone p line (if b then Some m else None)) (sym not) (λ whole is.
            let (begin, ends) = same_span whole is in
            true≢false (sym (and_from (m.start == 0) (m.end == length line) (eq-eqb m.start 0 begin) (eq-eqb m.end (length line) ends)) ∙ not))
      ]
