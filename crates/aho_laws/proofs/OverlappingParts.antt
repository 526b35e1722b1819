-- The list of all occurrences of a span, from those of two parts that overlap.
use Rattle.std.proofs.Common.{◌≡◌, inl, inr, ℕ, zero, suc, ◌-◌, ◌≤◌, ◌<◌, List, [], ◌∷◌, ◌++◌, length, map, refl, sym, ◌∙◌, subst, arith}
use Rattle.std.specs.Prelude.{nat_lt, slice_index_or}
use Rattle.std.proofs.Math.Nat.{le-max_left, le-max_right}
use Rattle.std.proofs.lemmas.Bool.{cases_lt, lt-ltb, ltb-true}
use Rattle.aho_core.specs.declared.search.Anchored.TheVariants.{No}
use Rattle.aho_core.specs.declared.search.MatchKind.TheVariants.{Standard}
use Rattle.aho_core.specs.Laws.{longest}
use Rattle.aho_core.specs.Listing.{IsListedBy, IsMember}
use Rattle.aho_core.specs.Occurrence.{Occurrence}
use Rattle.aho_core.specs.Occurs.{Occurs}
use Rattle.aho_core.specs.Order.{IsBefore}
use Rattle.aho_core.specs.Overlapping.{all_occurrences}
use Rattle.aho_core.specs.Patterns.{Patterns}
use Rattle.aho_laws.specs.CutLaws.{ending_behind, overlap_start}
use Rattle.aho_laws.proofs.ClearCuts.{Occurs-in}
use Rattle.aho_laws.proofs.Listed.{listed-append, member-left, member-of_append, member-right}
use Rattle.aho_laws.proofs.Listings.{all_occurrences-has, all_occurrences-listed, all_occurrences-only}
use Rattle.aho_laws.proofs.Members.{listed-filter, member-filter, member-of_filter}
use Rattle.aho_laws.proofs.Orders.{IsBefore-irreflexive, IsBefore-trans}

-- two lists in one strict order that have the same members are one list
pub listed-same : {X : Type 0} (Before : X → X → Type 0) (xs ys : List X) → ((x : X) → Before x x → ⊥) → ((x y z : X) → Before x y → Before y z → Before x z)
    → IsListedBy Before xs → IsListedBy Before ys → ((x : X) → IsMember xs x → IsMember ys x) → ((x : X) → IsMember ys x → IsMember xs x) → xs ≡ ys
listed-same Before [] [] never trans p q forth back = refl
listed-same Before [] (y ∷ ys) never trans p q forth back = absurd (back y (inl refl))
listed-same Before (x ∷ xs) [] never trans p q forth back = absurd (forth x (inl refl))
listed-same {X} Before (x ∷ xs) (y ∷ ys) never trans p q forth back =
    let first : x ≡ y =
    elim (forth x (inl refl)) [
      | inl e ↦ e
      | inr in_ys ↦ elim (back y (inl refl)) [ inl e ↦ sym e | inr in_xs ↦ absurd (never x (trans x y x (p.0 y in_xs) (q.0 x in_ys))) ]
    ] in
    let rest : xs ≡ ys =
    listed-same Before xs ys never trans p.1 q.1
    (λ z in_xs. elim (forth z (inr in_xs)) [ inl e ↦ absurd (never x (subst (Before x) (e ∙ sym first) (p.0 z in_xs))) | inr in_ys ↦ in_ys ])
    (λ z in_ys. elim (back z (inr in_ys)) [ inl e ↦ absurd (never y (subst (Before y) (e ∙ first) (q.0 z in_ys))) | inr in_xs ↦ in_xs ]) in
    cc

-- no pattern is longer than the longest
pub longest-least : (words : List (List ℕ)) (number : ℕ) → number < length words → length (slice_index_or words number []) ≤ longest (map length words)
longest-least [] number lt = absurd (omega arith)
longest-least (word ∷ words) zero lt = le-max_left (length word) (longest (map length words))
longest-least (word ∷ words) (suc number) lt = omega (arith, longest-least words number (omega arith), le-max_right (length word) (longest (map length words)))

module _ (p : Patterns) (haystack : List ℕ) (start cut end : ℕ) where
  abbrev before_cut : List Occurrence
  before_cut = all_occurrences p haystack start cut

  abbrev overlapping_part : List Occurrence
  overlapping_part = all_occurrences p haystack (overlap_start p start cut) end

  -- what ends behind the cut occurs in the part that begins earlier
  starts_in_overlap : (m : Occurrence) → cut < m.end → Occurs p No haystack start end m → overlap_start p start cut ≤ m.start
  starts_in_overlap m behind occurs = omega (arith, occurs.after_start, occurs.sized, longest-least p.words m.pattern occurs.numbered)

  behind-only : (m : Occurrence) → end ≤ length haystack → IsMember (ending_behind cut overlapping_part) m → (cut < m.end) × Occurs p No haystack start end m
  behind-only m within h =
      let kept = member-of_filter (λ (o : Occurrence). nat_lt cut o.end) overlapping_part m h in
      let here = all_occurrences-only p haystack (overlap_start p start cut) end m within kept.1 in
      let low = le-max_left start (cut - (longest (map length p.words) - 1)) in
      (ltb-true cut m.end kept.0, Occurs-in p haystack (overlap_start p start cut) end start end m (omega (arith, low, here.after_start)) here.before_end here)

  parts-only : (m : Occurrence) → cut ≤ end → end ≤ length haystack → IsMember (before_cut ++ ending_behind cut overlapping_part) m → Occurs p No haystack start end m
  parts-only m le within h =
      elim (member-of_append before_cut (ending_behind cut overlapping_part) m h) [
        | inl left ↦
            (let here = all_occurrences-only p haystack start cut m (omega arith) left in
            Occurs-in p haystack start cut start end m here.after_start (omega (arith, here.before_end)) here)
        | inr right ↦ (behind-only m within right).1
      ]

  parts-has : (m : Occurrence) → Occurs p No haystack start end m → IsMember (before_cut ++ ending_behind cut overlapping_part) m
  parts-has m occurs =
      elim (cases_lt cut m.end) [
        | inl behind ↦
            member-right before_cut (ending_behind cut overlapping_part) m
            (member-filter (λ (o : Occurrence). nat_lt cut o.end) overlapping_part m (lt-ltb cut m.end behind)
            (all_occurrences-has p haystack (overlap_start p start cut) end m
            (Occurs-in p haystack start end (overlap_start p start cut) end m (starts_in_overlap m behind occurs) occurs.before_end occurs)))
        | inr upto ↦
            member-left before_cut (ending_behind cut overlapping_part) m
            (all_occurrences-has p haystack start cut m (Occurs-in p haystack start end start cut m occurs.after_start upto occurs))
      ]

  pub all_occurrences-parts : cut ≤ end → end ≤ length haystack → all_occurrences p haystack start end ≡ all_occurrences p haystack start cut ++ ending_behind cut (all_occurrences p haystack (overlap_start p start cut) end)
  all_occurrences-parts le within =
      listed-same (IsBefore Standard) (all_occurrences p haystack start end) (before_cut ++ ending_behind cut overlapping_part) (IsBefore-irreflexive Standard) (IsBefore-trans Standard)
      (all_occurrences-listed p haystack start end)
      (listed-append (IsBefore Standard) before_cut (ending_behind cut overlapping_part) (all_occurrences-listed p haystack start cut)
      (listed-filter (IsBefore Standard) (λ (o : Occurrence). nat_lt cut o.end) overlapping_part (all_occurrences-listed p haystack (overlap_start p start cut) end))
      (λ m n left right. inl (omega (arith, (all_occurrences-only p haystack start cut m (omega arith) left).before_end, (behind-only n within right).0))))
      (λ m in_all. parts-has m (all_occurrences-only p haystack start end m within in_all))
      (λ m in_parts. all_occurrences-has p haystack start end m (parts-only m le within in_parts))
