-- The finds of a span that is cut where no occurrence lies, and the finds as one pass over a list of all occurrences.
use Rattle.std.proofs.Common.{◌≡◌, inl, inr, ℕ, suc, ◌≤◌, ◌<◌, ◌&&◌, Bool, true, false, List, [], ◌∷◌, ◌++◌, Option, Some, None, refl, sym, ◌∙◌, ap, subst, arith}
use Rattle.std.specs.Prelude.{MatchBool, nat_eq, nat_le}
use Rattle.std.proofs.lemmas.Bool.{cases_Bool, cond-true, cond-false, MatchBool-at_false, eqb-true, leb-true, le-leb}
use Rattle.aho_core.specs.declared.search.Anchored.TheVariants.{No}
use Rattle.aho_core.specs.declared.search.MatchKind.{MatchKind}
use Rattle.aho_core.specs.declared.search.MatchKind.TheVariants.{Standard, LeftmostFirst, LeftmostLongest}
use Rattle.aho_core.specs.Answer.{IsAnswer}
use Rattle.aho_core.specs.Best.{IsBestOrNone}
use Rattle.aho_core.specs.Iteration.{AreFinds, IsNextFind, repeats_end}
use Rattle.aho_core.specs.Listing.{IsListedBy, IsMember}
use Rattle.aho_core.specs.Occurrence.{Occurrence}
use Rattle.aho_core.specs.Occurs.{Occurs}
use Rattle.aho_core.specs.Order.{IsBefore}
use Rattle.aho_core.specs.Patterns.{Patterns}
use Rattle.aho_laws.specs.CutLaws.{IsClear, NoneIsEmpty, chosen, span_search}

-- of two that are not empty, the one that ends where the other starts, or before, is before it
before-apart : (kind : MatchKind) (m n : Occurrence) → m.start < m.end → n.start < n.end → m.end ≤ n.start → IsBefore kind m n
before-apart Standard m n full other apart = inl (omega arith)
before-apart LeftmostFirst m n full other apart = inl (omega arith)
before-apart LeftmostLongest m n full other apart = inl (omega arith)

module _ (p : Patterns) where
  -- the same occurrence in another span that holds it
  pub Occurs-in : (haystack : List ℕ) (start end from to : ℕ) (m : Occurrence) → from ≤ m.start → m.end ≤ to → Occurs p No haystack start end m → Occurs p No haystack from to m
  Occurs-in haystack start end from to m after before h = record { numbered = h.numbered; after_start = after; before_end = before; sized = h.sized; same = h.same; admitted = λ e. cc }

  module _ (full : NoneIsEmpty p) where
    pub Occurs-full : (haystack : List ℕ) (start end : ℕ) (m : Occurrence) → Occurs p No haystack start end m → m.start < m.end
    Occurs-full haystack start end m h = omega (arith, h.sized, full m.pattern h.numbered)

    -- so no answer is an empty match
    repeats-never : (last : Option ℕ) (haystack : List ℕ) (start end : ℕ) (answer : Option Occurrence) → IsBestOrNone p.kind (Occurs p No haystack start end) answer → repeats_end last answer ≡ false
    repeats-never None haystack start end answer best = refl
    repeats-never (Some last) haystack start end None best = refl
    repeats-never (Some last) haystack start end (Some m) best =
        elim (cases_Bool (nat_eq m.start m.end)) [
          | inl empty ↦ absurd (omega (arith, Occurs-full haystack start end m best.0, eqb-true m.start m.end empty))
          | inr apart ↦ ap (λ (b : Bool). b && nat_eq m.end last) apart
        ]

    -- and a find is the best of its span
    pub find-best : (haystack : List ℕ) (start end : ℕ) (last : Option ℕ) (found : Option Occurrence) → IsNextFind p (span_search haystack start end) last found → IsBestOrNone p.kind (Occurs p No haystack start end) found
    find-best haystack start end last found h =
        let best : IsBestOrNone p.kind (Occurs p No haystack start end) h.0 = h.1 in
        let Again = IsAnswer p (span_search haystack (suc start) end) found in
        let same : found ≡ h.0 = MatchBool-at_false Again (found ≡ h.0) (repeats-never last haystack start end h.0 best) h.2 in
        subst (IsBestOrNone p.kind (Occurs p No haystack start end)) (sym same) best

    pub best-find : (haystack : List ℕ) (start end : ℕ) (last : Option ℕ) (found : Option Occurrence) → IsBestOrNone p.kind (Occurs p No haystack start end) found → IsNextFind p (span_search haystack start end) last found
    best-find haystack start end last found best =
        let Again = IsAnswer p (span_search haystack (suc start) end) found in
        (found, best, subst (λ (b : Bool). MatchBool b Again (found ≡ found)) (sym (repeats-never last haystack start end found best)) refl)

    -- the finds of the part before a clear place and then those of the part behind it are those of the whole
    pub finds-clear : (ms ns : List Occurrence) (haystack : List ℕ) (start cut end : ℕ) (first last : Option ℕ) → start ≤ cut → cut ≤ end → IsClear p haystack start end cut
        → AreFinds p (span_search haystack start cut) first ms → AreFinds p (span_search haystack cut end) last ns → AreFinds p (span_search haystack start end) first (ms ++ ns)
    finds-clear [] [] haystack start cut end first last low high clear h k =
        best-find haystack start end first None
        (λ m occurs.
        elim (clear m occurs) [
          | inl before ↦ find-best haystack start cut first None h m (Occurs-in haystack start end start cut m occurs.after_start before occurs)
          | inr after ↦ find-best haystack cut end last None k m (Occurs-in haystack start end cut end m after occurs.before_end occurs)
        ])
    finds-clear [] (n ∷ ns) haystack start cut end first last low high clear h k =
        let best = find-best haystack cut end last (Some n) k.0 in
        let here = best.0 in (
          best-find haystack start end first (Some n) (
            Occurs-in haystack cut end start end n (omega (arith, here.after_start)) here.before_end here,
            λ other occurs.
                elim (clear other occurs) [
                  | inl before ↦ absurd (find-best haystack start cut first None h other (Occurs-in haystack start end start cut other occurs.after_start before occurs))
                  | inr after ↦ best.1 other (Occurs-in haystack start end cut end other after occurs.before_end occurs)
                ],
          ),
          k.1,
        )
    finds-clear (m ∷ ms) ns haystack start cut end first last low high clear h k =
        let best = find-best haystack start cut first (Some m) h.0 in
        let here = best.0 in
        let full_m = Occurs-full haystack start cut m here in (
          best-find haystack start end first (Some m) (
            Occurs-in haystack start cut start end m here.after_start (omega (arith, here.before_end)) here,
            λ other occurs.
                elim (clear other occurs) [
                  | inl before ↦ best.1 other (Occurs-in haystack start end start cut other occurs.after_start before occurs)
                  | inr after ↦ inr (before-apart p.kind m other full_m (Occurs-full haystack start end other occurs) (omega (arith, here.before_end)))
                ],
          ),
          finds-clear ms ns haystack m.end cut end (Some m.end) last here.before_end high
              (λ other occurs. clear other (Occurs-in haystack m.end end start end other (omega (arith, here.after_start, occurs.after_start)) occurs.before_end occurs))
              h.1 k,
        )

    -- a pass over a list of all that occurs, in the order of the kind
    pub finds-chosen : (list : List Occurrence) (haystack : List ℕ) (start at end : ℕ) (last : Option ℕ) → start ≤ at → IsListedBy (IsBefore p.kind) list
        → ((m : Occurrence) → IsMember list m → Occurs p No haystack start end m) → ((m : Occurrence) → Occurs p No haystack at end m → IsMember list m)
        → AreFinds p (span_search haystack at end) last (chosen at list)
    finds-chosen [] haystack start at end last low listed only has = best-find haystack at end last None has
    finds-chosen (m ∷ ms) haystack start at end last low listed only has =
        let taken = m ∷ chosen m.end ms in
        let passed = chosen at ms in
        let here = only m (inl refl) in
        let full_m = Occurs-full haystack start end m here in
        elim (cases_Bool (nat_le at m.start)) [
          | inl from ↦
              (let later : at ≤ m.start = leb-true at m.start from in
              subst (AreFinds p (span_search haystack at end) last) (sym (cond-true (nat_le at m.start) taken passed from)) (
                best-find haystack at end last (Some m) (
                  Occurs-in haystack start end at end m later here.before_end here,
                  λ other occurs. elim (has other occurs) [ inl same ↦ inl same | inr behind ↦ inr (listed.0 other behind) ],
                ),
                finds-chosen ms haystack start m.end end (Some m.end) (omega arith) listed.1 (λ o in_ms. only o (inr in_ms))
                    (λ o occurs.
                    elim (has o (Occurs-in haystack m.end end at end o (omega (arith, occurs.after_start)) occurs.before_end occurs)) [
                      | inl same ↦ (let start_is : o.start ≡ m.start = ap (λ (x : Occurrence). x.start) same in absurd (omega (arith, occurs.after_start)))
                      | inr behind ↦ behind
                    ]),
              ))
          | inr gone ↦
              subst (AreFinds p (span_search haystack at end) last) (sym (cond-false (nat_le at m.start) taken passed gone))
              (finds-chosen ms haystack start at end last low listed.1 (λ o in_ms. only o (inr in_ms))
              (λ o occurs.
              elim (has o occurs) [
                | inl same ↦
                    (let start_is : o.start ≡ m.start = ap (λ (x : Occurrence). x.start) same in
                    let from : nat_le at m.start ≡ true = le-leb at m.start (omega (arith, occurs.after_start)) in
                    let clash : true ≡ false = sym from ∙ gone in
                    cc)
                | inr behind ↦ behind
              ]))
        ]
