-- One pass forward: from place to place, and from find to find.
use Rattle.std.proofs.Common.{◌≡◌, ◌⊎◌, inl, inr, ℕ, ◌+◌, ◌<◌, ◌≤◌, true, List, [], ◌∷◌, ◌++◌, length, Option, Some, None, refl, sym, subst, arith}
use Rattle.std.proofs.lemmas.Bool.{cases_lt}
use Rattle.std.proofs.lemmas.List.{append-nil, append_assoc}
use Rattle.aho_core.specs.declared.search.Anchored.TheVariants.{No, Yes}
use Rattle.aho_core.specs.declared.search.MatchKind.{MatchKind}
use Rattle.aho_core.specs.declared.search.MatchKind.TheVariants.{Standard, LeftmostFirst, LeftmostLongest}
use Rattle.aho_core.specs.Best.{IsBest, IsBestOrNone}
use Rattle.aho_core.specs.Failure.{is_leftmost}
use Rattle.aho_core.specs.Iteration.{AreFinds}
use Rattle.aho_core.specs.Occurrence.{Occurrence}
use Rattle.aho_core.specs.Occurs.{Occurs}
use Rattle.aho_core.specs.Order.{IsBefore}
use Rattle.aho_core.specs.Patterns.{Patterns}
use Rattle.aho_laws.specs.CutLaws.{AreFindsOf, AreFindsWithin, NoneIsEmpty, span_search}
use Rattle.aho_laws.proofs.ClearCuts.{Occurs-full, Occurs-in, best-find, find-best}
use Rattle.aho_backward.specs.Backward.{FindsUpTo}

-- by a leftmost kind what starts first is before
pub starts-before : (kind : MatchKind) (m n : Occurrence) → is_leftmost kind ≡ true → m.start < n.start → IsBefore kind m n
starts-before Standard m n leftmost less = cc
starts-before LeftmostFirst m n leftmost less = inl less
starts-before LeftmostLongest m n leftmost less = inl less

module _ (p : Patterns) (full : NoneIsEmpty p) (haystack : List ℕ) where
  abbrev end : ℕ
  end = length haystack

  -- where the match before ended plays no part
  after-any : (ms : List Occurrence) (at : ℕ) (last other : Option ℕ) → AreFinds p (span_search haystack at end) last ms → AreFinds p (span_search haystack at end) other ms
  after-any [] at last other h = best-find p full haystack at end other None (find-best p full haystack at end last None h)
  after-any (m ∷ ms) at last other h = (best-find p full haystack at end other (Some m) (find-best p full haystack at end last (Some m) h.0), h.1)

  -- an occurrence from a place on begins there, or further on
  pub begins-cases : (at : ℕ) (m : Occurrence) → Occurs p No haystack at end m → Occurs p Yes haystack at end m ⊎ (at < m.start)
  begins-cases at m o = elim (cases_lt at m.start) [
    | inl past ↦ inr past
    | inr upto ↦
        (let there : m.start ≡ at = omega (arith, upto, o.after_start) in
        inl (record { numbered = o.numbered; after_start = o.after_start; before_end = o.before_end; sized = o.sized; same = o.same; admitted = λ e. there }))
  ]

  pub unanchored : (at : ℕ) (m : Occurrence) → Occurs p Yes haystack at end m → Occurs p No haystack at end m
  unanchored at m o = record { numbered = o.numbered; after_start = o.after_start; before_end = o.before_end; sized = o.sized; same = o.same; admitted = λ e. cc }

  -- nothing begins at a place
  passed : (ms : List Occurrence) (at : ℕ) → IsBestOrNone p.kind (Occurs p Yes haystack at end) None → AreFindsWithin p haystack (at + 1) end ms → AreFindsWithin p haystack at end ms
  passed [] at none h =
      best-find p full haystack at end None None
      (λ other o.
      elim (begins-cases at other o) [
        | inl here ↦ none other here
        | inr past ↦ find-best p full haystack (at + 1) end None None h other (Occurs-in p haystack at end (at + 1) end other (omega arith) o.before_end o)
      ])
  passed (m ∷ ms) at none h =
      let best = find-best p full haystack (at + 1) end None (Some m) h.0 in (
        best-find p full haystack at end None (Some m) (
          Occurs-in p haystack (at + 1) end at end m (omega (arith, best.0.after_start)) best.0.before_end best.0,
          λ other o.
              elim (begins-cases at other o) [
                | inl here ↦ absurd (none other here)
                | inr past ↦ best.1 other (Occurs-in p haystack at end (at + 1) end other (omega arith) o.before_end o)
              ],
        ),
        h.1,
      )

  pub none-begins : (at : ℕ) (found : List Occurrence) → IsBestOrNone p.kind (Occurs p Yes haystack at end) None → FindsUpTo p haystack at found → FindsUpTo p haystack (at + 1) found
  none-begins at found none upto = λ ms h. upto ms (passed ms at none h)

  -- the best that begins there is the next find
  pub best-begins : (at : ℕ) (m : Occurrence) (found : List Occurrence) → is_leftmost p.kind ≡ true → IsBest p.kind (Occurs p Yes haystack at end) m → FindsUpTo p haystack at found → FindsUpTo p haystack m.end (found ++ m ∷ [])
  best-begins at m found leftmost best upto = λ ms h.
      let start : m.start ≡ at = best.0.admitted refl in
      let next : AreFindsWithin p haystack at end (m ∷ ms) = (
        best-find p full haystack at end None (Some m) (
          unanchored at m best.0,
          λ other o. elim (begins-cases at other o) [ inl here ↦ best.1 other here | inr past ↦ inr (starts-before p.kind m other leftmost (omega (arith, start))) ],
        ),
        after-any ms m.end None (Some m.end) h,
      ) in
      subst (AreFindsOf p haystack) (sym (append_assoc found (m ∷ []) ms)) (upto (m ∷ ms) next)

  pub begins-full : (at : ℕ) (m : Occurrence) → Occurs p Yes haystack at end m → (m.start ≡ at) × (at < m.end) × (m.end ≤ end)
  begins-full at m o = (o.admitted refl, omega (arith, Occurs-full p full haystack at end m (unanchored at m o), o.admitted refl), o.before_end)

  -- at the end all were found
  pub all-found : (found : List Occurrence) → FindsUpTo p haystack end found → AreFindsOf p haystack found
  all-found found upto =
      subst (AreFindsOf p haystack) (append-nil found)
      (upto [] (best-find p full haystack end end None None (λ other o. omega (arith, Occurs-full p full haystack end end other o, o.after_start, o.before_end))))
