-- Each text has runs: those of what ends up to each place, one place after another.
use Rattle.std.proofs.Common.{◌≡◌, inl, inr, ℕ, zero, suc, ◌≤◌, List, [], ◌∷◌, length, refl, sym, ◌∙◌, ap, subst, arith}
use Rattle.std.specs.Prelude.{◌⊎◌, nat_lt}
use Rattle.std.proofs.lemmas.Bool.{cases_lt, cases_eq, cond-true, cond-false, lt-ltb, le-ltb}
use Rattle.aho_core.specs.declared.search.Anchored.TheVariants.{No}
use Rattle.aho_core.specs.declared.search.MatchKind.TheVariants.{Standard}
use Rattle.aho_core.specs.Cover.{AreRuns}
use Rattle.aho_core.specs.Listing.{IsListedBy, IsMember}
use Rattle.aho_core.specs.Occurrence.{Occurrence}
use Rattle.aho_core.specs.Occurs.{Occurs}
use Rattle.aho_core.specs.Order.{IsBefore}
use Rattle.aho_core.specs.Overlapping.{occurrences_ending}
use Rattle.aho_core.specs.Patterns.{Patterns}
use Rattle.aho_laws.specs.CoverLaws.{joined_first, joined_runs, runs_upto}
use Rattle.aho_laws.proofs.Answers.{Occurs-of_end}
use Rattle.aho_laws.proofs.CoverRuns.{Covers, covers-joined, covers-same, runs-covering, runs-unique}
use Rattle.aho_laws.proofs.Listings.{occurrences_ending-has, occurrences_ending-listed, occurrences_ending-only}

module _ (p : Patterns) (haystack : List ℕ) where
  -- what occurs up to a place
  abbrev pub OccursUpto : ℕ → Occurrence → Type 0
  OccursUpto at m = Occurs p No haystack 0 at m

  -- what does not end at the next place ended before
  upto-next : (at : ℕ) (m : Occurrence) → OccursUpto (suc at) m → OccursUpto at m ⊎ (m.end ≡ suc at)
  upto-next at m h = elim (cases_eq m.end (suc at)) [ inl e ↦ inr e | inr apart ↦ inl (Occurs-of_end p No haystack 0 (suc at) at m (omega (arith, h.before_end)) h) ]

  covers-next : (at : ℕ) (runs list : List Occurrence) → ((m : Occurrence) → IsMember list m → OccursUpto (suc at) m × (m.end ≡ suc at)) → ((m : Occurrence) → OccursUpto (suc at) m → m.end ≡ suc at → IsMember list m)
      → IsListedBy (IsBefore Standard) list → Covers (OccursUpto at) runs at → Covers (OccursUpto (suc at)) (joined_first runs list) (suc at)
  covers-next at runs [] only has listed covers =
      covers-same (OccursUpto at) (OccursUpto (suc at)) (λ m h. Occurs-of_end p No haystack 0 at (suc at) m (omega (arith, h.before_end)) h) runs at (suc at) covers (omega arith)
      (λ m h. elim (upto-next at m h) [ inl old ↦ inl old | inr ends ↦ absurd (has m h ends) ])
  covers-next at runs (m ∷ ms) only has listed covers =
      let kept = λ (x : Occurrence) (h : OccursUpto at x). Occurs-of_end p No haystack 0 at (suc at) x (omega (arith, h.before_end)) h in
      let first = only m (inl refl) in
      elim (cases_lt m.start m.end) [
        | inl some ↦
            subst (λ (xs : List Occurrence). Covers (OccursUpto (suc at)) xs (suc at)) (sym (cond-true (nat_lt m.start m.end) (joined_runs runs m) runs (lt-ltb m.start m.end some)))
            (subst (λ (end : ℕ). Covers (OccursUpto (suc at)) (joined_runs runs m) end) first.1
            (covers-joined (OccursUpto at) (OccursUpto (suc at)) kept runs at m covers (omega (arith, first.1)) some first.0 (λ x h. h.before_end)
            (λ x h. elim (upto-next at x h) [
              | inl old ↦ inl old
              | inr ends ↦ inr (
                ends ∙ sym first.1,
                elim (has x h ends) [
                  | inl e ↦ inl e
                  | inr later ↦ inr (elim (listed.0 x later) [
                    | inl sooner ↦ absurd (omega (arith, first.1))
                    | inr tie ↦ tie.1
                  ])
                ],
              )
            ])))
        | inr empty ↦
            subst (λ (xs : List Occurrence). Covers (OccursUpto (suc at)) xs (suc at)) (sym (cond-false (nat_lt m.start m.end) (joined_runs runs m) runs (le-ltb m.start m.end empty)))
            (covers-same (OccursUpto at) (OccursUpto (suc at)) kept runs at (suc at) covers (omega arith)
            (λ x h. elim (upto-next at x h) [
              | inl old ↦ inl old
              | inr ends ↦ elim (has x h ends) [
                | inl e ↦ inr (omega (arith, ap (λ (o : Occurrence). o.start) e, ap (λ (o : Occurrence). o.end) e, first.1), omega (arith, ap (λ (o : Occurrence). o.start) e, ap (λ (o : Occurrence). o.end) e))
                | inr later ↦ elim (listed.0 x later) [
                  | inl sooner ↦ absurd (omega (arith, first.1, ends))
                  | inr tie ↦ elim tie.1 [
                    | inl starts ↦ inr (omega (arith, first.1), omega (arith, first.1, ends))
                    | inr number ↦ inr (omega (arith, first.1, number.0), omega (arith, first.1, ends, number.0))
                  ]
                ]
              ]
            ]))
      ]

  pub upto-covers : (at : ℕ) → at ≤ length haystack → Covers (OccursUpto at) (runs_upto p haystack at) at
  upto-covers zero within = record {
    ordered = record { in_order = tt; full = λ x there. absurd there; within = λ x there. absurd there };
    only = λ at c. absurd c.member;
    has = λ at c. absurd (omega (arith, c.after_start, c.before_end, c.member.before_end));
    named = λ x there. absurd there;
  }
  upto-covers (suc at) within =
      covers-next at (runs_upto p haystack at) (occurrences_ending p haystack 0 (suc at)) (λ m there. occurrences_ending-only p haystack 0 (suc at) m within there)
      (λ m h ends. subst (λ (end : ℕ). IsMember (occurrences_ending p haystack 0 end) m) ends (occurrences_ending-has p haystack 0 m.end m (Occurs-of_end p No haystack 0 (suc at) m.end m (omega arith) h))) (occurrences_ending-listed p haystack 0 (suc at))
      (upto-covers at (omega arith))

  -- at the end all runs of the text
  pub runs-made : AreRuns p haystack (runs_upto p haystack (length haystack))
  runs-made = runs-covering (OccursUpto (length haystack)) (runs_upto p haystack (length haystack)) (length haystack) (upto-covers (length haystack) (omega arith))

  pub runs-are : (runs : List Occurrence) → AreRuns p haystack runs → runs ≡ runs_upto p haystack (length haystack)
  runs-are runs h = runs-unique (OccursUpto (length haystack)) runs (runs_upto p haystack (length haystack)) h runs-made
