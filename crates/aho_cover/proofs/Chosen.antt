-- The runs of what counts: of all that occurs, or of words alone.
use Rattle.std.proofs.Common.{◌≡◌, inl, inr, ℕ, zero, suc, ◌≤◌, Bool, true, false, List, [], ◌∷◌, length, refl, sym, ◌∙◌, ap, subst, arith}
use Rattle.std.specs.Prelude.{◌⊎◌, ◌&&◌, None, Some, filter, nat_lt}
use Rattle.std.proofs.lemmas.Bool.{and_from, cases_lt, cases_eq, cond-true, cond-false, lt-ltb, le-ltb}
use Rattle.aho_core.specs.declared.search.Anchored.TheVariants.{No}
use Rattle.aho_core.specs.declared.search.MatchKind.TheVariants.{Standard}
use Rattle.aho_core.specs.Laws.{longest}
use Rattle.aho_core.specs.Listing.{IsListedBy, IsMember}
use Rattle.aho_core.specs.Occurrence.{Occurrence}
use Rattle.aho_core.specs.Occurs.{Occurs}
use Rattle.aho_core.specs.Order.{IsBefore}
use Rattle.aho_core.specs.Overlapping.{occurrences_ending}
use Rattle.aho_core.specs.Patterns.{Patterns}
use Rattle.aho_laws.specs.CoverLaws.{joined_first, joined_runs}
use Rattle.aho_laws.proofs.Answers.{Occurs-of_end}
use Rattle.aho_laws.proofs.CoverRuns.{Covers, covers-joined, covers-same, runs-covering, runs-unique}
use Rattle.aho_laws.proofs.Listings.{occurrences_ending-has, occurrences_ending-listed, occurrences_ending-only}
use Rattle.aho_laws.proofs.Members.{listed-filter, member-filter, member-of_filter}
use Rattle.aho_stream.specs.After.{kept_for}
use Rattle.aho_cover.specs.Words.{AreRunsWith, CountsIn, all_runs, counted_of, ending_with, first_listed, stands_as_word, kept_with, none_before, none_behind, runs_with}

-- two tests that are passed
both-true : (x y : Bool) → (x && y) ≡ true → (x ≡ true) × (y ≡ true)
both-true true true e = (refl, refl)
both-true true false e = cc
both-true false true e = cc
both-true false false e = cc

-- of some occurrences those that count are among them, and those of no occurrence are none
pub counted-member : (words : Bool) (text : List ℕ) (ms : List Occurrence) (m : Occurrence) → IsMember (counted_of words text ms) m → IsMember ms m
counted-member false text ms m there = there
counted-member true text ms m there = (member-of_filter (stands_as_word text) ms m there).1

pub counted-none : (words : Bool) (text : List ℕ) (ms : List Occurrence) → ms ≡ [] → counted_of words text ms ≡ []
counted-none false text ms none = none
counted-none true text ms none = ap (filter (stands_as_word text)) none

-- as many bytes are kept as the longest pattern has, and as are kept where all counts
pub kept-enough : (words : Bool) (lengths : List ℕ) → (longest lengths ≤ kept_with words lengths) × (kept_for lengths ≤ kept_with words lengths)
kept-enough false lengths = (omega arith, omega arith)
kept-enough true lengths = (omega arith, omega arith)

-- the first of a list, or none
pub none-listed : (ms : List Occurrence) → first_listed ms ≡ None → ms ≡ []
none-listed [] none = refl
none-listed (m ∷ ms) none = cc

pub some-listed : (ms : List Occurrence) (m : Occurrence) → first_listed ms ≡ Some m → (others : List Occurrence) × (ms ≡ m ∷ others)
some-listed [] m some = cc
some-listed (x ∷ ms) m some = (ms, (let same : x ≡ m = cc in ap (λ (y : Occurrence). y ∷ ms) same))

module _ (p : Patterns) (haystack : List ℕ) (Passes : Occurrence → Type 0) where
  -- what occurs up to a place, and passes
  abbrev PassesUpto : ℕ → Occurrence → Type 0
  PassesUpto at m = Occurs p No haystack 0 at m × Passes m

  kept-upto : (at : ℕ) (m : Occurrence) → PassesUpto at m → PassesUpto (suc at) m
  kept-upto at m h = (Occurs-of_end p No haystack 0 at (suc at) m (omega (arith, h.0.before_end)) h.0, h.1)

  -- what does not end at the next place ended before
  upto-next : (at : ℕ) (m : Occurrence) → PassesUpto (suc at) m → PassesUpto at m ⊎ (m.end ≡ suc at)
  upto-next at m h = elim (cases_eq m.end (suc at)) [ inl e ↦ inr e | inr apart ↦ inl (Occurs-of_end p No haystack 0 (suc at) at m (omega (arith, h.0.before_end)) h.0, h.1) ]

  covers-next : (at : ℕ) (runs list : List Occurrence) → ((m : Occurrence) → IsMember list m → PassesUpto (suc at) m × (m.end ≡ suc at)) → ((m : Occurrence) → PassesUpto (suc at) m → m.end ≡ suc at → IsMember list m)
      → IsListedBy (IsBefore Standard) list → Covers (PassesUpto at) runs at → Covers (PassesUpto (suc at)) (joined_first runs list) (suc at)
  covers-next at runs [] only has listed covers =
      covers-same (PassesUpto at) (PassesUpto (suc at)) (kept-upto at) runs at (suc at) covers (omega arith)
      (λ m h. elim (upto-next at m h) [ inl old ↦ inl old | inr ends ↦ absurd (has m h ends) ])
  covers-next at runs (m ∷ ms) only has listed covers =
      let first = only m (inl refl) in
      elim (cases_lt m.start m.end) [
        | inl some ↦
            subst (λ (xs : List Occurrence). Covers (PassesUpto (suc at)) xs (suc at)) (sym (cond-true (nat_lt m.start m.end) (joined_runs runs m) runs (lt-ltb m.start m.end some)))
            (subst (λ (end : ℕ). Covers (PassesUpto (suc at)) (joined_runs runs m) end) first.1
            (covers-joined (PassesUpto at) (PassesUpto (suc at)) (kept-upto at) runs at m covers (omega (arith, first.1)) some first.0 (λ x h. h.0.before_end)
            (λ x h. elim (upto-next at x h) [
              | inl old ↦ inl old
              | inr ends ↦ inr (
                ends ∙ sym first.1,
                elim (has x h ends) [
                  | inl e ↦ inl e
                  | inr later ↦ inr (elim (listed.0 x later) [
                    | inl sooner ↦ absurd (omega (arith, first.1))
                    | inr tie ↦ tie.1
                  ])
                ],
              )
            ])))
        | inr empty ↦
            subst (λ (xs : List Occurrence). Covers (PassesUpto (suc at)) xs (suc at)) (sym (cond-false (nat_lt m.start m.end) (joined_runs runs m) runs (le-ltb m.start m.end empty)))
            (covers-same (PassesUpto at) (PassesUpto (suc at)) (kept-upto at) runs at (suc at) covers (omega arith)
            (λ x h. elim (upto-next at x h) [
              | inl old ↦ inl old
              | inr ends ↦ elim (has x h ends) [
                | inl e ↦ inr (omega (arith, ap (λ (o : Occurrence). o.start) e, ap (λ (o : Occurrence). o.end) e, first.1), omega (arith, ap (λ (o : Occurrence). o.start) e, ap (λ (o : Occurrence). o.end) e))
                | inr later ↦ elim (listed.0 x later) [
                  | inl sooner ↦ absurd (omega (arith, first.1, ends))
                  | inr tie ↦ elim tie.1 [
                    | inl starts ↦ inr (omega (arith, first.1), omega (arith, first.1, ends))
                    | inr number ↦ inr (omega (arith, first.1, number.0), omega (arith, first.1, ends, number.0))
                  ]
                ]
              ]
            ]))
      ]

module _ (p : Patterns) (haystack : List ℕ) where
  -- what it takes to count
  abbrev Passes : Bool → Occurrence → Type 0
  Passes false m = Unit {0}
  Passes true m = stands_as_word haystack m ≡ true

  -- what counts up to a place
  abbrev pub CountsUpto : Bool → ℕ → Occurrence → Type 0
  CountsUpto words at m = Occurs p No haystack 0 at m × Passes words m

  ending-only : (words : Bool) (end : ℕ) (m : Occurrence) → end ≤ length haystack → IsMember (ending_with words p haystack end) m → CountsUpto words end m × (m.end ≡ end)
  ending-only false end m within there = (let one = occurrences_ending-only p haystack 0 end m within there in ((one.0, tt), one.1))
  ending-only true end m within there =
      let passed = member-of_filter (stands_as_word haystack) (occurrences_ending p haystack 0 end) m there in
      let one = occurrences_ending-only p haystack 0 end m within passed.1 in
      ((one.0, passed.0), one.1)

  ending-has : (words : Bool) (end : ℕ) (m : Occurrence) → CountsUpto words end m → m.end ≡ end → IsMember (ending_with words p haystack end) m
  ending-has words end m h ends =
      let there = subst (λ (n : ℕ). IsMember (occurrences_ending p haystack 0 n) m) ends (occurrences_ending-has p haystack 0 m.end m (Occurs-of_end p No haystack 0 end m.end m (omega arith) h.0)) in
      by_words words h.1 there
    where
      by_words : (words : Bool) → Passes words m → IsMember (occurrences_ending p haystack 0 end) m → IsMember (ending_with words p haystack end) m
      by_words false passes there = there
      by_words true passes there = member-filter (stands_as_word haystack) (occurrences_ending p haystack 0 end) m passes there

  ending-listed : (words : Bool) (end : ℕ) → IsListedBy (IsBefore Standard) (ending_with words p haystack end)
  ending-listed false end = occurrences_ending-listed p haystack 0 end
  ending-listed true end = listed-filter (IsBefore Standard) (stands_as_word haystack) (occurrences_ending p haystack 0 end) (occurrences_ending-listed p haystack 0 end)

  pub counts-upto : (at : ℕ) (words : Bool) → at ≤ length haystack → Covers (CountsUpto words at) (runs_with words p haystack at) at
  counts-upto zero words within = record {
    ordered = record { in_order = tt; full = λ x there. absurd there; within = λ x there. absurd there };
    only = λ at c. absurd c.member;
    has = λ at c. absurd (omega (arith, c.after_start, c.before_end, c.member.0.before_end));
    named = λ x there. absurd there;
  }
  counts-upto (suc at) words within =
      covers-next p haystack (Passes words) at (runs_with words p haystack at) (ending_with words p haystack (suc at)) (λ m there. ending-only words (suc at) m within there)
      (λ m h ends. ending-has words (suc at) m h ends) (ending-listed words (suc at))
      (counts-upto at words (omega arith))

  -- at the end that is what counts in the text
  to-counts : (words : Bool) (m : Occurrence) → CountsUpto words (length haystack) m → CountsIn words p haystack m
  to-counts false m h = h.0
  to-counts true m h = (let both = both-true (none_before haystack m.start) (none_behind haystack m.end) h.1 in record { occurs = h.0; before = both.0; behind = both.1 })

  from-counts : (words : Bool) (m : Occurrence) → CountsIn words p haystack m → CountsUpto words (length haystack) m
  from-counts false m h = (h, tt)
  from-counts true m h = (h.occurs, and_from (none_before haystack m.start) (none_behind haystack m.end) h.before h.behind)

  pub counts-further : (words : Bool) (at : ℕ) (m : Occurrence) → at ≤ length haystack → CountsUpto words at m → CountsIn words p haystack m
  counts-further words at m within h = to-counts words m (Occurs-of_end p No haystack 0 at (length haystack) m (omega (arith, within, h.0.before_end)) h.0, h.1)

  -- so they are the runs of the text
  pub all-covers : (words : Bool) → Covers (CountsIn words p haystack) (all_runs words p haystack) (length haystack)
  all-covers words =
      covers-same (CountsUpto words (length haystack)) (CountsIn words p haystack) (to-counts words) (all_runs words p haystack) (length haystack) (length haystack)
      (counts-upto (length haystack) words (omega arith)) (omega arith) (λ m h. inl (from-counts words m h))

  pub all-made : (words : Bool) → AreRunsWith words p haystack (all_runs words p haystack)
  all-made words = runs-covering (CountsIn words p haystack) (all_runs words p haystack) (length haystack) (all-covers words)

  pub all-are : (words : Bool) (runs : List Occurrence) → AreRunsWith words p haystack runs → runs ≡ all_runs words p haystack
  all-are words runs h = runs-unique (CountsIn words p haystack) runs (all_runs words p haystack) h (all-made words)
