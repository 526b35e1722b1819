-- Some occurrences that stand for all that count.
use Rattle.std.proofs.Common.{◌≡◌, inl, inr, ℕ, ◌+◌, ◌<◌, ◌≤◌, Bool, true, false, List, [], ◌∷◌, ◌++◌, length, refl, sym, ◌∙◌, ap, subst, arith}
use Rattle.std.specs.Prelude.{◌⊎◌, ◌-◌}
use Rattle.std.proofs.lemmas.Bool.{and_parts, and_from, cases_lt}
use Rattle.aho_core.specs.declared.search.MatchKind.TheVariants.{LeftmostLongest, Standard}
use Rattle.aho_core.specs.Cover.{AreRunsOf, IsCovered, IsLongestFrom, IsStretch}
use Rattle.aho_core.specs.Listing.{IsListedBy, IsMember}
use Rattle.aho_core.specs.Occurrence.{Occurrence}
use Rattle.aho_core.specs.Occurs.{OccursIn}
use Rattle.aho_core.specs.Order.{IsBefore}
use Rattle.aho_core.specs.Overlapping.{all_occurrences}
use Rattle.aho_core.specs.Patterns.{Patterns}
use Rattle.aho_core.specs.Search.{plain_search}
use Rattle.aho_cover.specs.Words.{CountsIn, none_before, none_behind}
use Rattle.aho_laws.proofs.Listed.{member-left, member-of_append, member-right}
use Rattle.aho_laws.proofs.Listings.{all_occurrences-has, all_occurrences-listed, all_occurrences-only}
use Rattle.aho_laws.proofs.Orders.{same_occurrence}
use Rattle.secret_rules.specs.Picking.{HasFor, Picks, PicksOne, StandForAll, StandsInFor, is_counted}

pub stands-itself : (m : Occurrence) → StandsInFor m m
stands-itself m = (refl, inr (refl, omega arith))

-- of two that end together the one that is listed first stands for the other
stands-before : (first m : Occurrence) → first.end ≡ m.end → IsBefore Standard first m → StandsInFor first m
stands-before first m ends before =
    elim before [
      | inl earlier ↦ absurd (omega arith)
      | inr same ↦ elim same.1 [ inl starts ↦ (ends, inl starts) | inr rest ↦ (ends, inr (rest.0, omega (arith, rest.1))) ]
    ]

-- a list in order without its last, and what is before the last
listed-front : {X : Type 0} (Before : X → X → Type 0) (xs : List X) (last : X) → IsListedBy Before (xs ++ last ∷ []) → IsListedBy Before xs
listed-front Before [] last listed = tt
listed-front Before (x ∷ xs) last listed = (λ later there. listed.0 later (member-left xs (last ∷ []) later there), listed-front Before xs last listed.1)

listed-before : {X : Type 0} (Before : X → X → Type 0) (xs : List X) (last x : X) → IsListedBy Before (xs ++ last ∷ []) → IsMember xs x → Before x last
listed-before Before [] last x listed there = absurd there
listed-before {X = X} Before (y ∷ xs) last x listed there =
    elim there [
      | inl e ↦ subst (λ (z : X). Before z last) (sym e) (listed.0 last (member-right xs (last ∷ []) last (inl refl)))
      | inr later ↦ listed-before Before xs last x listed.1 later
    ]

-- one more came
pub Picks-more : (words : Bool) (line : List ℕ) (items found found' : List Occurrence) (m : Occurrence) → Picks words line items found → PicksOne words line m found found' → Picks words line (items ++ m ∷ []) found'
Picks-more words line items found found' m picked one = record {
  only = λ x there. elim (one.only x there) [
    | inl old ↦ (let is = picked.only x old in (member-left items (m ∷ []) x is.0, is.1))
    | inr own ↦ (member-right items (m ∷ []) x (inl own.0), subst (λ (o : Occurrence). is_counted words line o ≡ true) (sym own.0) own.1)
  ];
  has = λ listed x there counts. elim (member-of_append items (m ∷ []) x there) [
    | inl old ↦ (let f = picked.has (listed-front (IsBefore Standard) items m listed) x old counts in (f.0, one.kept f.0 f.1, f.2))
    | inr last ↦ elim last [
      | inl e ↦ subst (HasFor found') (sym e) (own listed (subst (λ (o : Occurrence). is_counted words line o ≡ true) e counts))
      | inr none ↦ absurd none
    ]
  ];
} where
  own : IsListedBy (IsBefore Standard) (items ++ m ∷ []) → is_counted words line m ≡ true → HasFor found' m
  own listed counts =
      elim (one.has counts) [
        | inl there ↦ (m, there, stands-itself m)
        | inr other ↦ (other.0, one.kept other.0 other.1, stands-before other.0 m other.2 (listed-before (IsBefore Standard) items m other.0 listed (picked.only other.0 other.1).0))
      ]

-- it was added
pub PicksOne-pushed : (words : Bool) (line : List ℕ) (m : Occurrence) (old new : List Occurrence) → new ≡ old ++ m ∷ [] → is_counted words line m ≡ true → PicksOne words line m old new
PicksOne-pushed words line m old new pushed counts = record {
  kept = λ x there. subst (λ (xs : List Occurrence). IsMember xs x) (sym pushed) (member-left old (m ∷ []) x there);
  only = λ x there. elim (member-of_append old (m ∷ []) x (subst (λ (xs : List Occurrence). IsMember xs x) pushed there)) [
    | inl was ↦ inl was
    | inr last ↦ elim last [ inl e ↦ inr (e, counts) | inr none ↦ absurd none ]
  ];
  has = λ is. inl (subst (λ (xs : List Occurrence). IsMember xs m) (sym pushed) (member-right old (m ∷ []) m (inl refl)));
}

-- what counts is what occurs and is counted
pub counts-from : (words : Bool) (p : Patterns) (line : List ℕ) (m : Occurrence) → OccursIn p (plain_search line) m → is_counted words line m ≡ true → CountsIn words p line m
counts-from false p line m occurs counted = occurs
counts-from true p line m occurs counted = record { occurs = occurs; before = (and_parts (none_before line m.start) (none_behind line m.end) counted).0; behind = (and_parts (none_before line m.start) (none_behind line m.end) counted).1 }

pub counts-occurs : (words : Bool) (p : Patterns) (line : List ℕ) (m : Occurrence) → CountsIn words p line m → OccursIn p (plain_search line) m × (is_counted words line m ≡ true)
counts-occurs false p line m h = (h, refl)
counts-occurs true p line m h = (h.occurs, and_from (none_before line m.start) (none_behind line m.end) h.before h.behind)

-- some that stand for all members cover what these do
module _ (Member : Occurrence → Type 0) (found : List Occurrence) (stand : StandForAll Member found) where
  covered-only : (at : ℕ) → IsCovered (IsMember found) at → IsCovered Member at
  covered-only at c = record { found = c.found; member = stand.only c.found c.member; after_start = c.after_start; before_end = c.before_end }

  covered-has : (at : ℕ) → IsCovered Member at → IsCovered (IsMember found) at
  covered-has at c =
      let f = stand.has c.found c.member in
      record {
        found = f.0;
        member = f.1;
        after_start = elim f.2.1 [ inl before ↦ omega (arith, before, c.after_start) | inr same ↦ omega (arith, same.0, c.after_start) ];
        before_end = omega (arith, f.2.0, c.before_end);
      }

  stretch-to : (start end : ℕ) → IsStretch (IsMember found) start end → IsStretch Member start end
  stretch-to start end st = record {
    some = st.some;
    covered = λ at after before. covered-only at (st.covered at after before);
    begins = λ at next c. st.begins at next (covered-has at c);
    ends = λ c. st.ends (covered-has end c);
  }

  stretch-back : (start end : ℕ) → IsStretch Member start end → IsStretch (IsMember found) start end
  stretch-back start end st = record {
    some = st.some;
    covered = λ at after before. covered-has at (st.covered at after before);
    begins = λ at next c. st.begins at next (covered-only at c);
    ends = λ c. st.ends (covered-only end c);
  }

  module _ (full : (x : Occurrence) → Member x → x.start < x.end) (at : ℕ) (begins : (place : ℕ) → place + 1 ≡ at → IsCovered (IsMember found) place → ⊥) where
    -- what begins where a run does has one for it that begins there
    standing-here : (x : Occurrence) → Member x → x.start ≡ at → (first : Occurrence) × IsMember found first × (first.start ≡ at) × (first.end ≡ x.end) × (first.pattern ≤ x.pattern)
    standing-here x member starts =
        let f = stand.has x member in
        let some : x.start < x.end = full x member in
        elim f.2.1 [
          | inl before ↦ absurd (begins (at - 1) (omega arith) (record { found = f.0; member = f.1; after_start = omega (arith, before); before_end = omega (arith, f.2.0) }))
          | inr here ↦ (f.0, f.1, omega (arith, here.0), f.2.0, here.1)
        ]

    -- so the longest of them is the longest of all
    longest-to : (longest : Occurrence) → IsLongestFrom (IsMember found) at longest → IsLongestFrom Member at longest
    longest-to longest best =
        ((stand.only longest best.0.0, best.0.1), λ other h. beaten other h.1 (standing-here other h.0 h.1))
      where
        beaten : (other : Occurrence) → other.start ≡ at → (first : Occurrence) × IsMember found first × (first.start ≡ at) × (first.end ≡ other.end) × (first.pattern ≤ other.pattern)
            → (other ≡ longest) ⊎ IsBefore LeftmostLongest longest other
        beaten other starts f =
            elim (best.1 f.0 (f.1, f.2)) [
              | inl e ↦
                  (let ends : longest.end ≡ other.end = ap (λ (o : Occurrence). o.end) (sym e) ∙ f.3 in
                  let number : f.0.pattern ≡ longest.pattern = ap (λ (o : Occurrence). o.pattern) e in
                  elim (cases_lt longest.pattern other.pattern) [
                    | inl greater ↦ inr (inr (omega (arith, best.0.1, starts), inr (ends, greater)))
                    | inr same ↦ inl (same_occurrence other longest (omega (arith, f.4, number)) (omega (arith, best.0.1, starts)) (sym ends))
                  ])
              | inr before ↦
                  elim before [
                    | inl earlier ↦ absurd (omega (arith, earlier, best.0.1, f.2))
                    | inr here ↦ elim here.1 [
                      | inl longer ↦ inr (inr (omega (arith, best.0.1, starts), inl (omega (arith, longer, f.3))))
                      | inr equal ↦ inr (inr (omega (arith, best.0.1, starts), inr (omega (arith, equal.0, f.3), omega (arith, equal.1, f.4))))
                    ]
                  ]
            ]

    longest-back : (longest : Occurrence) → IsLongestFrom Member at longest → IsLongestFrom (IsMember found) at longest
    longest-back longest best =
        let f = standing-here longest best.0.0 best.0.1 in
        let one : f.0 ≡ longest =
        elim (best.1 f.0 (stand.only f.0 f.1, f.2)) [
          | inl e ↦ e
          | inr before ↦
              elim before [
                | inl earlier ↦ absurd (omega (arith, earlier, best.0.1, f.2))
                | inr here ↦ elim here.1 [
                  | inl longer ↦ absurd (omega (arith, longer, f.3))
                  | inr equal ↦ absurd (omega (arith, equal.1, f.4))
                ]
              ]
        ] in
        ((subst (IsMember found) one f.1, best.0.1), λ other h. best.1 other (stand.only other h.0, h.1))

  -- so the runs of the ones are those of the others
  pub AreRunsOf-standing : (runs : List Occurrence) → ((x : Occurrence) → Member x → x.start < x.end) → AreRunsOf (IsMember found) runs → AreRunsOf Member runs
  AreRunsOf-standing runs full are = record {
    in_order = are.in_order;
    members = λ run. (
      λ there.
          let is = (are.members run).0 there in
          record { stretch = stretch-to run.start run.end is.stretch; longest = is.longest; longest_is = longest-to full run.start is.stretch.begins is.longest is.longest_is; named = is.named },
      λ is.
          let st = stretch-back run.start run.end is.stretch in
          (are.members run).1 (record { stretch = st; longest = is.longest; longest_is = longest-back full run.start st.begins is.longest is.longest_is; named = is.named }),
    );
  }

-- all that occurs in a line, in order: what was picked stands for what counts
pub counts-standing : (words : Bool) (p : Patterns) (line : List ℕ) (items found : List Occurrence) → items ≡ all_occurrences p line 0 (length line) → Picks words line items found → StandForAll (CountsIn words p line) found
counts-standing words p line items found all picked = record {
  only = λ m there.
      let is = picked.only m there in
      counts-from words p line m (all_occurrences-only p line 0 (length line) m (omega arith) (subst (λ (xs : List Occurrence). IsMember xs m) all is.0)) is.1;
  has = λ m counts.
      let is = counts-occurs words p line m counts in
      picked.has (subst (IsListedBy (IsBefore Standard)) (sym all) (all_occurrences-listed p line 0 (length line))) m
      (subst (λ (xs : List Occurrence). IsMember xs m) (sym all) (all_occurrences-has p line 0 (length line) m is.0)) is.1;
}
