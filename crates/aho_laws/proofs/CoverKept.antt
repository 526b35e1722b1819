-- What is kept of a text whose runs are replaced, and what lies in a run.
use Rattle.std.proofs.Common.{◌≡◌, inl, inr, ℕ, zero, suc, ◌+◌, ◌-◌, ◌<◌, ◌≤◌, Bool, true, false, List, [], ◌∷◌, ◌++◌, length, map, take, drop, Option, Some, None, refl, sym, ◌∙◌, ap, subst, arith, drop-cons}
use Rattle.std.specs.Prelude.{◌⊎◌, ◌↔◌, ◌&&◌, nat_eq, not, filter, nat_le, nat_lt, slice_index}
use Rattle.std.specs.List.{list_any, range_with_len}
use Rattle.std.proofs.lemmas.Bool.{and_from, and_parts, cases_Bool, cases_lt, cond-true, cond-false, false_from_ne_true, MatchBool-at_true, MatchBool-at_false, leb-true, eqb-true, le-leb, lt-ltb, ltb-true, not_from_false, not_from_true, or_cases, or_left, or_right}
use Rattle.std.proofs.lemmas.List.{map-append, take_rest}
use Rattle.std.proofs.lemmas.List.Elements.{filter-append}
use Rattle.aho_core.specs.declared.search.Anchored.TheVariants.{No}
use Rattle.aho_core.specs.declared.search.MatchKind.TheVariants.{LeftmostLongest}
use Rattle.aho_core.specs.Answer.{IsAnswer}
use Rattle.aho_core.specs.Best.{IsBest, IsBestOrNone}
use Rattle.aho_core.specs.Cover.{AreRuns, IsCovered, IsRunOf}
use Rattle.aho_core.specs.Iteration.{AreFinds, IsNextFind, repeats_end}
use Rattle.aho_core.specs.Listing.{IsMember}
use Rattle.aho_core.specs.Occurrence.{Occurrence}
use Rattle.aho_core.specs.Occurs.{Occurs, OccursIn}
use Rattle.aho_core.specs.Overlapping.{all_occurrences}
use Rattle.aho_core.specs.Patterns.{Patterns}
use Rattle.aho_core.specs.Replacement.{replaced_from}
use Rattle.aho_core.specs.Search.{Search, plain_search}
use Rattle.aho_laws.specs.CoverLaws.{AreInOrder, BeginsWithFind, StandApart, LiesInOneRun, by_longest, is_covered, kept, uncovered}
use Rattle.aho_laws.proofs.CoverRuns.{Covers, in_order-rest, listed-cases, run-stretch}
use Rattle.aho_laws.proofs.Listings.{all_occurrences-has, all_occurrences-only}
use Rattle.aho_laws.proofs.Orders.{IsBefore-irreflexive, IsBefore-trans}
use Rattle.aho_laws.proofs.Ranges.{range_with_len-add}
use Rattle.aho_laws.proofs.TextRuns.{runs-are, upto-covers}

-- a list has an element that passes where the test says so
any-member : {X : Type 0} (f : X → Bool) (xs : List X) → list_any f xs ≡ true → (x : X) × IsMember xs x × (f x ≡ true)
any-member f [] h = cc
any-member f (x ∷ xs) h =
    elim (or_cases (f x) (list_any f xs) h) [
      | inl here ↦ (x, inl refl, here)
      | inr later ↦ (let found = any-member f xs later in (found.0, inr found.1, found.2))
    ]

any-of_member : {X : Type 0} (f : X → Bool) (xs : List X) (x : X) → IsMember xs x → f x ≡ true → list_any f xs ≡ true
any-of_member f [] x h passes = absurd h
any-of_member f (y ∷ ys) x h passes =
    elim h [
      | inl e ↦ or_left (f y) (list_any f ys) (sym (ap f e) ∙ passes)
      | inr later ↦ or_right (f y) (list_any f ys) (any-of_member f ys x later passes)
    ]

-- what repeats an end is empty
repeats-empty : (last : Option ℕ) (answer : Option Occurrence) → repeats_end last answer ≡ true → (m : Occurrence) × (answer ≡ Some m) × (m.start ≡ m.end)
repeats-empty None answer h = cc
repeats-empty (Some last) None h = cc
repeats-empty (Some last) (Some m) h = (m, refl, eqb-true m.start m.end (and_parts (nat_eq m.start m.end) (nat_eq m.end last) h).0)

module _ (haystack : List ℕ) (test : ℕ → Bool) where
  -- the bytes of a range that the test leaves
  abbrev left_by : ℕ → ℕ → List ℕ
  left_by at n = map (λ k. slice_index haystack k) (filter (λ k. not (test k)) (range_with_len at n))

  left_by-add : (at m n : ℕ) → left_by at (m + n) ≡ left_by at m ++ left_by (at + m) n
  left_by-add at m n =
      ap (λ (ks : List ℕ). map (λ k. slice_index haystack k) (filter (λ k. not (test k)) ks)) (range_with_len-add at m n)
      ∙ ap (map (λ k. slice_index haystack k)) (filter-append (λ k. not (test k)) (range_with_len at m) (range_with_len (at + m) n))
      ∙ map-append (λ k. slice_index haystack k) (filter (λ k. not (test k)) (range_with_len at m)) (filter (λ k. not (test k)) (range_with_len (at + m) n))

  left_by-all : (at n : ℕ) → at + n ≤ length haystack → ((k : ℕ) → at ≤ k → k < at + n → test k ≡ false) → left_by at n ≡ take n (drop at haystack)
  left_by-all at zero within fails = refl
  left_by-all at (suc n) within fails =
      let rest = filter (λ k. not (test k)) (range_with_len (at + 1) n) in
      let next : at + 1 ≡ suc at = omega arith in
      ap (map (λ k. slice_index haystack k)) (cond-true (not (test at)) (at ∷ rest) rest (not_from_false (test at) (fails at (omega arith) (omega arith))))
      ∙ ap (λ (bytes : List ℕ). slice_index haystack at ∷ bytes) (left_by-all (at + 1) n (omega arith) (λ k low high. fails k (omega arith) (omega arith)))
      ∙ ap (λ (k : ℕ). slice_index haystack at ∷ take n (drop k haystack)) next
      ∙ ap (take (suc n)) (sym (drop-cons haystack at 0 (omega arith)))

  left_by-none : (at n : ℕ) → ((k : ℕ) → at ≤ k → k < at + n → test k ≡ true) → left_by at n ≡ []
  left_by-none at zero passes = refl
  left_by-none at (suc n) passes =
      let rest = filter (λ k. not (test k)) (range_with_len (at + 1) n) in
      ap (map (λ k. slice_index haystack k)) (cond-false (not (test at)) (at ∷ rest) rest (not_from_true (test at) (passes at (omega arith) (omega arith))))
      ∙ left_by-none (at + 1) n (λ k low high. passes k (omega arith) (omega arith))

  -- is what is kept, where the test tells what the runs hold
  kept-from : (runs : List Occurrence) (at : ℕ) → AreInOrder runs (length haystack) → at ≤ length haystack → ((x : Occurrence) → IsMember runs x → at ≤ x.start)
      → ((k : ℕ) → at ≤ k → test k ≡ true → IsCovered (IsMember runs) k) → ((k : ℕ) → IsCovered (IsMember runs) k → test k ≡ true)
      → replaced_from haystack at runs (λ run. []) ≡ left_by at (length haystack - at)
  kept-from [] at ordered within behind only has =
      sym (left_by-all at (length haystack - at) (omega arith) (λ k low high. false_from_ne_true (test k) (λ passes. (only k low passes).member))
      ∙ take_rest haystack at)
  kept-from (run ∷ runs) at ordered within behind only has =
      let low = behind run (inl refl) in
      let some = ordered.full run (inl refl) in
      let high = ordered.within run (inl refl) in
      let parts : length haystack - at ≡ (run.start - at) + ((run.end - run.start) + (length haystack - run.end)) = omega arith in
      let first : left_by at (run.start - at) ≡ take (run.start - at) (drop at haystack) =
      left_by-all at (run.start - at) (omega arith) (λ k after before. false_from_ne_true (test k) (λ passes.
      let c = only k after passes in
      elim c.member [
        | inl e ↦ omega (arith, c.after_start, ap (λ (o : Occurrence). o.start) e)
        | inr later ↦ omega (arith, c.after_start, ordered.in_order.0 c.found later)
      ])) in
      let second : left_by (at + (run.start - at)) (run.end - run.start) ≡ [] =
      left_by-none (at + (run.start - at)) (run.end - run.start) (λ k after before. has k (record { found = run; member = inl refl; after_start = omega arith; before_end = omega arith })) in
      let third : replaced_from haystack run.end runs (λ r. []) ≡ left_by run.end (length haystack - run.end) =
      kept-from runs run.end (in_order-rest run runs (length haystack) ordered) high (λ x later. omega (arith, ordered.in_order.0 x later))
      (λ k after passes.
      let c = only k (omega arith) passes in
      elim c.member [
        | inl e ↦ absurd (omega (arith, c.before_end, ap (λ (o : Occurrence). o.end) e))
        | inr later ↦ record { found = c.found; member = later; after_start = c.after_start; before_end = c.before_end }
      ])
      (λ k c. has k (record { found = c.found; member = inr c.member; after_start = c.after_start; before_end = c.before_end })) in
      let place : at + (run.start - at) + (run.end - run.start) ≡ run.end = omega arith in
      sym (ap (left_by at) parts
      ∙ left_by-add at (run.start - at) ((run.end - run.start) + (length haystack - run.end))
      ∙ ap (λ (bytes : List ℕ). bytes ++ left_by (at + (run.start - at)) ((run.end - run.start) + (length haystack - run.end))) first
      ∙ ap (λ (bytes : List ℕ). take (run.start - at) (drop at haystack) ++ bytes)
      (left_by-add (at + (run.start - at)) (run.end - run.start) (length haystack - run.end)
      ∙ ap (λ (bytes : List ℕ). bytes ++ left_by (at + (run.start - at) + (run.end - run.start)) (length haystack - run.end)) second
      ∙ ap (λ (k : ℕ). left_by k (length haystack - run.end)) place
      ∙ sym third))

module _ (p : Patterns) (haystack : List ℕ) where
  abbrev pub OccursHere : Occurrence → Type 0
  OccursHere m = OccursIn p (plain_search haystack) m

  -- the runs of a text cover what occurs in it
  pub runs-cover : (runs : List Occurrence) → AreRuns p haystack runs → Covers OccursHere runs (length haystack)
  runs-cover runs h = subst (λ (xs : List Occurrence). Covers OccursHere xs (length haystack)) (sym (runs-are p haystack runs h)) (upto-covers p haystack (length haystack) (omega arith))

  pub is_covered-tells : (at : ℕ) → (is_covered p haystack at ≡ true) ↔ IsCovered OccursHere at
  is_covered-tells at =
      let all = all_occurrences p haystack 0 (length haystack) in
      let holds = λ (m : Occurrence). nat_le m.start at && nat_lt at m.end in (
        (λ h.
            let found = any-member holds all h in
            let both = and_parts (nat_le found.0.start at) (nat_lt at found.0.end) found.2 in
            record { found = found.0; member = all_occurrences-only p haystack 0 (length haystack) found.0 (omega arith) found.1; after_start = leb-true found.0.start at both.0; before_end = ltb-true at found.0.end both.1 }),
        (λ c. any-of_member holds all c.found (all_occurrences-has p haystack 0 (length haystack) c.found c.member)
            (and_from (nat_le c.found.start at) (nat_lt at c.found.end) (le-leb c.found.start at c.after_start) (lt-ltb at c.found.end c.before_end))),
      )

  -- what is kept is all that no occurrence holds
  pub kept-uncovered : (runs : List Occurrence) → AreRuns p haystack runs → kept haystack runs ≡ uncovered p haystack
  kept-uncovered runs h =
      let covers = runs-cover runs h in
      let whole : length haystack - 0 ≡ length haystack = omega arith in
      subst (λ (n : ℕ). kept haystack runs ≡ left_by haystack (is_covered p haystack) 0 n) whole
      (kept-from haystack (is_covered p haystack) runs 0 covers.ordered (omega arith) (λ x there. omega arith)
      (λ k low passes. covers.has k ((is_covered-tells k).0 passes)) (λ k c. (is_covered-tells k).1 (covers.only k c)))

  -- each occurrence lies in one run
  pub lies-in_run : (runs : List Occurrence) (m : Occurrence) → AreRuns p haystack runs → OccursHere m → m.start < m.end → LiesInOneRun runs m
  lies-in_run runs m h occurs some =
      let covers = runs-cover runs h in
      let c = covers.has m.start (record { found = m; member = occurs; after_start = omega arith; before_end = some }) in
      let stretch = run-stretch OccursHere runs (length haystack) covers c.found c.member in
      let high : m.end ≤ c.found.end =
      elim (cases_lt c.found.end m.end) [
        | inl before ↦ absurd (stretch.ends (record { found = m; member = occurs; after_start = omega (arith, c.before_end); before_end = before }))
        | inr upto ↦ upto
      ] in
      record {
        run = c.found;
        member = c.member;
        after_start = c.after_start;
        before_end = high;
        only = λ other there starts ends.
            elim (listed-cases StandApart runs other c.found covers.ordered.in_order there c.member) [
              | inl same ↦ same
              | inr apart ↦ elim apart [ inl before ↦ absurd (omega (arith, c.after_start)) | inr behind ↦ absurd (omega arith) ]
            ];
      }

  -- by another kind the same occurs
  back-by_longest : (start end : ℕ) (m : Occurrence) → Occurs (by_longest p) No haystack start end m → Occurs p No haystack start end m
  back-by_longest start end m h = record { numbered = h.numbered; after_start = h.after_start; before_end = h.before_end; sized = h.sized; same = h.same; admitted = h.admitted }

  module _ (run : Occurrence) (is_run : IsRunOf OccursHere run) where
    abbrev longest : Occurrence
    longest = is_run.longest

    abbrev search_from : ℕ → Search
    search_from start = record { haystack = haystack; start = start; end = length haystack; anchored = No; earliest = false }

    -- what begins the run lies in what is searched from there or before
    longest-occurs : (start : ℕ) → start ≤ run.start → Occurs (by_longest p) No haystack start (length haystack) longest
    longest-occurs start low =
        let h = is_run.longest_is.0.0 in
        record { numbered = h.numbered; after_start = omega (arith, is_run.longest_is.0.1); before_end = h.before_end; sized = h.sized; same = h.same; admitted = λ e. cc }

    -- the longest from a run's start is not empty
    longest-full : longest.start < longest.end
    longest-full =
        let c = is_run.stretch.covered run.start (omega arith) is_run.stretch.some in
        elim (cases_lt c.found.start run.start) [
          | inl before ↦ absurd (is_run.stretch.begins (run.start - 1) (omega (arith, before)) (record { found = c.found; member = c.member; after_start = omega (arith, before); before_end = omega (arith, c.before_end) }))
          | inr behind ↦
              (let starts : c.found.start ≡ run.start = omega (arith, c.after_start) in
              elim (is_run.longest_is.1 c.found (c.member, starts)) [
                | inl same ↦ omega (arith, ap (λ (o : Occurrence). o.start) same, ap (λ (o : Occurrence). o.end) same, c.after_start, c.before_end)
                | inr first ↦ elim first [
                  | inl less ↦ absurd (omega (arith, is_run.longest_is.0.1))
                  | inr tie ↦ elim tie.1 [
                    | inl longer ↦ omega (arith, c.after_start, c.before_end, is_run.longest_is.0.1)
                    | inr number ↦ omega (arith, c.after_start, c.before_end, is_run.longest_is.0.1, number.0)
                  ]
                ]
              ])
        ]

    -- the best from a place before the run begins it, or ends before it
    abbrev ReachesRun : Occurrence → Type 0
    ReachesRun m = (m ≡ longest) ⊎ (m.end ≤ run.start)

    best-reaches : (start : ℕ) (m : Occurrence) → start ≤ run.start → IsBest LeftmostLongest (Occurs (by_longest p) No haystack start (length haystack)) m → ReachesRun m
    best-reaches start m low best =
        let occurs : OccursHere m = back-by_longest 0 (length haystack) m (record { numbered = best.0.numbered; after_start = omega arith; before_end = best.0.before_end; sized = best.0.sized; same = best.0.same; admitted = λ e. cc }) in
        elim (best.1 longest (longest-occurs start low)) [
          | inl same ↦ inl (sym same)
          | inr first ↦ elim first [
            | inl before ↦
                elim (cases_lt run.start m.end) [
                  | inl across ↦
                      absurd (is_run.stretch.begins (run.start - 1) (omega (arith, is_run.longest_is.0.1)) (record { found = m; member = occurs; after_start = omega (arith, is_run.longest_is.0.1); before_end = omega arith }))
                  | inr upto ↦ inr upto
                ]
            | inr tie ↦
                (let starts : m.start ≡ run.start = tie.0 ∙ is_run.longest_is.0.1 in
                elim (is_run.longest_is.1 m (occurs, starts)) [
                  | inl same ↦ inl same
                  | inr other ↦ absurd (IsBefore-irreflexive LeftmostLongest m (IsBefore-trans LeftmostLongest m longest m (inr tie) other))
                ])
          ]
        ]

    -- and is not empty where it starts with the run
    best-full : (start : ℕ) (m : Occurrence) → start ≡ run.start → IsBest LeftmostLongest (Occurs (by_longest p) No haystack start (length haystack)) m → m.start < m.end
    best-full start m e best =
        elim (best.1 longest (longest-occurs start (omega arith))) [
          | inl same ↦ omega (arith, longest-full, ap (λ (o : Occurrence). o.start) same, ap (λ (o : Occurrence). o.end) same)
          | inr first ↦ elim first [
            | inl before ↦ absurd (omega (arith, is_run.longest_is.0.1, best.0.after_start))
            | inr tie ↦ elim tie.1 [
              | inl longer ↦ omega (arith, longest-full, tie.0)
              | inr number ↦ omega (arith, longest-full, tie.0, number.0)
            ]
          ]
        ]

    -- where a search goes on from one place further, the run starts there or later
    again-low : (start : ℕ) (last : Option ℕ) (answer : Option Occurrence) → start ≤ run.start → IsBestOrNone LeftmostLongest (Occurs (by_longest p) No haystack start (length haystack)) answer → repeats_end last answer ≡ true → suc start ≤ run.start
    again-low start last answer low best repeats =
        let empty = repeats-empty last answer repeats in
        elim (cases_lt start run.start) [
          | inl before ↦ omega arith
          | inr there ↦ absurd (omega (arith, empty.2, best-full start empty.0 (omega arith) (subst (IsBestOrNone LeftmostLongest (Occurs (by_longest p) No haystack start (length haystack))) empty.1 best)))
        ]

    -- so a find does, and there is one
    find-reaches : (start : ℕ) (last : Option ℕ) (m : Occurrence) → start ≤ run.start → IsNextFind (by_longest p) (search_from start) last (Some m) → ReachesRun m
    find-reaches start last m low h =
        let Again = IsAnswer (by_longest p) (search_from (suc start)) (Some m) in
        elim (cases_Bool (repeats_end last h.0)) [
          | inl repeats ↦ best-reaches (suc start) m (again-low start last h.0 low h.1 repeats) (MatchBool-at_true Again (Some m ≡ h.0) repeats h.2)
          | inr once ↦ best-reaches start m low (subst (IsBestOrNone LeftmostLongest (Occurs (by_longest p) No haystack start (length haystack))) (sym (MatchBool-at_false Again (Some m ≡ h.0) once h.2)) h.1)
        ]

    find-there : (start : ℕ) (last : Option ℕ) → start ≤ run.start → IsNextFind (by_longest p) (search_from start) last None → ⊥
    find-there start last low h =
        let Again = IsAnswer (by_longest p) (search_from (suc start)) None in
        elim (cases_Bool (repeats_end last h.0)) [
          | inl repeats ↦ MatchBool-at_true Again (None ≡ h.0) repeats h.2 longest (longest-occurs (suc start) (again-low start last h.0 low h.1 repeats))
          | inr once ↦ subst (IsBestOrNone LeftmostLongest (Occurs (by_longest p) No haystack start (length haystack))) (sym (MatchBool-at_false Again (None ≡ h.0) once h.2)) h.1 longest (longest-occurs start low)
        ]

    finds-reach : (finds : List Occurrence) (start : ℕ) (last : Option ℕ) → start ≤ run.start → AreFinds (by_longest p) (search_from start) last finds → IsMember finds longest
    finds-reach [] start last low h = absurd (find-there start last low h)
    finds-reach (m ∷ ms) start last low h =
        elim (find-reaches start last m low h.0) [
          | inl same ↦ inl (sym same)
          | inr upto ↦ inr (finds-reach ms m.end (Some m.end) upto h.1)
        ]

  -- each run begins with a find
  pub begins-with_find : (runs finds : List Occurrence) (run : Occurrence) → AreRuns p haystack runs → AreFinds (by_longest p) (plain_search haystack) None finds → IsMember runs run → BeginsWithFind finds run
  begins-with_find runs finds run h found there =
      let is_run = (h.members run).0 there in
      let inside = lies-in_run runs is_run.longest h is_run.longest_is.0.0 (longest-full run is_run) in
      let own : run ≡ inside.run = inside.only run there (omega (arith, is_run.longest_is.0.1, longest-full run is_run)) (omega (arith, is_run.longest_is.0.1, is_run.stretch.some)) in
      record {
        find = is_run.longest;
        member = finds-reach run is_run finds 0 None (omega arith) found;
        starts = is_run.longest_is.0.1;
        before_end = omega (arith, inside.before_end, ap (λ (o : Occurrence). o.end) own);
        named = sym is_run.named;
      }
