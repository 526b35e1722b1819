-- Runs in order: what one more occurrence makes of them, and when they are the runs of a set of occurrences.
use Rattle.std.proofs.Common.{◌≡◌, inl, inr, ℕ, zero, suc, ◌+◌, ◌<◌, ◌≤◌, List, [], ◌∷◌, refl, sym, ◌∙◌, ap, subst, arith}
use Rattle.std.specs.Prelude.{◌⊎◌, nat_lt}
use Rattle.std.proofs.lemmas.Bool.{cases_lt, cond-true, cond-false, lt-ltb, le-ltb}
use Rattle.aho_core.specs.declared.search.MatchKind.TheVariants.{LeftmostLongest}
use Rattle.aho_core.specs.Cover.{AreRunsOf, IsCovered, IsLongestFrom, IsStretch}
use Rattle.aho_core.specs.Listing.{IsListedBy, IsMember}
use Rattle.aho_core.specs.Occurrence.{Occurrence}
use Rattle.aho_core.specs.Order.{IsBefore}
use Rattle.aho_laws.specs.CoverLaws.{AreInOrder, StandApart, extended, joined_runs}
use Rattle.aho_laws.proofs.Listed.{listed-weaker}
use Rattle.aho_laws.proofs.Orders.{IsBest-unique, same_occurrence}
use Rattle.aho_laws.proofs.OverlappingParts.{listed-same}

-- of two that stand in a list in order, one is before the other
pub listed-cases : {X : Type 0} (Before : X → X → Type 0) (xs : List X) (x y : X) → IsListedBy Before xs → IsMember xs x → IsMember xs y → (x ≡ y) ⊎ (Before x y ⊎ Before y x)
listed-cases Before [] x y listed h k = absurd h
listed-cases {X = X} Before (z ∷ zs) x y listed h k =
    elim h [
      | inl e ↦
          elim k [
            | inl f ↦ inl (e ∙ sym f)
            | inr later ↦ inr (inl (subst (λ (w : X). Before w y) (sym e) (listed.0 y later)))
          ]
      | inr there ↦
          elim k [
            | inl f ↦ inr (inr (subst (λ (w : X). Before w x) (sym f) (listed.0 x there)))
            | inr later ↦ listed-cases Before zs x y listed.1 there later
          ]
    ]

-- a run of the joined ones is one that m does not touch, or the last: that begins where m does or, before it, where one does that m touches
abbrev pub IsJoinedRun : List Occurrence → Occurrence → Occurrence → Type 0
IsJoinedRun runs m x =
    (IsMember runs x × (x.end < m.start))
    ⊎ ((x.end ≡ m.end) × (((x.start ≡ m.start) × (x.pattern ≡ m.pattern))
    ⊎ ((x.start < m.start) × ((y : Occurrence) × IsMember runs y × (m.start ≤ y.end) × (y.start ≡ x.start) × (y.pattern ≡ x.pattern)))))

joined-later : (run : Occurrence) (runs : List Occurrence) (m x : Occurrence) → IsJoinedRun runs m x → IsJoinedRun (run ∷ runs) m x
joined-later run runs m x h =
    elim h [
      | inl kept ↦ inl (inr kept.0, kept.1)
      | inr last ↦
          inr (
            last.0,
            elim last.1 [
              | inl own ↦ inl own
              | inr other ↦ inr (other.0, (other.1.0, inr other.1.1, other.1.2, other.1.3, other.1.4))
            ],
          )
    ]

extended-is : (run : Occurrence) (runs : List Occurrence) (m x : Occurrence) → m.start ≤ run.end → x ≡ extended run m → IsJoinedRun (run ∷ runs) m x
extended-is run runs m x touches e =
    let long : Occurrence = record { pattern = run.pattern; start = run.start; end = m.end } in
    elim (cases_lt run.start m.start) [
      | inl before ↦
          (let f : x ≡ long = e ∙ cond-true (nat_lt run.start m.start) long m (lt-ltb run.start m.start before) in
          inr (
            ap (λ (o : Occurrence). o.end) f,
            inr (
              subst (λ (o : Occurrence). o.start < m.start) (sym f) before,
              (run, inl refl, touches, sym (ap (λ (o : Occurrence). o.start) f), sym (ap (λ (o : Occurrence). o.pattern) f)),
            ),
          ))
      | inr behind ↦
          (let f : x ≡ m = e ∙ cond-false (nat_lt run.start m.start) long m (le-ltb run.start m.start behind) in
          inr (ap (λ (o : Occurrence). o.end) f, inl (ap (λ (o : Occurrence). o.start) f, ap (λ (o : Occurrence). o.pattern) f)))
    ]

pub member-of_joined : (runs : List Occurrence) (m x : Occurrence) → IsMember (joined_runs runs m) x → IsJoinedRun runs m x
member-of_joined [] m x h =
    elim h [
      | inl e ↦ inr (ap (λ (o : Occurrence). o.end) e, inl (ap (λ (o : Occurrence). o.start) e, ap (λ (o : Occurrence). o.pattern) e))
      | inr none ↦ absurd none
    ]
member-of_joined (run ∷ runs) m x h =
    let apart = run ∷ joined_runs runs m in
    let touching = extended run m ∷ [] in
    elim (cases_lt run.end m.start) [
      | inl before ↦
          elim (subst (λ (xs : List Occurrence). IsMember xs x) (cond-true (nat_lt run.end m.start) apart touching (lt-ltb run.end m.start before)) h) [
            | inl e ↦ inl (inl e, subst (λ (o : Occurrence). o.end < m.start) (sym e) before)
            | inr later ↦ joined-later run runs m x (member-of_joined runs m x later)
          ]
      | inr touches ↦
          elim (subst (λ (xs : List Occurrence). IsMember xs x) (cond-false (nat_lt run.end m.start) apart touching (le-ltb run.end m.start touches)) h) [
            | inl e ↦ extended-is run runs m x touches e
            | inr none ↦ absurd none
          ]
    ]

-- what is covered by the runs or by the occurrence is covered by the joined ones
abbrev pub Lies : ℕ → Occurrence → Type 0
Lies at m = (m.start ≤ at) × (at < m.end)

pub in_order-rest : (run : Occurrence) (runs : List Occurrence) (upto : ℕ) → AreInOrder (run ∷ runs) upto → AreInOrder runs upto
in_order-rest run runs upto h = record { in_order = h.in_order.1; full = λ x there. h.full x (inr there); within = λ x there. h.within x (inr there) }

pub joined-has : (runs : List Occurrence) (m : Occurrence) (at : ℕ) → AreInOrder runs m.end → m.start < m.end → IsCovered (IsMember runs) at ⊎ Lies at m → IsCovered (IsMember (joined_runs runs m)) at
joined-has [] m at ordered some h =
    elim h [
      | inl old ↦ absurd old.member
      | inr lies ↦ record { found = m; member = inl refl; after_start = lies.0; before_end = lies.1 }
    ]
joined-has (run ∷ runs) m at ordered some h =
    let apart = run ∷ joined_runs runs m in
    let touching = extended run m ∷ [] in
    let long : Occurrence = record { pattern = run.pattern; start = run.start; end = m.end } in
    elim (cases_lt run.end m.start) [
      | inl before ↦
          subst (λ (xs : List Occurrence). IsCovered (IsMember xs) at) (sym (cond-true (nat_lt run.end m.start) apart touching (lt-ltb run.end m.start before)))
          (elim h [
            | inl old ↦
                elim old.member [
                  | inl e ↦ record { found = old.found; member = inl e; after_start = old.after_start; before_end = old.before_end }
                  | inr there ↦
                      (let c = joined-has runs m at (in_order-rest run runs m.end ordered) some (inl (record { found = old.found; member = there; after_start = old.after_start; before_end = old.before_end })) in
                      record { found = c.found; member = inr c.member; after_start = c.after_start; before_end = c.before_end })
                ]
            | inr lies ↦
                (let c = joined-has runs m at (in_order-rest run runs m.end ordered) some (inr lies) in
                record { found = c.found; member = inr c.member; after_start = c.after_start; before_end = c.before_end })
          ])
      | inr touches ↦
          (let low : (run.start ≤ at) ⊎ (m.start ≤ at) =
          elim h [
            | inl old ↦
                elim old.member [
                  | inl e ↦ inl (omega (arith, old.after_start, ap (λ (o : Occurrence). o.start) e))
                  | inr there ↦ inl (omega (arith, old.after_start, ordered.in_order.0 old.found there, ordered.full run (inl refl)))
                ]
            | inr lies ↦ inr lies.0
          ] in
          let high : at < m.end = elim h [ inl old ↦ omega (arith, old.before_end, ordered.within old.found old.member) | inr lies ↦ lies.1 ] in
          subst (λ (xs : List Occurrence). IsCovered (IsMember xs) at) (sym (cond-false (nat_lt run.end m.start) apart touching (le-ltb run.end m.start touches)))
          (elim (cases_lt run.start m.start) [
            | inl before ↦ record {
              found = extended run m;
              member = inl refl;
              after_start = subst (λ (o : Occurrence). o.start ≤ at) (sym (cond-true (nat_lt run.start m.start) long m (lt-ltb run.start m.start before))) (elim low [ inl l ↦ l | inr l ↦ omega arith ]);
              before_end = subst (λ (o : Occurrence). at < o.end) (sym (cond-true (nat_lt run.start m.start) long m (lt-ltb run.start m.start before))) high;
            }
            | inr behind ↦ record {
              found = extended run m;
              member = inl refl;
              after_start = subst (λ (o : Occurrence). o.start ≤ at) (sym (cond-false (nat_lt run.start m.start) long m (le-ltb run.start m.start behind))) (elim low [ inl l ↦ omega arith | inr l ↦ l ]);
              before_end = subst (λ (o : Occurrence). at < o.end) (sym (cond-false (nat_lt run.start m.start) long m (le-ltb run.start m.start behind))) high;
            }
          ]))
    ]

-- and nothing else
pub joined-only : (runs : List Occurrence) (m : Occurrence) (at : ℕ) → IsCovered (IsMember (joined_runs runs m)) at → IsCovered (IsMember runs) at ⊎ Lies at m
joined-only runs m at c =
    elim (member-of_joined runs m c.found c.member) [
      | inl kept ↦ inl (record { found = c.found; member = kept.0; after_start = c.after_start; before_end = c.before_end })
      | inr last ↦
          elim last.1 [
            | inl own ↦ inr (omega (arith, c.after_start, own.0), omega (arith, c.before_end, last.0))
            | inr other ↦
                elim (cases_lt at m.start) [
                  | inl before ↦
                      (let y = other.1.0 in
                      inl (record { found = y; member = other.1.1; after_start = omega (arith, c.after_start, other.1.3); before_end = omega (arith, other.1.2) }))
                  | inr behind ↦ inr (behind, omega (arith, c.before_end, last.0))
                ]
          ]
    ]

pub joined-in_order : (runs : List Occurrence) (m : Occurrence) (upto : ℕ) → AreInOrder runs upto → m.start < m.end → AreInOrder (joined_runs runs m) m.end
joined-in_order runs m upto ordered some = record {
  in_order = listed runs upto ordered;
  full = λ x there. elim (member-of_joined runs m x there) [
    | inl kept ↦ ordered.full x kept.0
    | inr last ↦ elim last.1 [ inl own ↦ omega (arith, own.0, last.0) | inr other ↦ omega (arith, other.0, last.0) ]
  ];
  within = λ x there. elim (member-of_joined runs m x there) [
    | inl kept ↦ omega (arith, kept.1)
    | inr last ↦ omega (arith, last.0)
  ];
} where
  listed : (rest : List Occurrence) (end : ℕ) → AreInOrder rest end → IsListedBy StandApart (joined_runs rest m)
  listed [] end h = ((λ later none. absurd none), tt)
  listed (run ∷ rest) end h =
      let apart = run ∷ joined_runs rest m in
      let touching = extended run m ∷ [] in
      elim (cases_lt run.end m.start) [
        | inl before ↦
            subst (IsListedBy StandApart) (sym (cond-true (nat_lt run.end m.start) apart touching (lt-ltb run.end m.start before))) (
              (λ later there. elim (member-of_joined rest m later there) [
                | inl kept ↦ h.in_order.0 later kept.0
                | inr last ↦ elim last.1 [
                  | inl own ↦ omega (arith, own.0)
                  | inr other ↦ omega (arith, h.in_order.0 other.1.0 other.1.1, other.1.3)
                ]
              ]),
              listed rest end (in_order-rest run rest end h),
            )
        | inr touches ↦
            subst (IsListedBy StandApart) (sym (cond-false (nat_lt run.end m.start) apart touching (le-ltb run.end m.start touches)))
            ((λ later none. absurd none), tt)
      ]

-- the runs cover what the members cover, and each is named by the longest member that begins where it does
pub record Covers (Member : Occurrence → Type 0) (runs : List Occurrence) (upto : ℕ) : Type 0 where
  pub ordered : AreInOrder runs upto
  pub only : (at : ℕ) → IsCovered (IsMember runs) at → IsCovered Member at
  pub has : (at : ℕ) → IsCovered Member at → IsCovered (IsMember runs) at
  pub named : (x : Occurrence) → IsMember runs x → (longest : Occurrence) × IsLongestFrom Member x.start longest × (x.pattern ≡ longest.pattern)

module _ (Member : Occurrence → Type 0) (runs : List Occurrence) (upto : ℕ) (covers : Covers Member runs upto) where
  lies-apart : (x y : Occurrence) (at : ℕ) → IsMember runs x → IsMember runs y → Lies at y → (x ≡ y) ⊎ ((x.end < at) ⊎ (at + 1 < x.start))
  lies-apart x y at in_x in_y lies =
      elim (listed-cases StandApart runs x y covers.ordered.in_order in_x in_y) [
        | inl e ↦ inl e
        | inr apart ↦ elim apart [ inl before ↦ inr (inl (omega arith)) | inr behind ↦ inr (inr (omega arith)) ]
      ]

  -- so each is a stretch
  pub run-stretch : (x : Occurrence) → IsMember runs x → IsStretch Member x.start x.end
  run-stretch x there = record {
    some = covers.ordered.full x there;
    covered = λ at after before. covers.only at (record { found = x; member = there; after_start = after; before_end = before });
    begins = λ at next c.
        let d = covers.has at c in
        elim (lies-apart x d.found at there d.member (d.after_start, d.before_end)) [
          | inl e ↦ omega (arith, next, d.after_start, d.before_end, ap (λ (o : Occurrence). o.start) e)
          | inr apart ↦ elim apart [ inl before ↦ omega (arith, next, covers.ordered.full x there) | inr behind ↦ omega (arith, next) ]
        ];
    ends = λ c.
        let d = covers.has x.end c in
        elim (lies-apart x d.found x.end there d.member (d.after_start, d.before_end)) [
          | inl e ↦ omega (arith, d.before_end, ap (λ (o : Occurrence). o.end) e)
          | inr apart ↦ elim apart [ inl before ↦ omega arith | inr behind ↦ omega (arith, covers.ordered.full x there) ]
        ];
  }

-- a number above another is one above some number
cases_pred : {low : ℕ} (n : ℕ) → low < n → (k : ℕ) × (k + 1 ≡ n)
cases_pred zero below = absurd (omega arith)
cases_pred (suc k) below = (k, omega arith)

-- two stretches that share a place are one
pub stretches-same : (Member : Occurrence → Type 0) (start end from upto at : ℕ) → IsStretch Member start end → IsStretch Member from upto → start ≤ at → at < end → from ≤ at → at < upto → (start ≡ from) × (end ≡ upto)
stretches-same Member start end from upto at one other a b c d = (starts, ends) where
  starts : start ≡ from
  starts =
      elim (cases_lt start from) [
        | inl before ↦ (let last = cases_pred from before in absurd (other.begins last.0 last.1 (one.covered last.0 (omega (arith, last.1)) (omega (arith, last.1)))))
        | inr behind ↦
            elim (cases_lt from start) [
              | inl before ↦ (let last = cases_pred start before in absurd (one.begins last.0 last.1 (other.covered last.0 (omega (arith, last.1)) (omega (arith, last.1)))))
              | inr equal ↦ omega arith
            ]
      ]

  ends : end ≡ upto
  ends =
      elim (cases_lt end upto) [
        | inl before ↦ absurd (one.ends (other.covered end (omega arith) before))
        | inr behind ↦
            elim (cases_lt upto end) [
              | inl before ↦ absurd (other.ends (one.covered upto (omega arith) before))
              | inr equal ↦ omega arith
            ]
      ]

-- and they are all runs
pub runs-covering : (Member : Occurrence → Type 0) (runs : List Occurrence) (upto : ℕ) → Covers Member runs upto → AreRunsOf Member runs
runs-covering Member runs upto covers = record {
  in_order = covers.ordered.in_order;
  members = λ run. (
    (λ there.
        let longest = covers.named run there in
        record { stretch = run-stretch Member runs upto covers run there; longest = longest.0; longest_is = longest.1; named = longest.2 }),
    (λ is_run.
        let c = covers.has run.start (is_run.stretch.covered run.start (omega arith) is_run.stretch.some) in
        let own = run-stretch Member runs upto covers c.found c.member in
        let same = stretches-same Member run.start run.end c.found.start c.found.end run.start is_run.stretch own (omega arith) is_run.stretch.some c.after_start c.before_end in
        let longest = covers.named c.found c.member in
        let one : is_run.longest ≡ longest.0 =
        IsBest-unique LeftmostLongest (λ (other : Occurrence). Member other × (other.start ≡ run.start)) is_run.longest longest.0 is_run.longest_is
        (subst (λ (at : ℕ). IsLongestFrom Member at longest.0) (sym same.0) longest.1) in
        let named : run.pattern ≡ c.found.pattern = is_run.named ∙ ap (λ (o : Occurrence). o.pattern) one ∙ sym longest.2 in
        subst (IsMember runs) (sym (same_occurrence run c.found named same.0 same.1)) c.member),
  );
}

-- there is one list of runs
pub runs-unique : (Member : Occurrence → Type 0) (xs ys : List Occurrence) → AreRunsOf Member xs → AreRunsOf Member ys → xs ≡ ys
runs-unique Member xs ys one other =
    listed-same (λ (x y : Occurrence). x.start < y.start) xs ys (λ x e. omega arith) (λ x y z e f. omega arith) (by_start xs one) (by_start ys other)
    (λ x there. (other.members x).1 ((one.members x).0 there)) (λ x there. (one.members x).1 ((other.members x).0 there))
  where
    by_start : (runs : List Occurrence) → AreRunsOf Member runs → IsListedBy (λ (x y : Occurrence). x.start < y.start) runs
    by_start runs h = listed-weaker StandApart (λ (x y : Occurrence). x.start < y.start) runs (λ x y in_x in_y apart. omega (arith, ((h.members x).0 in_x).stretch.some)) h.in_order

-- what ends where m does, and of it m is the best: it begins later, or at the same place and has a greater number
abbrev pub IsAdded : Occurrence → Occurrence → Type 0
IsAdded m x = (x.end ≡ m.end) × ((x ≡ m) ⊎ ((m.start < x.start) ⊎ ((m.start ≡ x.start) × (m.pattern < x.pattern))))

added-starts : (m x : Occurrence) → IsAdded m x → m.start ≤ x.start
added-starts m x h = elim h.1 [ inl e ↦ omega (arith, ap (λ (o : Occurrence). o.start) e) | inr later ↦ elim later [ inl l ↦ omega arith | inr l ↦ omega (arith, l.0) ] ]

module _ (Old New : Occurrence → Type 0) (kept : (x : Occurrence) → Old x → New x) where
  longest-kept : (at : ℕ) (longest : Occurrence) → ((x : Occurrence) → New x → x.start ≡ at → Old x) → IsLongestFrom Old at longest → IsLongestFrom New at longest
  longest-kept at longest old best = ((kept longest best.0.0, best.0.1), λ other h. best.1 other (old other h.0 h.1, h.1))

  -- with one more that is not empty, ends behind all others, and is the best of what ends there
  pub covers-joined : (runs : List Occurrence) (upto : ℕ) (m : Occurrence) → Covers Old runs upto → upto < m.end → m.start < m.end → New m → ((x : Occurrence) → Old x → x.end ≤ upto)
      → ((x : Occurrence) → New x → Old x ⊎ IsAdded m x) → Covers New (joined_runs runs m) m.end
  covers-joined runs upto m covers behind some own ends new = record {
    ordered = joined-in_order runs m upto covers.ordered some;
    only = λ at c. elim (joined-only runs m at c) [
      | inl old ↦ (let d = covers.only at old in record { found = d.found; member = kept d.found d.member; after_start = d.after_start; before_end = d.before_end })
      | inr lies ↦ record { found = m; member = own; after_start = lies.0; before_end = lies.1 }
    ];
    has = λ at c.
        joined-has runs m at (record { in_order = covers.ordered.in_order; full = covers.ordered.full; within = λ x there. omega (arith, covers.ordered.within x there) }) some
        (elim (new c.found c.member) [
          | inl old ↦ inl (covers.has at (record { found = c.found; member = old; after_start = c.after_start; before_end = c.before_end }))
          | inr added ↦ inr (omega (arith, added-starts m c.found added, c.after_start), omega (arith, added.0, c.before_end))
        ]);
    named = λ x there. elim (member-of_joined runs m x there) [
      | inl old ↦
          (let longest = covers.named x old.0 in
          let low : x.start < m.start = omega (arith, old.1, covers.ordered.full x old.0) in
          (longest.0, longest-kept x.start longest.0 (before x.start low) longest.1, longest.2))
      | inr last ↦
          elim last.1 [
            | inl first ↦ (m, ((own, sym first.0), λ other h. beats x.start first.0 other h.0 h.1), first.1)
            | inr other ↦
                (let longest = covers.named other.1.0 other.1.1 in
                (longest.0, longest-kept x.start longest.0 (before x.start other.0) (subst (λ (at : ℕ). IsLongestFrom Old at longest.0) other.1.3 longest.1), sym other.1.4 ∙ longest.2))
          ]
    ];
  } where
    before : (at : ℕ) → at < m.start → (x : Occurrence) → New x → x.start ≡ at → Old x
    before at low x h e = elim (new x h) [ inl old ↦ old | inr added ↦ absurd (omega (arith, added-starts m x added)) ]

    beats : (at : ℕ) → at ≡ m.start → (x : Occurrence) → New x → x.start ≡ at → (x ≡ m) ⊎ IsBefore LeftmostLongest m x
    beats at e x h f =
        elim (new x h) [
          | inl old ↦ inr (inr (omega arith, inl (omega (arith, ends x old))))
          | inr added ↦
              elim added.1 [
                | inl same ↦ inl same
                | inr later ↦ elim later [
                  | inl starts ↦ absurd (omega arith)
                  | inr number ↦ inr (inr (number.0, inr (sym added.0, number.1)))
                ]
              ]
        ]

  -- with more that are empty and lie behind all runs
  pub covers-same : (runs : List Occurrence) (upto next : ℕ) → Covers Old runs upto → upto ≤ next → ((x : Occurrence) → New x → Old x ⊎ ((upto ≤ x.start) × (x.end ≤ x.start))) → Covers New runs next
  covers-same runs upto next covers later new = record {
    ordered = record { in_order = covers.ordered.in_order; full = covers.ordered.full; within = λ x there. omega (arith, covers.ordered.within x there) };
    only = λ at c. let d = covers.only at c in record { found = d.found; member = kept d.found d.member; after_start = d.after_start; before_end = d.before_end };
    has = λ at c. elim (new c.found c.member) [
      | inl old ↦ covers.has at (record { found = c.found; member = old; after_start = c.after_start; before_end = c.before_end })
      | inr empty ↦ absurd (omega (arith, empty, c.after_start, c.before_end))
    ];
    named = λ x there.
        let longest = covers.named x there in
        (longest.0, longest-kept x.start longest.0 (λ other h e. elim (new other h) [ inl old ↦ old | inr empty ↦ absurd (omega (arith, e, empty.0, covers.ordered.full x there, covers.ordered.within x there)) ]) longest.1, longest.2);
  }
