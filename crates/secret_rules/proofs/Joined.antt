-- Occurrences that are joined to runs, in the order in which they start.
use Rattle.std.proofs.Common.{◌≡◌, inl, inr, ℕ, ◌+◌, ◌<◌, ◌≤◌, List, [], ◌∷◌, ◌++◌, refl, sym, ◌∙◌, ap, subst, arith}
use Rattle.std.specs.Prelude.{◌⊎◌, Option, None, Some, max}
use Rattle.std.proofs.lemmas.Bool.{cases_lt}
use Rattle.aho_core.specs.declared.search.MatchKind.TheVariants.{LeftmostLongest}
use Rattle.aho_core.specs.Cover.{AreRunsOf, IsCovered, IsLongestFrom, IsRunOf}
use Rattle.aho_core.specs.Listing.{IsListedBy, IsMember}
use Rattle.aho_core.specs.Occurrence.{Occurrence}
use Rattle.aho_core.specs.Order.{IsBefore}
use Rattle.aho_laws.specs.CoverLaws.{StandApart}
use Rattle.aho_laws.proofs.CoverRuns.{Lies, runs-covering}
use Rattle.aho_laws.proofs.Listed.{listed-append, member-left, member-of_append, member-right}
use Rattle.aho_laws.proofs.Orders.{IsBefore-trans, same_occurrence}
use Rattle.secret_rules.specs.Joining.{Beats, IsGrown, JoinsOne, closed, opened, with_hand}
use Rattle.secret_rules.specs.declared.joining.Open.{Open}

-- the longest member that begins at a place has this number
abbrev pub IsNamed : (Occurrence → Type 0) → ℕ → ℕ → Type 0
IsNamed Member at number = (longest : Occurrence) × IsLongestFrom Member at longest × (number ≡ longest.pattern)

-- the runs of some members, and the one in hand
pub record AreJoined (Member : Occurrence → Type 0) (runs : List Occurrence) (hand : Open) : Type 0 where
  pub in_order : IsListedBy StandApart runs
  pub full : (x : Occurrence) → IsMember runs x → x.start < x.end
  pub before : (x : Occurrence) → IsMember runs x → x.end < hand.longest.start
  pub some : hand.longest.start < hand.end
  pub only : (at : ℕ) → IsCovered (IsMember runs) at ⊎ Lies at (closed hand) → IsCovered Member at
  pub has : (at : ℕ) → IsCovered Member at → IsCovered (IsMember runs) at ⊎ Lies at (closed hand)
  pub named : (x : Occurrence) → IsMember runs x → IsNamed Member x.start x.pattern
  pub first : IsLongestFrom Member hand.longest.start hand.longest

beats-before : (m longest : Occurrence) → Beats m longest → IsBefore LeftmostLongest m longest
beats-before m longest more = inr (more.0, more.1)

-- one beats another or not
cases-beats : (m longest : Occurrence) → Beats m longest ⊎ (Beats m longest → ⊥)
cases-beats m longest =
    elim (cases_lt m.start longest.start) [
      | inl before ↦ inr (λ b. omega (arith, b.0))
      | inr after ↦
          elim (cases_lt longest.start m.start) [
            | inl behind ↦ inr (λ b. omega (arith, b.0))
            | inr here ↦
                elim (cases_lt longest.end m.end) [
                  | inl longer ↦ inl (omega arith, inl longer)
                  | inr most ↦
                      elim (cases_lt m.end longest.end) [
                        | inl shorter ↦ inr (λ b. elim b.1 [ inl l ↦ omega arith | inr l ↦ omega (arith, l.0) ])
                        | inr equal ↦
                            elim (cases_lt m.pattern longest.pattern) [
                              | inl smaller ↦ inl (omega arith, inr (omega arith, smaller))
                              | inr greater ↦ inr (λ b. elim b.1 [ inl l ↦ omega arith | inr l ↦ omega (arith, l.1) ])
                            ]
                      ]
                ]
          ]
    ]

-- one that begins where the longest does and does not beat it is the longest, or behind it
loses : (m longest : Occurrence) → m.start ≡ longest.start → (Beats m longest → ⊥) → (m ≡ longest) ⊎ IsBefore LeftmostLongest longest m
loses m longest starts lost =
    elim (cases_lt m.end longest.end) [
      | inl shorter ↦ inr (inr (sym starts, inl shorter))
      | inr longer ↦
          elim (cases_lt longest.end m.end) [
            | inl more ↦ absurd (lost (starts, inl more))
            | inr equal ↦
                (let ends : m.end ≡ longest.end = omega arith in
                elim (cases_lt longest.pattern m.pattern) [
                  | inl greater ↦ inr (inr (sym starts, inr (sym ends, greater)))
                  | inr smaller ↦
                      elim (cases_lt m.pattern longest.pattern) [
                        | inl less ↦ absurd (lost (starts, inr (ends, less)))
                        | inr same ↦ inl (same_occurrence m longest (omega arith) starts ends)
                      ]
                ])
          ]
    ]

-- what is so of some runs and of one more
of_last : (P : Occurrence → Type 0) (runs : List Occurrence) (last x : Occurrence) → IsMember (runs ++ last ∷ []) x → (IsMember runs x → P x) → P last → P x
of_last P runs last x there earlier own =
    elim (member-of_append runs (last ∷ []) x there) [
      | inl old ↦ earlier old
      | inr one ↦ elim one [ inl e ↦ subst P (sym e) own | inr none ↦ absurd none ]
    ]

-- they stand apart and in order
listed-last : (runs : List Occurrence) (last : Occurrence) → IsListedBy StandApart runs → ((x : Occurrence) → IsMember runs x → x.end < last.start) → IsListedBy StandApart (runs ++ last ∷ [])
listed-last runs last in_order before =
    listed-append StandApart runs (last ∷ []) in_order ((λ later none. absurd none), tt)
    (λ x y in_x in_y. elim in_y [ inl e ↦ subst (λ (o : Occurrence). x.end < o.start) (sym e) (before x in_x) | inr none ↦ absurd none ])

-- what they cover
lies-in : (at : ℕ) (m x : Occurrence) → x ≡ m → x.start ≤ at → at < x.end → Lies at m
lies-in at m x e after before = (subst (λ (o : Occurrence). o.start ≤ at) e after, subst (λ (o : Occurrence). at < o.end) e before)

covered-of_last : (runs : List Occurrence) (last : Occurrence) (at : ℕ) → IsCovered (IsMember (runs ++ last ∷ [])) at → IsCovered (IsMember runs) at ⊎ Lies at last
covered-of_last runs last at c =
    elim (member-of_append runs (last ∷ []) c.found c.member) [
      | inl old ↦ inl (record { found = c.found; member = old; after_start = c.after_start; before_end = c.before_end })
      | inr one ↦ elim one [ inl e ↦ inr (lies-in at last c.found e c.after_start c.before_end) | inr none ↦ absurd none ]
    ]

covered-last : (runs : List Occurrence) (last : Occurrence) (at : ℕ) → IsCovered (IsMember runs) at ⊎ Lies at last → IsCovered (IsMember (runs ++ last ∷ [])) at
covered-last runs last at h =
    elim h [
      | inl c ↦ record { found = c.found; member = member-left runs (last ∷ []) c.found c.member; after_start = c.after_start; before_end = c.before_end }
      | inr lies ↦ record { found = last; member = member-right runs (last ∷ []) last (inl refl); after_start = lies.0; before_end = lies.1 }
    ]

-- one more member, which is not empty and begins behind all others or where the last of them do
pub record IsOneMore (Old New : Occurrence → Type 0) (m : Occurrence) : Type 0 where
  pub kept : (x : Occurrence) → Old x → New x
  pub own : New m
  pub new : (x : Occurrence) → New x → Old x ⊎ (x ≡ m)
  pub some : m.start < m.end
  pub full : (x : Occurrence) → Old x → x.start < x.end
  pub behind : (x : Occurrence) → Old x → x.start ≤ m.start

module _ (Old New : Occurrence → Type 0) (m : Occurrence) (one : IsOneMore Old New m) where
  covered-kept : (at : ℕ) → IsCovered Old at → IsCovered New at
  covered-kept at c = record { found = c.found; member = one.kept c.found c.member; after_start = c.after_start; before_end = c.before_end }

  covered-own : (at : ℕ) → m.start ≤ at → at < m.end → IsCovered New at
  covered-own at after before = record { found = m; member = one.own; after_start = after; before_end = before }

  covered-new : (at : ℕ) → IsCovered New at → IsCovered Old at ⊎ Lies at m
  covered-new at c =
      elim (one.new c.found c.member) [
        | inl old ↦ inl (record { found = c.found; member = old; after_start = c.after_start; before_end = c.before_end })
        | inr e ↦ inr (lies-in at m c.found e c.after_start c.before_end)
      ]

  starts-earlier : (at : ℕ) → at < m.start → (x : Occurrence) → New x → x.start ≡ at → Old x
  starts-earlier at low x h e = elim (one.new x h) [ inl old ↦ old | inr same ↦ absurd (omega (arith, ap (λ (o : Occurrence). o.start) same)) ]

  longest-earlier : (at : ℕ) (longest : Occurrence) → at < m.start → IsLongestFrom Old at longest → IsLongestFrom New at longest
  longest-earlier at longest low best = ((one.kept longest best.0.0, best.0.1), λ other h. best.1 other (starts-earlier at low other h.0 h.1, h.1))

  named-earlier : (at number : ℕ) → at < m.start → IsNamed Old at number → IsNamed New at number
  named-earlier at number low named = (named.0, longest-earlier at named.0 low named.1, named.2)

  -- where no earlier one begins
  longest-own : ((x : Occurrence) → Old x → x.start ≡ m.start → ⊥) → IsLongestFrom New m.start m
  longest-own clear = ((one.own, refl), λ other h. elim (one.new other h.0) [ inl old ↦ absurd (clear other old h.1) | inr e ↦ inl e ])

  -- the first of all
  pub AreJoined-opened : ((x : Occurrence) → Old x → ⊥) → AreJoined New [] (opened m)
  AreJoined-opened none = record {
    in_order = tt;
    full = λ x there. absurd there;
    before = λ x there. absurd there;
    some = one.some;
    only = λ at h. elim h [ inl c ↦ absurd c.member | inr lies ↦ covered-own at lies.0 lies.1 ];
    has = λ at c. elim (covered-new at c) [ inl d ↦ absurd (none d.found d.member) | inr lies ↦ inr lies ];
    named = λ x there. absurd there;
    first = longest-own (λ x old e. none x old);
  }

  module _ (runs : List Occurrence) (hand : Open) (joined : AreJoined Old runs hand) where
    -- the run in hand ends before it: no earlier member begins where this does
    clear-apart : hand.end < m.start → (x : Occurrence) → Old x → x.start ≡ m.start → ⊥
    clear-apart apart x old e =
        elim (joined.has m.start (record { found = x; member = old; after_start = omega arith; before_end = omega (arith, one.full x old) })) [
          | inl c ↦ absurd (omega (arith, c.before_end, joined.before c.found c.member, joined.some))
          | inr lies ↦ absurd (omega (arith, lies.1))
        ]

    pub AreJoined-apart : hand.end < m.start → AreJoined New (runs ++ closed hand ∷ []) (opened m)
    AreJoined-apart apart = record {
      in_order = listed-last runs (closed hand) joined.in_order joined.before;
      full = λ x there. of_last (λ o. o.start < o.end) runs (closed hand) x there (joined.full x) joined.some;
      before = λ x there. of_last (λ o. o.end < m.start) runs (closed hand) x there (λ old. omega (arith, joined.before x old, joined.some)) apart;
      some = one.some;
      only = λ at h. elim h [
        | inl c ↦ covered-kept at (joined.only at (covered-of_last runs (closed hand) at c))
        | inr lies ↦ covered-own at lies.0 lies.1
      ];
      has = λ at c. elim (covered-new at c) [
        | inl old ↦ inl (covered-last runs (closed hand) at (joined.has at old))
        | inr lies ↦ inr lies
      ];
      named = λ x there. of_last (λ o. IsNamed New o.start o.pattern) runs (closed hand) x there
          (λ old. named-earlier x.start x.pattern (omega (arith, joined.full x old, joined.before x old, joined.some)) (joined.named x old))
          (named-earlier hand.longest.start hand.longest.pattern (omega (arith, joined.some)) (hand.longest, joined.first, refl));
      first = longest-own (clear-apart apart);
    }

    -- it touches the run in hand
    hand-starts : hand.longest.start ≤ m.start
    hand-starts = one.behind hand.longest joined.first.0.0

    -- and beats the longest
    longest-beats : Beats m hand.longest → IsLongestFrom New m.start m
    longest-beats more = (
      (one.own, refl),
      λ other h. elim (one.new other h.0) [
        | inl old ↦ elim (joined.first.1 other (old, omega (arith, h.1, more.0))) [
          | inl e ↦ inr (subst (IsBefore LeftmostLongest m) (sym e) (beats-before m hand.longest more))
          | inr later ↦ inr (IsBefore-trans LeftmostLongest m hand.longest other (beats-before m hand.longest more) later)
        ]
        | inr same ↦ inl same
      ],
    )

    -- or does not
    longest-stays : (Beats m hand.longest → ⊥) → IsLongestFrom New hand.longest.start hand.longest
    longest-stays lost = (
      (one.kept hand.longest joined.first.0.0, refl),
      λ other h. elim (one.new other h.0) [
        | inl old ↦ joined.first.1 other (old, h.1)
        | inr e ↦ elim (loses m hand.longest (omega (arith, h.1, ap (λ (o : Occurrence). o.start) e)) lost) [
          | inl f ↦ inl (e ∙ f)
          | inr f ↦ inr (subst (IsBefore LeftmostLongest hand.longest) (sym e) f)
        ]
      ],
    )

    longest-grown : (grown : Open) → IsGrown hand m grown → IsLongestFrom New grown.longest.start grown.longest × (grown.longest.start ≡ hand.longest.start)
    longest-grown grown is =
        elim (cases-beats m hand.longest) [
          | inl more ↦ (
            subst (λ (l : Occurrence). IsLongestFrom New l.start l) (sym (is.named more)) (longest-beats more),
            ap (λ (l : Occurrence). l.start) (is.named more) ∙ more.0,
          )
          | inr lost ↦ (
            subst (λ (l : Occurrence). IsLongestFrom New l.start l) (sym (is.kept lost)) (longest-stays lost),
            ap (λ (l : Occurrence). l.start) (is.kept lost),
          )
        ]

    pub AreJoined-grown : (grown : Open) → m.start ≤ hand.end → IsGrown hand m grown → AreJoined New runs grown
    AreJoined-grown grown touches is =
        let longest = longest-grown grown is in
        let starts : grown.longest.start ≡ hand.longest.start = longest.1 in
        let ends : grown.end ≡ max hand.end m.end = is.end in
        let low : hand.longest.start ≤ m.start = hand-starts in
        record {
          in_order = joined.in_order;
          full = joined.full;
          before = λ x there. omega (arith, joined.before x there);
          some = omega (arith, joined.some);
          only = λ at h. elim h [
            | inl c ↦ covered-kept at (joined.only at (inl c))
            | inr lies ↦
                elim (cases_lt at hand.end) [
                  | inl inside ↦ covered-kept at (joined.only at (inr (omega (arith, lies.0), inside)))
                  | inr outside ↦ covered-own at (omega arith) (omega (arith, lies.1))
                ]
          ];
          has = λ at c. elim (covered-new at c) [
            | inl old ↦ elim (joined.has at old) [
              | inl d ↦ inl d
              | inr lies ↦ inr (omega (arith, lies.0), omega (arith, lies.1))
            ]
            | inr lies ↦ inr (omega (arith, lies.0), omega (arith, lies.1))
          ];
          named = λ x there. named-earlier x.start x.pattern (omega (arith, joined.full x there, joined.before x there)) (joined.named x there);
          first = longest.0;
        }

-- all of them were joined: these are the runs
pub AreRunsOf-joined : (Member : Occurrence → Type 0) (runs : List Occurrence) (hand : Open) → AreJoined Member runs hand → AreRunsOf Member (runs ++ closed hand ∷ [])
AreRunsOf-joined Member runs hand joined =
    runs-covering Member (runs ++ closed hand ∷ []) hand.end (record {
      ordered = record {
        in_order = listed-last runs (closed hand) joined.in_order joined.before;
        full = λ x there. of_last (λ o. o.start < o.end) runs (closed hand) x there (joined.full x) joined.some;
        within = λ x there. of_last (λ o. o.end ≤ hand.end) runs (closed hand) x there (λ old. omega (arith, joined.before x old, joined.some)) (omega arith);
      };
      only = λ at c. joined.only at (covered-of_last runs (closed hand) at c);
      has = λ at c. covered-last runs (closed hand) at (joined.has at c);
      named = λ x there. of_last (λ o. IsNamed Member o.start o.pattern) runs (closed hand) x there (joined.named x) (hand.longest, joined.first, refl);
    })

-- there are none where there is no member
pub AreRunsOf-none : (Member : Occurrence → Type 0) → ((x : Occurrence) → Member x → ⊥) → AreRunsOf Member []
AreRunsOf-none Member none =
    runs-covering Member [] 0 (record {
      ordered = record { in_order = tt; full = λ x there. absurd there; within = λ x there. absurd there };
      only = λ at c. absurd c.member;
      has = λ at c. absurd (none c.found c.member);
      named = λ x there. absurd there;
    })

-- some occurrences in order were joined, to these runs and to the one in hand, if there is one
abbrev pub WereJoined : List Occurrence → List Occurrence → Option Open → Type 0
WereJoined found runs None = (found ≡ []) × (runs ≡ [])
WereJoined found runs (Some hand) = AreJoined (IsMember found) runs hand

pub WereJoined-more : (found runs runs' : List Occurrence) (hand : Option Open) (m : Occurrence) (hand' : Open) → WereJoined found runs hand → JoinsOne hand m runs runs' hand'
    → m.start < m.end → ((x : Occurrence) → IsMember found x → x.start < x.end) → ((x : Occurrence) → IsMember found x → x.start ≤ m.start)
    → WereJoined (found ++ m ∷ []) runs' (Some hand')
WereJoined-more found runs runs' hand m hand' were joins some full behind = by hand were joins
  where
    more : IsOneMore (IsMember found) (IsMember (found ++ m ∷ [])) m
    more = record {
      kept = λ x there. member-left found (m ∷ []) x there;
      own = member-right found (m ∷ []) m (inl refl);
      new = λ x there. elim (member-of_append found (m ∷ []) x there) [ inl old ↦ inl old | inr one ↦ elim one [ inl e ↦ inr e | inr none ↦ absurd none ] ];
      some = some;
      full = full;
      behind = behind;
    }

    by : (in_hand : Option Open) → WereJoined found runs in_hand → JoinsOne in_hand m runs runs' hand' → AreJoined (IsMember (found ++ m ∷ [])) runs' hand'
    by None none is =
        subst (λ (h : Open). AreJoined (IsMember (found ++ m ∷ [])) runs' h) (sym is.1)
        (subst (λ (rs : List Occurrence). AreJoined (IsMember (found ++ m ∷ [])) rs (opened m)) (sym (is.0 ∙ none.1))
        (AreJoined-opened (IsMember found) (IsMember (found ++ m ∷ [])) m more (λ x there. subst (λ (xs : List Occurrence). IsMember xs x) none.0 there)))
    by (Some held) joined (inl touches) =
        subst (λ (rs : List Occurrence). AreJoined (IsMember (found ++ m ∷ [])) rs hand') (sym touches.1)
        (AreJoined-grown (IsMember found) (IsMember (found ++ m ∷ [])) m more runs held joined hand' touches.0 touches.2)
    by (Some held) joined (inr apart) =
        subst (λ (h : Open). AreJoined (IsMember (found ++ m ∷ [])) runs' h) (sym apart.2)
        (subst (λ (rs : List Occurrence). AreJoined (IsMember (found ++ m ∷ [])) rs (opened m)) (sym apart.1)
        (AreJoined-apart (IsMember found) (IsMember (found ++ m ∷ [])) m more runs held joined apart.0))

pub WereJoined-runs : (found runs : List Occurrence) (hand : Option Open) → WereJoined found runs hand → AreRunsOf (IsMember found) (with_hand runs hand)
WereJoined-runs found runs None were =
    subst (AreRunsOf (IsMember found)) (sym were.1) (AreRunsOf-none (IsMember found) (λ x there. subst (λ (xs : List Occurrence). IsMember xs x) were.0 there))
WereJoined-runs found runs (Some hand) were = AreRunsOf-joined (IsMember found) runs hand were

-- the runs of the same members are the same
pub AreRunsOf-same : (One Other : Occurrence → Type 0) (runs : List Occurrence) → ((x : Occurrence) → One x → Other x) → ((x : Occurrence) → Other x → One x) → AreRunsOf One runs → AreRunsOf Other runs
AreRunsOf-same One Other runs to back are = record {
  in_order = are.in_order;
  members = λ run. (
    λ there. (let is = (are.members run).0 there in run-same One Other to back run is),
    λ is. (are.members run).1 (run-same Other One back to run is),
  );
} where
  covered-same : (P Q : Occurrence → Type 0) (at : ℕ) → ((x : Occurrence) → P x → Q x) → IsCovered P at → IsCovered Q at
  covered-same P Q at f c = record { found = c.found; member = f c.found c.member; after_start = c.after_start; before_end = c.before_end }

  run-same : (P Q : Occurrence → Type 0) → ((x : Occurrence) → P x → Q x) → ((x : Occurrence) → Q x → P x) → (run : Occurrence) → IsRunOf P run → IsRunOf Q run
  run-same P Q f h run is = record {
    stretch = record {
      some = is.stretch.some;
      covered = λ at after before. covered-same P Q at f (is.stretch.covered at after before);
      begins = λ at next c. is.stretch.begins at next (covered-same Q P at h c);
      ends = λ c. is.stretch.ends (covered-same Q P run.end h c);
    };
    longest = is.longest;
    longest_is = ((f is.longest is.longest_is.0.0, is.longest_is.0.1), λ other o. is.longest_is.1 other (h other o.0, o.1));
    named = is.named;
  }
