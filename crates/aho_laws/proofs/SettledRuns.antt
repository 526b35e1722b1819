-- Runs that nothing later can touch stay as they are, and few others are open at once.
use Rattle.std.proofs.Common.{◌≡◌, inl, inr, ℕ, zero, suc, ◌+◌, ◌-◌, ◌*◌, ◌<◌, ◌≤◌, List, [], ◌∷◌, ◌++◌, length, map, refl, sym, ◌∙◌, ap, subst, arith}
use Rattle.std.specs.Prelude.{nat_lt}
use Rattle.std.proofs.lemmas.Bool.{cases_lt, cond-true, cond-false, lt-ltb, le-ltb}
use Rattle.aho_core.specs.declared.search.Anchored.TheVariants.{No}
use Rattle.aho_core.specs.Laws.{longest}
use Rattle.aho_core.specs.Listing.{IsMember}
use Rattle.aho_core.specs.Occurrence.{Occurrence}
use Rattle.aho_core.specs.Occurs.{Occurs}
use Rattle.aho_core.specs.Overlapping.{occurrences_ending}
use Rattle.aho_core.specs.Patterns.{Patterns}
use Rattle.aho_laws.specs.CoverLaws.{AreInOrder, EndBefore, extended, joined_first, joined_runs, runs_upto}
use Rattle.aho_laws.proofs.CoverRuns.{in_order-rest, joined-in_order, member-of_joined}
use Rattle.aho_laws.proofs.Listed.{member-left, member-of_append, member-right}
use Rattle.aho_laws.proofs.Listings.{occurrences_ending-only}
use Rattle.aho_laws.proofs.OverlappingParts.{longest-least}

-- the last runs are in order too
pub in_order-last : (front rest : List Occurrence) (upto : ℕ) → AreInOrder (front ++ rest) upto → AreInOrder rest upto
in_order-last [] rest upto h = h
in_order-last (x ∷ front) rest upto h = in_order-last front rest upto (in_order-rest x (front ++ rest) upto h)

-- and each of the first ends before each of the last
pub in_order-parts : (front rest : List Occurrence) (upto : ℕ) → AreInOrder (front ++ rest) upto → (x y : Occurrence) → IsMember front x → IsMember rest y → x.end < y.start
in_order-parts [] rest upto h x y in_front in_rest = absurd in_front
in_order-parts (z ∷ front) rest upto h x y in_front in_rest =
    elim in_front [
      | inl e ↦ subst (λ (w : Occurrence). w.end < y.start) (sym e) (h.in_order.0 y (member-right front rest y in_rest))
      | inr there ↦ in_order-parts front rest upto (in_order-rest z (front ++ rest) upto h) x y there in_rest
    ]

-- the first runs are in order
pub in_order-first : (front rest : List Occurrence) (upto : ℕ) → AreInOrder (front ++ rest) upto → AreInOrder front upto
in_order-first [] rest upto h = record { in_order = tt; full = λ x there. absurd there; within = λ x there. absurd there }
in_order-first (run ∷ front) rest upto h =
    let later = in_order-first front rest upto (in_order-rest run (front ++ rest) upto h) in
    record {
      in_order = ((λ x there. h.in_order.0 x (member-left front rest x there)), later.in_order);
      full = λ x there. h.full x (member-left (run ∷ front) rest x there);
      within = λ x there. h.within x (member-left (run ∷ front) rest x there);
    }

-- where the last ends before a place, all do
pub end-before : (front : List Occurrence) (last : Occurrence) (upto place : ℕ) → AreInOrder (front ++ last ∷ []) upto → last.end < place → EndBefore (front ++ last ∷ []) place
end-before front last upto place h before x there =
    elim (member-of_append front (last ∷ []) x there) [
      | inl first ↦ omega (arith, in_order-parts front (last ∷ []) upto h x last first (inl refl), h.full last (member-right front (last ∷ []) last (inl refl)))
      | inr end ↦ elim end [ inl e ↦ omega (arith, ap (λ (o : Occurrence). o.end) e) | inr none ↦ absurd none ]
    ]

-- a run with what touches it has a byte, and ends where that does
pub extended-full : (run m : Occurrence) → run.start < run.end → run.end ≤ m.end → m.start < m.end → ((extended run m).end ≡ m.end) × ((extended run m).start < m.end)
extended-full run m full within some =
    let long : Occurrence = record { pattern = run.pattern; start = run.start; end = m.end } in
    elim (cases_lt run.start m.start) [
      | inl before ↦
          (let is : extended run m ≡ long = cond-true (nat_lt run.start m.start) long m (lt-ltb run.start m.start before) in
          (ap (λ (o : Occurrence). o.end) is, subst (λ (o : Occurrence). o.start < m.end) (sym is) (omega arith)))
      | inr behind ↦
          (let is : extended run m ≡ m = cond-false (nat_lt run.start m.start) long m (le-ltb run.start m.start behind) in
          (ap (λ (o : Occurrence). o.end) is, subst (λ (o : Occurrence). o.start < m.end) (sym is) some))
    ]

-- runs that an occurrence does not touch stay
pub joined-behind : (front rest : List Occurrence) (m : Occurrence) → EndBefore front m.start → joined_runs (front ++ rest) m ≡ front ++ joined_runs rest m
joined-behind [] rest m behind = refl
joined-behind (run ∷ front) rest m behind =
    cond-true (nat_lt run.end m.start) (run ∷ joined_runs (front ++ rest) m) (extended run m ∷ []) (lt-ltb run.end m.start (behind run (inl refl)))
    ∙ ap (λ (runs : List Occurrence). run ∷ runs) (joined-behind front rest m (λ x there. behind x (inr there)))

-- one that it touches may be joined to it first
pub joined-touched : (front : List Occurrence) (last m : Occurrence) (upto : ℕ) → AreInOrder (front ++ last ∷ []) upto → m.start ≤ last.end → joined_runs (front ++ last ∷ []) m ≡ joined_runs front (extended last m)
joined-touched [] last m upto h touches = cond-false (nat_lt last.end m.start) (last ∷ m ∷ []) (extended last m ∷ []) (le-ltb last.end m.start touches)
joined-touched (run ∷ front) last m upto h touches =
    let apart : run.end < last.start = h.in_order.0 last (member-right front (last ∷ []) last (inl refl)) in
    let long : Occurrence = record { pattern = last.pattern; start = last.start; end = m.end } in
    let again = joined-touched front last m upto (in_order-rest run (front ++ last ∷ []) upto h) touches in
    elim (cases_lt last.start m.start) [
      | inl before ↦
          (let is : extended last m ≡ long = cond-true (nat_lt last.start m.start) long m (lt-ltb last.start m.start before) in
          cond-true (nat_lt run.end m.start) (run ∷ joined_runs (front ++ last ∷ []) m) (extended run m ∷ []) (lt-ltb run.end m.start (omega arith))
          ∙ ap (λ (runs : List Occurrence). run ∷ runs) again
          ∙ sym (cond-true (nat_lt run.end (extended last m).start) (run ∷ joined_runs front (extended last m)) (extended run (extended last m) ∷ [])
          (lt-ltb run.end (extended last m).start (subst (λ (o : Occurrence). run.end < o.start) (sym is) apart))))
      | inr behind ↦
          (let is : extended last m ≡ m = cond-false (nat_lt last.start m.start) long m (le-ltb last.start m.start behind) in
          let tail : joined_runs (front ++ last ∷ []) m ≡ joined_runs front m = again ∙ ap (joined_runs front) is in
          elim (cases_lt run.end m.start) [
            | inl before ↦
                cond-true (nat_lt run.end m.start) (run ∷ joined_runs (front ++ last ∷ []) m) (extended run m ∷ []) (lt-ltb run.end m.start before)
                ∙ ap (λ (runs : List Occurrence). run ∷ runs) tail
                ∙ sym (cond-true (nat_lt run.end m.start) (run ∷ joined_runs front m) (extended run m ∷ []) (lt-ltb run.end m.start before))
                ∙ sym (ap (joined_runs (run ∷ front)) is)
            | inr touching ↦
                cond-false (nat_lt run.end m.start) (run ∷ joined_runs (front ++ last ∷ []) m) (extended run m ∷ []) (le-ltb run.end m.start touching)
                ∙ sym (cond-false (nat_lt run.end m.start) (run ∷ joined_runs front m) (extended run m ∷ []) (le-ltb run.end m.start touching))
                ∙ sym (ap (joined_runs (run ∷ front)) is)
          ])
    ]

-- runs that end behind a place are few: each has a byte, and a byte lies between two
pub few-open : (runs : List Occurrence) (low upto : ℕ) → AreInOrder runs upto → ((x : Occurrence) → IsMember runs x → low ≤ x.end) → 2 * length runs ≤ upto + 2 - low
few-open [] low upto h ends = omega arith
few-open (run ∷ runs) low upto h ends =
    let rest = few-open runs (run.end + 2) upto (in_order-rest run runs upto h) (λ x there. omega (arith, h.in_order.0 x there, h.full x (inr there))) in
    omega (arith, rest, ends run (inl refl), h.within run (inl refl))

-- so they are when one more is joined
pub few-joined : (runs : List Occurrence) (low upto : ℕ) (m : Occurrence) → AreInOrder runs upto → ((x : Occurrence) → IsMember runs x → low ≤ x.end) → low ≤ m.end → m.start < m.end → 2 * length (joined_runs runs m) ≤ m.end + 2 - low
few-joined runs low upto m h ends later some =
    few-open (joined_runs runs m) low m.end (joined-in_order runs m upto h some) (λ x there. elim (member-of_joined runs m x there) [ inl kept ↦ ends x kept.0 | inr last ↦ omega (arith, last.0) ])

module _ (p : Patterns) (haystack : List ℕ) where
  -- no occurrence is longer than the longest pattern
  pub occurrence-near : (m : Occurrence) (start end : ℕ) → Occurs p No haystack start end m → m.end ≤ m.start + longest (map length p.words)
  occurrence-near m start end h = omega (arith, h.sized, longest-least p.words m.pattern h.numbered)

  -- what ends behind a place starts behind each of these
  abbrev pub AreSettled : List Occurrence → ℕ → Type 0
  AreSettled runs at = (x : Occurrence) → IsMember runs x → (m : Occurrence) → Occurs p No haystack 0 (length haystack) m → at < m.end → x.end < m.start

  -- so they are the first runs of each longer part
  pub settled-stay : (n : ℕ) (front rest : List Occurrence) (at : ℕ) → runs_upto p haystack at ≡ front ++ rest → AreSettled front at → at + n ≤ length haystack → (later : List Occurrence) × (runs_upto p haystack (at + n) ≡ front ++ later)
  settled-stay zero front rest at is settled within = let same : at + 0 ≡ at = omega arith in (rest, ap (runs_upto p haystack) same ∙ is)
  settled-stay (suc n) front rest at is settled within =
      let before = settled-stay n front rest at is settled (omega arith) in
      let place : at + suc n ≡ suc (at + n) = omega arith in
      let more = one_more (occurrences_ending p haystack 0 (suc (at + n))) (λ m there. occurrences_ending-only p haystack 0 (suc (at + n)) m (omega arith) there) before.0 in
      (more.0, ap (runs_upto p haystack) place ∙ ap (λ (runs : List Occurrence). joined_first runs (occurrences_ending p haystack 0 (suc (at + n)))) before.1 ∙ more.1)
    where
      one_more : (list : List Occurrence) → ((m : Occurrence) → IsMember list m → Occurs p No haystack 0 (suc (at + n)) m × (m.end ≡ suc (at + n))) → (runs : List Occurrence)
          → (later : List Occurrence) × (joined_first (front ++ runs) list ≡ front ++ later)
      one_more [] only runs = (runs, refl)
      one_more (m ∷ ms) only runs =
          let first = only m (inl refl) in
          let here : Occurs p No haystack 0 (length haystack) m = record { numbered = first.0.numbered; after_start = first.0.after_start; before_end = omega (arith, first.1); sized = first.0.sized; same = first.0.same; admitted = λ e. cc } in
          elim (cases_lt m.start m.end) [
            | inl some ↦ (
              joined_runs runs m,
              cond-true (nat_lt m.start m.end) (joined_runs (front ++ runs) m) (front ++ runs) (lt-ltb m.start m.end some)
                  ∙ joined-behind front runs m (λ x there. settled x there m here (omega (arith, first.1))),
            )
            | inr empty ↦ (runs, cond-false (nat_lt m.start m.end) (joined_runs (front ++ runs) m) (front ++ runs) (le-ltb m.start m.end empty))
          ]

-- a run of them has a byte, and ends where they may
pub run-fits : (runs front : List Occurrence) (last : Occurrence) (upto : ℕ) → runs ≡ front ++ last ∷ [] → AreInOrder runs upto → (last.start < last.end) × (last.end ≤ upto)
run-fits runs front last upto e h =
    let there : IsMember runs last = subst (λ (xs : List Occurrence). IsMember xs last) (sym e) (member-right front (last ∷ []) last (inl refl)) in
    (h.full last there, h.within last there)

-- what touches none comes behind them
pub joined-apart : (runs : List Occurrence) (m : Occurrence) → EndBefore runs m.start → joined_runs runs m ≡ runs ++ m ∷ []
joined-apart [] m apart = refl
joined-apart (run ∷ runs) m apart =
    cond-true (nat_lt run.end m.start) (run ∷ joined_runs runs m) (extended run m ∷ []) (lt-ltb run.end m.start (apart run (inl refl)))
    ∙ ap (λ (xs : List Occurrence). run ∷ xs) (joined-apart runs m (λ x there. apart x (inr there)))

-- at most one run more
pub joined-length : (runs : List Occurrence) (m : Occurrence) → length (joined_runs runs m) ≤ length runs + 1
joined-length [] m = omega arith
joined-length (run ∷ runs) m =
    elim (cases_lt run.end m.start) [
      | inl before ↦ omega (arith, joined-length runs m, ap length (cond-true (nat_lt run.end m.start) (run ∷ joined_runs runs m) (extended run m ∷ []) (lt-ltb run.end m.start before)))
      | inr touches ↦ omega (arith, ap length (cond-false (nat_lt run.end m.start) (run ∷ joined_runs runs m) (extended run m ∷ []) (le-ltb run.end m.start touches)))
    ]
