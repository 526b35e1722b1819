-- How far the cover of a stream has come, from one run that is written to the next, and from one byte to the next.
use Rattle.aho_cover.specs.Covers.{covered_up_to}
use Rattle.std.proofs.Common.{◌≡◌, inl, inr, ℕ, zero, suc, ◌+◌, ◌-◌, ◌<◌, ◌≤◌, max, Bool, List, [], ◌∷◌, ◌++◌, length, map, take, refl, sym, ◌∙◌, ap, subst, arith, append_assoc, append-nil}
use Rattle.std.specs.Prelude.{nat_lt, slice_range}
use Rattle.std.specs.Io.{StartsWith}
use Rattle.std.proofs.lemmas.Bool.{cases_lt, cond-true, cond-false, lt-ltb, le-ltb}
use Rattle.std.proofs.lemmas.List.{drop_all, take_all}
use Rattle.aho_core.specs.declared.search.Anchored.TheVariants.{No}
use Rattle.aho_core.specs.Listing.{IsMember}
use Rattle.aho_core.specs.Occurrence.{Occurrence}
use Rattle.aho_core.specs.Occurs.{Occurs}
use Rattle.aho_core.specs.Overlapping.{occurrences_ending}
use Rattle.aho_core.specs.Patterns.{Patterns}
use Rattle.aho_core.specs.Replacement.{replaced_from}
use Rattle.aho_laws.specs.CoverLaws.{joined_first, joined_runs, AreInOrder}
use Rattle.aho_laws.proofs.CoverRuns.{member-of_joined}
use Rattle.aho_laws.proofs.Listed.{member-of_append}
use Rattle.aho_laws.proofs.Listings.{occurrences_ending-only}
use Rattle.aho_laws.proofs.SettledRuns.{joined-behind, occurrence-near, in_order-last}
use Rattle.aho_cover.specs.declared.hand.Hand.{Hand}
use Rattle.aho_cover.specs.declared.progress.CoverProgress.{CoverProgress}
use Rattle.aho_cover.specs.Counting.{Output, put_on}
use Rattle.aho_cover.specs.Hand.{held_runs}
use Rattle.aho_cover.specs.Pieces.{EndsAmong, PieceRule, cover_with, covered_through, piece_in}
use Rattle.aho_cover.specs.Progress.{HasCovered, IsAll, IsBeginning, copied_to, open_place}
use Rattle.aho_cover.specs.Walks.{NoneReaches}
use Rattle.aho_cover.specs.Words.{all_runs, ending_with, runs_with}
use Rattle.aho_cover.proofs.Chosen.{all-covers, counted-member, kept-enough}
use Rattle.aho_cover.proofs.Copied.{begins_longer, begins_shorter, begins_with, copied-more, copied-rest, copied-run, copied-through, nothing_between, covered-copied, through-run}

-- each begins at a place or behind it
abbrev pub BeginBehind : List Occurrence → ℕ → Type 0
BeginBehind runs place = (x : Occurrence) → IsMember runs x → place ≤ x.start

-- what is joined begins no sooner
pub joined-start : (runs : List Occurrence) (m : Occurrence) (place : ℕ) → BeginBehind runs place → place ≤ m.start → BeginBehind (joined_runs runs m) place
joined-start runs m place behind low x there =
    elim (member-of_joined runs m x there) [
      | inl kept ↦ behind x kept.0
      | inr last ↦ elim last.1 [
        | inl own ↦ omega (arith, own.0)
        | inr other ↦ omega (arith, behind other.1.0 other.1.1, other.1.3)
      ]
    ]

-- the first of some runs
abbrev first_or : Occurrence → List Occurrence → Occurrence
first_or other [] = other
first_or other (x ∷ runs) = x

module _ (p : Patterns) (haystack : List ℕ) where
  -- each is clear
  abbrev pub AreClear : List Occurrence → ℕ → Type 0
  AreClear runs at = (x : Occurrence) → IsMember runs x → NoneReaches p haystack at (x.end + 1)

  -- what nothing can touch stays, and what comes behind a clear place begins there or later
  stays : (n : ℕ) (words : Bool) (front rest : List Occurrence) (at place : ℕ) → runs_with words p haystack at ≡ front ++ rest → AreClear front at → NoneReaches p haystack at place → BeginBehind rest place → at + n ≤ length haystack
      → (later : List Occurrence) × (runs_with words p haystack (at + n) ≡ front ++ later) × BeginBehind later place
  stays zero words front rest at place is settled clear behind within = let same : at + 0 ≡ at = omega arith in (rest, ap (runs_with words p haystack) same ∙ is, behind)
  stays (suc n) words front rest at place is settled clear behind within =
      let before = stays n words front rest at place is settled clear behind (omega arith) in
      let next : at + suc n ≡ suc (at + n) = omega arith in
      let list = ending_with words p haystack (suc (at + n)) in
      let more = one_more list (λ m there. occurrences_ending-only p haystack 0 (suc (at + n)) m (omega arith) (counted-member words haystack (occurrences_ending p haystack 0 (suc (at + n))) m there)) before.0 before.2 in
      (more.0, ap (runs_with words p haystack) next ∙ ap (λ (runs : List Occurrence). joined_first runs list) before.1 ∙ more.1, more.2)
    where
      one_more : (list : List Occurrence) → ((m : Occurrence) → IsMember list m → Occurs p No haystack 0 (suc (at + n)) m × (m.end ≡ suc (at + n))) → (runs : List Occurrence) → BeginBehind runs place
          → (later : List Occurrence) × (joined_first (front ++ runs) list ≡ front ++ later) × BeginBehind later place
      one_more [] only runs low = (runs, refl, low)
      one_more (m ∷ ms) only runs low =
          let first = only m (inl refl) in
          let here : Occurs p No haystack 0 (length haystack) m = record { numbered = first.0.numbered; after_start = first.0.after_start; before_end = omega (arith, first.1); sized = first.0.sized; same = first.0.same; admitted = λ e. cc } in
          elim (cases_lt m.start m.end) [
            | inl some ↦ (
              joined_runs runs m,
              cond-true (nat_lt m.start m.end) (joined_runs (front ++ runs) m) (front ++ runs) (lt-ltb m.start m.end some)
                  ∙ joined-behind front runs m (λ x there. omega (arith, settled x there m here (omega (arith, first.1)))),
              joined-start runs m place low (clear m here (omega (arith, first.1))),
            )
            | inr empty ↦ (runs, cond-false (nat_lt m.start m.end) (joined_runs (front ++ runs) m) (front ++ runs) (le-ltb m.start m.end empty), low)
          ]

  -- where nothing ends that counts, the runs stay
  pub still-runs : (n at : ℕ) (words : Bool) → ((k : ℕ) → at < k → k ≤ at + n → ending_with words p haystack k ≡ []) → runs_with words p haystack (at + n) ≡ runs_with words p haystack at
  still-runs zero at words none = let same : at + 0 ≡ at = omega arith in ap (runs_with words p haystack) same
  still-runs (suc n) at words none =
      let next : at + suc n ≡ suc (at + n) = omega arith in
      ap (runs_with words p haystack) next
      ∙ ap (joined_first (runs_with words p haystack (at + n))) (none (suc (at + n)) (omega arith) (omega arith))
      ∙ still-runs n at words (λ k low high. none k low (omega arith))

  module _ (rule : PieceRule) where
    abbrev Has : CoverProgress → ℕ → Output → Type 0
    Has s at written = HasCovered rule s at p haystack written

    abbrev piece : Occurrence → List ℕ
    piece = piece_in rule haystack

    -- the runs of the whole are those that were written, and others behind them
    pub has-runs : (s : CoverProgress) (at : ℕ) (written : Output) (has : Has s at written) → BeginBehind (held_runs s.hand) s.copied
        → (later : List Occurrence) × (all_runs s.words p haystack ≡ written.runs ++ later) × BeginBehind later s.copied
    has-runs s at written has behind =
        let within : at ≤ length haystack = omega (arith, has.walked_within, has.given.within) in
        let place : at + (length haystack - at) ≡ length haystack = omega arith in
        let all = stays (length haystack - at) s.words written.runs (held_runs s.hand) at s.copied has.runs has.settled has.clear behind (omega arith) in
        (all.0, ap (runs_with s.words p haystack) (sym place) ∙ all.1, all.2)

    -- so what was written is the cover up to there
    pub has-upto : (s : CoverProgress) (at : ℕ) (written : Output) → Has s at written → BeginBehind (held_runs s.hand) s.copied → covered_up_to haystack s.copied 0 (all_runs s.words p haystack) piece ≡ written.bytes
    has-upto s at written has behind =
        let all = has-runs s at written has behind in
        let ordered = in_order-last written.runs all.0 (length haystack) (subst (λ (runs : List Occurrence). AreInOrder runs (length haystack)) all.1 (all-covers p haystack s.words).ordered) in
        ap (λ (runs : List Occurrence). covered_up_to haystack s.copied 0 runs piece) all.1
        ∙ covered-copied haystack piece 0 written.runs all.0 s.copied has.before (λ x there. (all.2 x there, ordered.full x there))
        ∙ sym has.written_is

    -- what was written begins the cover
    pub has-begun : (s : CoverProgress) (at : ℕ) (written : Output) → Has s at written → BeginBehind (held_runs s.hand) s.copied → IsBeginning s.words rule p haystack written
    has-begun s at written has behind =
        let all = has-runs s at written has behind in
        let cover : cover_with s.words p haystack rule ≡ written.bytes ++ replaced_from haystack s.copied all.0 piece =
        ap (λ (runs : List Occurrence). replaced_from haystack 0 runs piece) all.1
        ∙ copied-rest haystack piece 0 written.runs all.0 s.copied (omega arith) has.before all.2
        ∙ ap (λ (xs : List ℕ). xs ++ replaced_from haystack s.copied all.0 piece) (sym has.written_is) in
        let among : EndsAmong haystack piece written.runs all.0 written.bytes = record {
          whole = subst (λ (xs : List ℕ). StartsWith xs (covered_through haystack 0 written.runs piece)) (sym has.written_is) (copied-through haystack piece 0 written.runs s.copied);
          no_more = λ next rest is.
              let behind_all = all.2 next (subst (λ (runs : List Occurrence). IsMember runs next) (sym is) (inl refl)) in
              let more = slice_range haystack s.copied next.start ++ piece next in
              let through : covered_through haystack 0 (written.runs ++ next ∷ []) piece ≡ written.bytes ++ more =
              through-run haystack piece 0 written.runs next ∙ copied-run haystack piece 0 written.runs next s.copied (omega arith) has.before behind_all ∙ ap (λ (xs : List ℕ). xs ++ more) (sym has.written_is) in
              subst (λ (xs : List ℕ). StartsWith xs written.bytes) (sym through) (begins_with written.bytes more);
        } in
        (subst (λ (xs : List ℕ). StartsWith xs written.bytes) (sym cover) (begins_with written.bytes (replaced_from haystack s.copied all.0 piece)), (all.0, all.1, among))

    -- the runs whose pieces were written are so with more behind them
    still_whole : (words : Bool) (written : Output) (more : List ℕ) → IsBeginning words rule p haystack written → StartsWith (written.bytes ++ more) (covered_through haystack 0 (written.runs ++ []) piece)
    still_whole words written more begins =
        subst (λ (runs : List Occurrence). StartsWith (written.bytes ++ more) (covered_through haystack 0 runs piece)) (sym (append-nil written.runs))
        (begins_longer written.bytes more (covered_through haystack 0 written.runs piece) begins.1.2.whole)

    -- a part of some bytes that hold no piece
    pub begins_before : (words : Bool) (written : Output) (bytes : List ℕ) (n : ℕ) → n ≤ length bytes → IsBeginning words rule p haystack written → IsBeginning words rule p haystack (put_on written bytes []) → IsBeginning words rule p haystack (put_on written (take n bytes) [])
    begins_before words written bytes n within before after = (
      begins_shorter (cover_with words p haystack rule) written.bytes bytes n within after.0,
      (
        after.1.0,
        after.1.1,
        record {
          whole = still_whole words written (take n bytes) before;
          no_more = λ next rest is. begins_shorter (covered_through haystack 0 ((written.runs ++ []) ++ next ∷ []) piece) written.bytes bytes n within (after.1.2.no_more next rest is);
        },
      ),
    )

    -- a part of the bytes in front of a run and of its piece: the run is not among those whose pieces were written
    pub begins_within : (words : Bool) (written : Output) (bytes : List ℕ) (x : Occurrence) (n : ℕ) → n ≤ length bytes → covered_through haystack 0 (written.runs ++ x ∷ []) piece ≡ written.bytes ++ bytes → IsBeginning words rule p haystack written
        → IsBeginning words rule p haystack (put_on written bytes (x ∷ [])) → IsBeginning words rule p haystack (put_on written (take n bytes) [])
    begins_within words written bytes x n within through before after = (
      begins_shorter (cover_with words p haystack rule) written.bytes bytes n within after.0,
      (
        x ∷ after.1.0,
        after.1.1 ∙ append_assoc written.runs (x ∷ []) after.1.0 ∙ ap (λ (xs : List Occurrence). xs ++ (x ∷ after.1.0)) (sym (append-nil written.runs)),
        record {
          whole = still_whole words written (take n bytes) before;
          no_more = λ next rest is.
              let all = subst (λ (xs : List ℕ). StartsWith xs (written.bytes ++ bytes)) (sym through) (take_all (length (written.bytes ++ bytes)) (written.bytes ++ bytes) (omega arith)) in
              let first : covered_through haystack 0 (written.runs ++ x ∷ []) piece ≡ covered_through haystack 0 ((written.runs ++ []) ++ next ∷ []) piece =
              ap (λ (run : Occurrence). covered_through haystack 0 (written.runs ++ run ∷ []) piece) (ap (first_or x) is)
              ∙ ap (λ (xs : List Occurrence). covered_through haystack 0 (xs ++ next ∷ []) piece) (sym (append-nil written.runs)) in
              subst (λ (xs : List ℕ). StartsWith xs (written.bytes ++ take n bytes)) first (begins_shorter (covered_through haystack 0 (written.runs ++ x ∷ []) piece) written.bytes bytes n within all);
        },
      ),
    )

    -- at the end, with none in hand and all copied, it is the cover
    pub has-all : (s : CoverProgress) (written : Output) → Has s s.read written → length haystack ≡ s.read → held_runs s.hand ≡ [] → s.copied ≡ s.read → IsAll s.words rule p haystack written
    has-all s written has ended none all =
        let whole : all_runs s.words p haystack ≡ written.runs ++ [] = ap (runs_with s.words p haystack) ended ∙ has.runs ∙ ap (λ (runs : List Occurrence). written.runs ++ runs) none in
        let nothing : replaced_from haystack s.copied [] piece ≡ [] = drop_all s.copied haystack (omega (arith, ended, all)) in (
          sym (ap (λ (runs : List Occurrence). replaced_from haystack 0 runs piece) whole
              ∙ copied-rest haystack piece 0 written.runs [] s.copied (omega arith) has.before (λ x there. absurd there)
              ∙ ap (λ (xs : List ℕ). copied_to haystack 0 written.runs piece s.copied ++ xs) nothing
              ∙ append-nil (copied_to haystack 0 written.runs piece s.copied)
              ∙ sym has.written_is),
          sym (whole ∙ append-nil written.runs),
        )

    -- the first run in hand is written, and the bytes in front of it
    pub has-settled : (s : CoverProgress) (at place : ℕ) (written : Output) (x : Occurrence) (hand : Hand) (copied : ℕ) → Has s at written → held_runs s.hand ≡ x ∷ held_runs hand → copied ≡ x.end → x.end < place
        → NoneReaches p haystack at place → s.copied ≤ x.start → x.start ≤ x.end
        → Has (record s { copied = copied; hand = hand }) at (put_on written (slice_range haystack s.copied x.start ++ piece x) (x ∷ []))
    has-settled s at place written x hand copied has first ends before clear behind ordered = record {
      given = record { within = has.given.within; last = has.given.last; whole = has.given.whole };
      walked_within = has.walked_within;
      far = has.far;
      since_clear = has.since_clear;
      runs = has.runs ∙ ap (λ (runs : List Occurrence). written.runs ++ runs) first ∙ sym (append_assoc written.runs (x ∷ []) (held_runs hand));
      settled = λ y there. elim (member-of_append written.runs (x ∷ []) y there) [
        | inl early ↦ has.settled y early
        | inr here ↦ λ m occurs later. elim here [ inl e ↦ omega (arith, ap (λ (o : Occurrence). o.end) e, clear m occurs later) | inr none ↦ absurd none ]
      ];
      before = λ y there. elim (member-of_append written.runs (x ∷ []) y there) [
        | inl early ↦ omega (arith, has.before y early)
        | inr here ↦ elim here [ inl e ↦ omega (arith, ap (λ (o : Occurrence). o.end) e) | inr none ↦ absurd none ]
      ];
      clear = λ m occurs later. omega (arith, clear m occurs later);
      fed_clear = has.fed_clear;
      written_is = ap (λ (xs : List ℕ). xs ++ (slice_range haystack s.copied x.start ++ piece x)) has.written_is
          ∙ sym (copied-run haystack piece 0 written.runs x s.copied (omega arith) has.before behind)
          ∙ ap (copied_to haystack 0 (written.runs ++ x ∷ []) piece) (sym ends);
    }

    -- bytes are written that no run holds
    pub has-copied : (s : CoverProgress) (at : ℕ) (written : Output) (end copied : ℕ) → Has s at written → copied ≡ max s.copied end → NoneReaches p haystack at end
        → Has (record s { copied = copied }) at (put_on written (slice_range haystack s.copied end) [])
    has-copied s at written end copied has most clear =
        let none : written.runs ++ [] ≡ written.runs = append-nil written.runs in
        let bytes = written.bytes ++ slice_range haystack s.copied end in
        subst (λ (runs : List Occurrence). Has (record s { copied = copied }) at (record { bytes = bytes; runs = runs })) (sym none)
        (record {
          given = record { within = has.given.within; last = has.given.last; whole = has.given.whole };
          walked_within = has.walked_within;
          far = has.far;
          since_clear = has.since_clear;
          runs = has.runs;
          settled = has.settled;
          before = λ y there. omega (arith, has.before y there);
          clear = λ m occurs later. omega (arith, clear m occurs later, has.clear m occurs later);
          fed_clear = has.fed_clear;
          written_is = ap (λ (xs : List ℕ). xs ++ slice_range haystack s.copied end) has.written_is
              ∙ elim (cases_lt s.copied end) [
                | inl behind ↦
                    (let all : copied ≡ end = omega arith in
                    sym (copied-more haystack piece 0 written.runs s.copied end (omega arith) has.before (omega arith))
                    ∙ ap (copied_to haystack 0 written.runs piece) (sym all))
                | inr past ↦
                    (let all : copied ≡ s.copied = omega arith in
                    ap (λ (xs : List ℕ). copied_to haystack 0 written.runs piece s.copied ++ xs) (nothing_between haystack s.copied end past)
                    ∙ append-nil (copied_to haystack 0 written.runs piece s.copied)
                    ∙ ap (copied_to haystack 0 written.runs piece) (sym all))
              ];
        })

    -- more of the first run was fed: bytes that no match holds which ends later
    pub has-fed : (s : CoverProgress) (at : ℕ) (written : Output) (fed : ℕ) → Has s at written → s.read ≤ at + 1 → fed ≤ s.read - s.buffer.least → Has (record s { fed = fed }) at written
    has-fed s at written fed has near few = record {
      given = record { within = has.given.within; last = has.given.last; whole = has.given.whole };
      walked_within = has.walked_within;
      far = has.far;
      since_clear = has.since_clear;
      runs = has.runs;
      settled = has.settled;
      before = has.before;
      clear = has.clear;
      fed_clear = λ m occurs later. omega (arith, few, later, near, occurrence-near p haystack m 0 (length haystack) occurs, kept-enough s.words (map length p.words), has.far);
      written_is = has.written_is;
    }

    -- what ends later begins behind the open place
    pub has-open : (s : CoverProgress) (at : ℕ) (written : Output) → Has s at written → NoneReaches p haystack at (open_place s at)
    has-open s at written has m occurs later = omega (arith, has.since_clear m occurs later, occurrence-near p haystack m 0 (length haystack) occurs, kept-enough s.words (map length p.words), has.far)

    -- a match is joined, once its last byte was walked
    pub has-joined : (s : CoverProgress) (m : Occurrence) (hand : Hand) (written : Output) → Has s (m.end - 1) written → (others : List Occurrence) → ending_with s.words p haystack m.end ≡ m ∷ others
        → m.start < m.end → m.end ≤ s.read → held_runs hand ≡ joined_runs (held_runs s.hand) m → Has (record s { hand = hand }) m.end written
    has-joined s m hand written has others ends some within joined =
        let next : m.end ≡ suc (m.end - 1) = omega arith in
        let here : IsMember (occurrences_ending p haystack 0 m.end) m = counted-member s.words haystack (occurrences_ending p haystack 0 m.end) m (subst (λ (list : List Occurrence). IsMember list m) (sym ends) (inl refl)) in
        let last = occurrences_ending-only p haystack 0 m.end m (omega (arith, has.given.within)) here in
        let occurs : Occurs p No haystack 0 (length haystack) m = record { numbered = last.0.numbered; after_start = last.0.after_start; before_end = omega (arith, last.1, has.given.within); sized = last.0.sized; same = last.0.same; admitted = λ e. cc } in
        record {
          given = record { within = has.given.within; last = has.given.last; whole = has.given.whole };
          walked_within = within;
          far = has.far;
          since_clear = λ n o later. has.since_clear n o (omega arith);
          runs = ap (runs_with s.words p haystack) next
              ∙ ap (joined_first (runs_with s.words p haystack (m.end - 1))) (ap (ending_with s.words p haystack) (sym next) ∙ ends)
              ∙ cond-true (nat_lt m.start m.end) (joined_runs (runs_with s.words p haystack (m.end - 1)) m) (runs_with s.words p haystack (m.end - 1)) (lt-ltb m.start m.end some)
              ∙ ap (λ (runs : List Occurrence). joined_runs runs m) has.runs
              ∙ joined-behind written.runs (held_runs s.hand) m (λ x there. omega (arith, has.settled x there m occurs (omega arith)))
              ∙ ap (λ (runs : List Occurrence). written.runs ++ runs) (sym joined);
          settled = λ x there n o later. has.settled x there n o (omega arith);
          before = has.before;
          clear = λ n o later. has.clear n o (omega arith);
          fed_clear = λ n o later. has.fed_clear n o (omega arith);
          written_is = has.written_is;
        }
