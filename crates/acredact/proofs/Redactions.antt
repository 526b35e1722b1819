-- What a cover or a replacement of a stream writes is a redaction, and what it begins is begun. Where no pattern is empty each that occurs shares a byte with a find.
use Rattle.acredact.proofs.Common.{AreCleanBy, AreFinds, AreRunsOf, BeginsReplacing, Bool, CanBegin, CountsErrors, CountsThese, Deed, DoesStream, Err, Ghosts, IfErr, IfErr-weaker, IsCleanPiece, IsRedaction, IsStreamEnd, IsStreamFault, List, MatchBool, MayBe, Memory, No, NoByteIsKept, None, NoneIsWhole, Occurrence, Ok, OnErr, OnOk, Patterns, Redactor, Refused, ReplacesStream, Result, SinkGhosts, Some, SourceGave, SourceGhosts, Standard, StartsWith, StreamError, StreamOutcome, [], all-made, all_runs, ap, append-nil, arith, deed_of, false, finds-exist, inl, inr, is_limit, is_some, le_refl, length, length-append, map, on_err_weaker, on_ok_weaker, piece_in, plain_search, refl, replaced, replaced_by, shortest, sym, true, ℕ, ◌++◌, ◌+◌, ◌<◌, ◌∙◌, ◌∷◌, ◌≡◌, ◌≢◌, ◌≤◌}
use Rattle.aho_cover.proofs.Chosen.{all-covers, all-are}
use Rattle.std.proofs.lemmas.Bool.{cases_lt}
use Rattle.std.proofs.Common.{◌⊎◌}
use Rattle.std.specs.Prelude.{Option}
use Rattle.aho_core.specs.Occurs.{Occurs}
use Rattle.aho_core.specs.Order.{IsBefore}
use Rattle.aho_core.specs.declared.error.MatchErrorKind.{MatchErrorKind}
use Rattle.aho_core.specs.declared.search.MatchKind.{MatchKind}
use Rattle.aho_laws.specs.CutLaws.{NoneIsEmpty}
use Rattle.aho_laws.proofs.ClearCuts.{Occurs-full, Occurs-in, find-best}
use Rattle.aho_laws.proofs.CoverKept.{kept-uncovered}
use Rattle.aho_laws.proofs.CoverRuns.{Covers}
use Rattle.aho_stream.proofs.PatternLengths.{shortest_bounds}
use Rattle.aho_stream.specs.After.{greatest_position, search_from}
use Rattle.aho_stream.specs.Replacing.{GaveAsMany}
use Rattle.acredact.specs.Bounds.{Bounded}
use Rattle.aho_cover.specs.Covers.{LeavesCoveredWith, LeavesCountedWith}
use Rattle.acredact.specs.Secrets.{AreReplaced, BeginsRedaction, CountsFor, IsTouched, Keyed, rule_by, rule_of}
use Rattle.acredact.proofs.Flaws.{made-free, pseudonyms_clean}
use Rattle.acredact.proofs.Totals.{grow_few, grow_none}
use Rattle.aho_laws.specs.CoverLaws.{AreInOrder}
use Rattle.aho_laws.proofs.SettledRuns.{few-open}

-- what is another, or is before it, does not start after the other ends: both have a byte
not_after : (kind : MatchKind) (m o : Occurrence) → m.start < m.end → o.start < o.end → (o ≡ m) ⊎ IsBefore kind m o → m.start < o.end
not_after kind m o some_m some_o (inl same) = omega (arith, some_o, ap (λ (x : Occurrence). x.start) same)
not_after Standard m o some_m some_o (inr before) = grind arith
not_after kind m o some_m some_o (inr before) = grind arith

module _ (p : Patterns) (no_empty : 1 ≤ shortest (map length p.words)) (bytes : List ℕ) where
  full : NoneIsEmpty p
  full number numbered = omega (arith, shortest_bounds p.words number numbered, no_empty)

  -- what occurs has a byte
  pub occurs_some : (from : ℕ) (m : Occurrence) → Occurs p No bytes from (length bytes) m → m.start < m.end
  occurs_some from m occurs = Occurs-full p full bytes from (length bytes) m occurs

  pub touched_from : (ms : List Occurrence) (from : ℕ) (last : Option ℕ) → AreFinds p (search_from from bytes) last ms
      → (o : Occurrence) → Occurs p No bytes from (length bytes) o → IsTouched ms o
  touched_from [] from last finds o occurs = absurd (find-best p full bytes from (length bytes) last None finds o occurs)
  touched_from (m ∷ ms) from last finds o occurs =
      let best = find-best p full bytes from (length bytes) last (Some m) finds.0 in
      elim (cases_lt o.start m.end) [
        | inl early ↦ (m, inl refl, (not_after p.kind m o (occurs_some from m best.0) (occurs_some from o occurs) (best.1 o occurs), early))
        | inr late ↦
            (let rest = touched_from ms m.end (Some m.end) finds.1 o (Occurs-in p bytes from (length bytes) m.end (length bytes) o late occurs.before_end occurs) in
            (rest.0, inr rest.1, rest.2))
      ]

  -- each find has a byte of its own
  pub few_from : (ms : List Occurrence) (from : ℕ) (last : Option ℕ) → AreFinds p (search_from from bytes) last ms → from ≤ length bytes → from + length ms ≤ length bytes
  few_from [] from last finds within = omega (arith, within)
  few_from (m ∷ ms) from last finds within =
      let best = find-best p full bytes from (length bytes) last (Some m) finds.0 in
      omega (arith, occurs_some from m best.0, best.0.after_start, few_from ms m.end (Some m.end) finds.1 best.0.before_end)

-- some bytes with an end that was seen are all
pub all_of : (given text : List ℕ) → MayBe given true text → text ≡ given
all_of given text may = may.1 ∙ ap (λ more. given ++ more) may.2 ∙ append-nil given

-- none may follow what was given
pub no_more : (given : List ℕ) (ended : Bool) → MayBe given ended given
no_more given true = ([], sym (append-nil given), refl)
no_more given false = ([], sym (append-nil given), tt)

module _ (r : Redactor) (text : List ℕ) where
  -- the runs of a text hold each byte of what counts in it
  pub runs_hide : (runs : List Occurrence) → AreRunsOf (CountsFor r text) runs → NoByteIsKept r text runs
  runs_hide runs are =
      let covers : Covers (CountsFor r text) runs (length text) = rw (all-are r.patterns text r.words runs are) (all-covers r.patterns text r.words) in
      record { hidden = covers.has; only = covers.only; stays = λ all. kept-uncovered r.patterns text runs (rw all at are) }

  -- so no secret is left, by either way
  safe_by : (covers : Bool) (ranges : List Occurrence) → 1 ≤ shortest (map length r.patterns.words) → MatchBool covers (AreRunsOf (CountsFor r text) ranges) (AreFinds r.patterns (plain_search text) None ranges)
      → MatchBool covers (NoByteIsKept r text ranges) (NoneIsWhole r.patterns text ranges)
  safe_by true ranges some are = runs_hide ranges are
  safe_by false ranges some found = record { touched = λ o occurs. touched_from r.patterns some text ranges 0 None found o occurs }

  ranges_exist : (covers : Bool) → (ranges : List Occurrence) × MatchBool covers (AreRunsOf (CountsFor r text) ranges) (AreFinds r.patterns (plain_search text) None ranges)
  ranges_exist true = (all_runs r.words r.patterns text, all-made r.patterns text r.words)
  ranges_exist false = finds-exist r.patterns (plain_search text) None (le_refl (length text))

-- a text with ranges replaced
abbrev pub redacted : Redactor → List ℕ → List Occurrence → List ℕ
redacted r text ranges = replaced_by text ranges (piece_in (rule_of r) text)

-- what is written in the place of a run is clean, by either rule
clean_by : (key : Option Keyed) (p : Patterns) (pieces : List (List ℕ)) → AreCleanBy (is_some key) p pieces → (number : ℕ) (bytes : List ℕ) → number < length p.words → IsCleanPiece p (rule_by key pieces number bytes)
clean_by None p pieces clean number bytes numbered = clean number numbered
clean_by (Some key) p pieces clean number bytes numbered = pseudonyms_clean p clean key.ignore_case key.bytes number bytes numbered

module _ (r : Redactor) (some : 1 ≤ shortest (map length r.patterns.words)) where
  -- a text with its ranges replaced is its redaction
  pub redaction_by : (text : List ℕ) (ranges : List Occurrence) → AreReplaced r text ranges → IsRedaction r text (redacted r text ranges)
  redaction_by text ranges found = record {
    ranges = ranges;
    found = found;
    safe = safe_by r text r.covers ranges some found;
    is = refl;
    clean = λ covers all are. made-free r.patterns (rule_of r) (clean_by r.key r.patterns r.pieces are) text ranges (rw (covers, all) at found);
  }

  -- what begins the replacement of each text that may come begins its redaction
  pub begins_by : (given : List ℕ) (ended : Bool) (part : List ℕ)
      → ((text : List ℕ) (ranges : List Occurrence) → MayBe given ended text → AreReplaced r text ranges → StartsWith (redacted r text ranges) part)
      → BeginsRedaction r given ended part
  begins_by given ended part beginning text may =
      let ranges = ranges_exist r text r.covers in
      (redacted r text ranges.0, redaction_by text ranges.0 ranges.1, beginning text ranges.0 may ranges.1)

-- a replacement of matches that share no byte
abbrev pub plain_by : Patterns → List (List ℕ) → Redactor
plain_by p pieces = record { patterns = p; covers = false; words = false; pieces = pieces; key = None }

-- what replaces the finds of the patterns that are searched for redacts by these
pub outcome_plain : {R W : Type 0} (S : SourceGhosts R) (K : SinkGhosts W) (p : Patterns) (pieces : List (List ℕ)) (source source' : R) (sink sink' : W) (AreSearched : Patterns → Type 0)
    → AreSearched p → 1 ≤ shortest (map length p.words) → (result : Result (Unit {0}) StreamError)
    → OnOk result (ReplacesStream S K AreSearched pieces source source' sink sink') → OnErr result (BeginsReplacing S K AreSearched pieces source source' sink sink')
    → CountsErrors S K source source' sink sink' result → (is_limit result ≡ true → GaveAsMany S source source' greatest_position) → IfErr result IsStreamEnd
    → StreamOutcome S K (deed_of (plain_by p pieces)) source source' sink sink' result
outcome_plain S K p pieces source source' sink sink' AreSearched of some result whole begun errors limit only =
    let r = plain_by p pieces in
    record {
      redacted = on_ok_weaker result (λ whole.
          let (ms, found) = finds-exist p (plain_search whole.given) None (le_refl (length whole.given)) in
          record { text = whole.given; gives = whole.gives; is = (replaced whole.given ms pieces, redaction_by r some whole.given ms found, whole.writes p ms of found) }) whole;
      begun = on_err_weaker result (λ begun. record {
        given = begun.given;
        ended = begun.ended;
        gives = begun.gives;
        is = (begun.written, begins_by r some begun.given begun.ended begun.written (λ text ms may found. begun.beginning p text ms of may found), begun.writes);
      }) begun;
      near = IfErr-weaker result _ _ (λ error begun fills. record { given = begun.given; ended = begun.ended; gives = begun.gives; is = λ (covers : false ≡ true). absurd (cc) }) begun;
      errors = errors;
      limit = λ measured. limit;
      only = only;
    }

-- what suits is not refused
pub never_refused : {A : Type 0} (G : Ghosts A) (automaton : A) → CanBegin G automaton → (result : Result (Unit {0}) StreamError)
    → ((sid : ℕ) (reason : MatchErrorKind) → 1 ≤ shortest (G.lengths automaton) → G.start automaton No ≡ Ok sid → result ≢ Err (Refused reason)) → IfErr result IsStreamEnd
never_refused G automaton can (Ok x) suits = tt
never_refused G automaton can (Err (Refused reason)) suits = absurd (suits can.0 reason can.1 can.2 refl)
never_refused G automaton can (Err error) suits = tt

-- what ends a stream that was begun
pub fault_ends : (error : StreamError) → IsStreamFault error → IsStreamEnd error
fault_ends (Refused cause) is = absurd is
fault_ends error is = tt

-- and one that is replaced by a walk backward
pub back_ends : (error : StreamError) → (error ≡ Memory) ⊎ IsStreamFault error → IsStreamEnd error
back_ends error (inl memory) = rw memory tt
back_ends error (inr fault) = fault_ends error fault

-- a text has no more runs than bytes, so where the first of them are counted nothing has grown by more than was given
bounded_by : {R : Type 0} (S : SourceGhosts R) (source source' : R) (counts counts' : List ℕ) (words : Bool) (p : Patterns) (given : List ℕ) (ended : Bool) (first later : List Occurrence)
    → SourceGave S source source' given ended → all_runs words p given ≡ first ++ later → CountsThese first counts counts' → Bounded S source source' counts counts'
bounded_by S source source' counts counts' words p given ended first later gives are counted =
    let runs = all_runs words p given in
    let ordered : AreInOrder runs (length given) = (all-covers p given words).ordered in
    let few = few-open runs 1 (length given) ordered (λ x there. omega (arith, ordered.full x there)) in
    let grown = grow_few first counts counts' (length given) counted (omega (arith, few, ap length are, length-append first later)) in
    record { given = given; ended = ended; gives = gives; is = grown }

-- and what covers them redacts by a cover
pub does_cover : {R W : Type 0} (S : SourceGhosts R) (K : SinkGhosts W) (r : Redactor) → r.covers ≡ true → (AreSearched : Patterns → Type 0) → AreSearched r.patterns
    → 1 ≤ shortest (map length r.patterns.words) → (source source' : R) (sink sink' : W) (result : Result (Unit {0}) StreamError) (counts counts' : List ℕ)
    → LeavesCoveredWith S K AreSearched r.words (rule_of r) source source' sink sink' result → LeavesCountedWith S K AreSearched r.words (rule_of r) source source' sink sink' counts counts' result
    → CountsErrors S K source source' sink sink' result → IfErr result IsStreamFault → DoesStream S K (deed_of r) source source' sink sink' result counts counts'
does_cover S K r covers AreSearched of some source source' sink sink' result counts counts' leaves counts_so errors only = record {
  outcome = record {
    redacted = on_ok_weaker result (λ whole.
        let (runs, are, is) = whole.covers r.patterns of in
        record { text = whole.given; gives = whole.gives; is = (redacted r whole.given runs, redaction_by r some whole.given runs (rw covers are), rw is at whole.writes) }) leaves.covered;
    begun = on_err_weaker result (λ begun. record {
      given = begun.given;
      ended = begun.ended;
      gives = begun.gives;
      is = (begun.written, begins_by r some begun.given begun.ended begun.written (λ text runs may found. begun.beginning r.patterns text (redacted r text runs) of may (runs, rw covers at found, refl)), begun.writes);
    }) leaves.begun;
    near = IfErr-weaker result _ _ (λ error near fills.
        let up = near fills in
        record {
          given = up.given;
          ended = up.ended;
          gives = up.gives;
          is = λ covering. record {
            place = up.place;
            within = up.within;
            prompt = λ at behind before out. up.prompt r.patterns at of behind before out;
            written = λ text ranges may found. up.writes r.patterns text ranges of may (rw covers at found);
          };
        }) leaves.near;
    errors = errors;
    limit = λ measured. leaves.limit;
    only = IfErr-weaker result IsStreamFault IsStreamEnd fault_ends only;
  };
  counted = on_ok_weaker result (λ whole.
      let runs = all_runs r.words r.patterns whole.given in
      let are = all-made r.patterns whole.given r.words in
      (runs, record { text = whole.given; gives = whole.gives; is = rw covers are }, whole.counted r.patterns runs of are)) counts_so.counted;
  most = λ measured. most result counts_so;
}
  where
    -- no more is counted than was given
    most : (result : Result (Unit {0}) StreamError) → LeavesCountedWith S K AreSearched r.words (rule_of r) source source' sink sink' counts counts' result → Bounded S source source' counts counts'
    most (Ok x) leaves =
        let whole = leaves.counted in
        let runs = all_runs r.words r.patterns whole.given in
        bounded_by S source source' counts counts' r.words r.patterns whole.given true runs [] whole.gives (sym (append-nil runs)) (whole.counted r.patterns runs of (all-made r.patterns whole.given r.words))
    most (Err error) leaves =
        let some = leaves.begun in
        let (later, are, ends) = some.beginning r.patterns some.given (all_runs r.words r.patterns some.given) of (no_more some.given some.ended) (all-made r.patterns some.given r.words) in
        bounded_by S source source' counts counts' r.words r.patterns some.given some.ended some.first later some.gives are some.counted

-- where nothing is counted nothing has grown
pub ungrown : {R W : Type 0} {S : SourceGhosts R} {K : SinkGhosts W} {d : Deed} {source source' : R} {sink sink' : W} (counts : List ℕ) (result : Result (Unit {0}) StreamError) → StreamOutcome S K d source source' sink sink' result → Bounded S source source' counts counts
ungrown counts (Ok x) of = record { given = of.redacted.text; ended = true; gives = of.redacted.gives; is = grow_none counts (length of.redacted.text) }
ungrown counts (Err error) of = record { given = of.begun.given; ended = of.begun.ended; gives = of.begun.gives; is = grow_none counts (length of.begun.given) }

-- what is done to a stream where there are no counts
pub uncounted : {R W : Type 0} (S : SourceGhosts R) (K : SinkGhosts W) (r : Redactor) (result : Result (Unit {0}) StreamError) (source source' : R) (sink sink' : W) (counts : List ℕ) → length counts ≡ 0
    → StreamOutcome S K (deed_of r) source source' sink sink' result → DoesStream S K (deed_of r) source source' sink sink' result counts counts
uncounted S K r result source source' sink sink' counts none outcome = record {
  outcome = outcome;
  counted = on_ok_weaker result (λ whole. (
    whole.is.1.ranges,
    record { text = whole.text; gives = whole.gives; is = whole.is.1.found },
    record { as_many = refl; grown = λ number (within : number < length counts). absurd (omega (arith, within, none)) },
  )) outcome.redacted;
  most = λ measured. ungrown counts result outcome;
}
