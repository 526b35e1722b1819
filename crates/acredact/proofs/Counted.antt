-- What a replacement by a closure does, where the closure counts each match and writes its piece.
use Rattle.acredact.proofs.Common.{Appends, Appends-nil, Appends-trans, AreFinds, BeginsReplacing, Bor, Consumes-nil, CountsThese, DoesStream, Err, Ghosts, IfErr, IsStreamEnd, IsWriteRefusal, List, MatchBool, MayBe, Memory, MutBor, None, Occurrence, Ok, OnErr, OnOk, Option, Patterns, Refused, ReplacesStream, Result, SinkGhosts, Some, SourceGave, SourceGhosts, StartsWith, StreamError, StreamOutcome, WholeStream, Write, WriteZero, [], and-false, ap, append-nil, arith, counted, counts_none, counts_then, deed_of, drop, false, finds-exist, inl, inr, is_limit, is_write_fault, is_write_of_nothing, le_refl, length, length-append, length-take-le, map, on_err_weaker, on_ok_weaker, plain_search, refl, replaced, replaced_from, shortest, slice_range, subst, sym, take, true, ℕ, ◌&&◌, ◌++◌, ◌∙◌, ◌∷◌, ◌≡◌, ◌≤◌}
use Rattle.aho_devices.specs.Refusals.{IsFillRefusal, is_read_fault}
use Rattle.std.proofs.Common.{Bool}
use Rattle.std.specs.Prelude.{◌+◌}
use Rattle.std.specs.Fn.{Mut}
use Rattle.std.proofs.lemmas.List.{append_cancel_left}
use Rattle.aho_core.specs.ClosureRun.{CalledOn, ClosureRun}
use Rattle.aho_devices.specs.Counts.{AppendsBeginning}
use Rattle.aho_stream.specs.Replacing.{piece_for}
use Rattle.aho_stream.proofs.Called.{CalledOnFirst, run_calls}
use Rattle.aho_stream.specs.StreamRun.{CallsOn, RunsAndLeaves, RunsLent, SinkTakes}
use Rattle.tool_parts.proofs.Beginnings.{beginning-later, beginning-more}
use Rattle.acredact.proofs.Redactions.{few_from, no_more, outcome_plain, plain_by, ungrown}
use Rattle.acredact.proofs.Totals.{grow_few}

-- why a run ends: a read fault and the limit are of the reading, where it stopped
stops_as : (stopped by : Bool) (result : Result (Unit {0}) StreamError) → (by ≡ true → stopped ≡ true) → IfErr result (λ reason. MatchBool by (IsFillRefusal reason) (IsWriteRefusal reason))
    → ((stopped && is_read_fault result) ≡ is_read_fault result) × (is_limit result ≡ true → stopped ≡ true) × IfErr result IsStreamEnd
stops_as stopped by (Ok x) so is = (and-false stopped, λ (met : false ≡ true). absurd (cc), tt)
stops_as stopped true (Err (Refused cause)) so is = absurd is
stops_as stopped true (Err error) so is = rw (so refl) (refl, λ met. refl, tt)
stops_as stopped false (Err (Write fault)) so is = (and-false stopped, λ (met : false ≡ true). absurd (cc), tt)
stops_as stopped false (Err WriteZero) so is = (and-false stopped, λ (met : false ≡ true). absurd (cc), tt)
stops_as stopped false (Err error) so is = absurd is

-- where a beginning of one text was appended, that begins each text of which one was
one_beginning : (old new : Option (List ℕ)) (text : List ℕ) → AppendsBeginning old new text
    → (part : List ℕ) × Appends old new part × ((other : List ℕ) → AppendsBeginning old new other → StartsWith other part)
one_beginning None new text begun = ([], tt, λ other begun. refl)
one_beginning (Some old) None text begun = absurd begun.2
one_beginning (Some old) (Some new) text (count, within, is) = (
  take count text,
  is,
  λ other begun.
      let same : take count text ≡ take begun.0 other = append_cancel_left old (take count text) (take begun.0 other) (sym is ∙ begun.2) in
      ap (λ n. take n other) (ap length same ∙ length-take-le begun.0 other begun.1) ∙ sym same,
)

module _ {W : Type 0} (K : SinkGhosts W) (old : W) where
  -- all of some bytes are taken, and then others
  takes_later : {first by : Bool} {mid new : W} {result : Result (Unit {0}) StreamError} (bs cs : List ℕ) → SinkTakes K first old bs (Ok tt) mid → SinkTakes K by mid cs result new → SinkTakes K by old (bs ++ cs) result new
  takes_later {result = result} bs cs first later = record {
    whole = on_ok_weaker result (λ taken. Appends-trans _ _ _ bs cs first.whole taken) later.whole;
    beginning = on_err_weaker result (λ taken. beginning-later _ _ _ bs cs first.whole taken) later.beginning;
    write_failed = later.write_failed ∙ ap (counted (is_write_fault result)) first.write_failed;
    took_nothing = later.took_nothing ∙ ap (counted (is_write_of_nothing result)) first.took_nothing;
    only = later.only;
  }

  -- what fails takes a beginning of more
  takes_more : {by : Bool} {new : W} {error : StreamError} (bs cs : List ℕ) → SinkTakes K by old bs (Err error) new → SinkTakes K by old (bs ++ cs) (Err error) new
  takes_more bs cs takes =
      record { whole = tt; beginning = beginning-more _ _ bs cs takes.beginning; write_failed = takes.write_failed; took_nothing = takes.took_nothing; only = takes.only }

module _ {F W : Type 0} (K : SinkGhosts W) (calls : Mut F (Bor Occurrence × (Bor (List ℕ) × (MutBor W × Unit {0}))) (Result (Unit {0}) StreamError × (MutBor W × Unit {0})))
    (closure : F) (name_of : F → ℕ) (pieces_by : F → List (List ℕ)) (counts_of : F → List ℕ)
    -- each call counts its match into the same borrow all along, and writes its piece
    (steps : (f : F) (m : Occurrence) (matched : List ℕ) (old : W) (answer : Result (Unit {0}) StreamError) (next : F) (new : W) → CalledOn calls f m matched old answer next new
    → (name_of next ≡ name_of f) × (pieces_by next ≡ pieces_by f) × CountsThese (m ∷ []) (counts_of f) (counts_of next) × SinkTakes K false old (piece_for (pieces_by f) m) answer new) where
  -- it has counted these
  abbrev HasCounted : List Occurrence → F → Type 0
  HasCounted done f = (name_of f ≡ name_of closure) × CountsThese done (counts_of closure) (counts_of f)

  counted_one : (done : List Occurrence) (f : F) (m : Occurrence) (matched : List ℕ) (old : W) (answer : Result Bool StreamError) (next : F) (new : W)
      → HasCounted done f → CallsOn calls f m matched old answer next new → HasCounted (done ++ (m ∷ [])) next
  counted_one done f m matched old (Ok goes) next new so called =
      let step = steps f m matched old (Ok tt) next new called.1 in (step.0 ∙ so.0, counts_then done (m ∷ []) (counts_of closure) (counts_of f) (counts_of next) so.1 step.2)
  counted_one done f m matched old (Err error) next new so called =
      let step = steps f m matched old (Err error) next new called in (step.0 ∙ so.0, counts_then done (m ∷ []) (counts_of closure) (counts_of f) (counts_of next) so.1 step.2)

  module _ (stopped : Bool) (haystack : List ℕ) where
    abbrev Runs : ℕ → List Occurrence → F → W → Result (Unit {0}) StreamError → F → W → Type 0
    Runs at ms f old result last new = ClosureRun (SinkTakes K stopped) (CallsOn calls) haystack at ms f old result last new

    -- bytes are taken, or a beginning of them where the reading stopped or a write failed
    abbrev Takes : W → List ℕ → Result (Unit {0}) StreamError → W → Type 0
    Takes old bytes result new = (by : Bool) × (by ≡ true → stopped ≡ true) × SinkTakes K by old bytes result new

    run_takes : (ms : List Occurrence) (at : ℕ) (f : F) (old : W) (result : Result (Unit {0}) StreamError) (last : F) (new : W) → pieces_by f ≡ pieces_by closure → Runs at ms f old result last new
        → Takes old (replaced_from haystack at ms (piece_for (pieces_by closure))) result new
    run_takes [] at f old result last new same run = (stopped, λ is. is, run.1)
    run_takes (m ∷ ms) at f old result last new same (inl (reason, is, left, took)) =
        rw is (stopped, λ so. so, takes_more K old (slice_range haystack at m.start) _ (subst (λ r. SinkTakes K stopped old (slice_range haystack at m.start) r new) is took))
    run_takes (m ∷ ms) at f old result last new same (inr (lent, gap, (Err reason, next, left, called, (is, kept, there)))) =
        let step = steps f m (slice_range haystack m.start m.end) lent (Err reason) next left called in
        rw (is, there, ← same)
        (false, λ (so : false ≡ true). absurd (cc), takes_later K old (slice_range haystack at m.start) _ gap (takes_more K lent (piece_for (pieces_by f) m) _ step.3))
    run_takes (m ∷ ms) at f old result last new same (inr (lent, gap, (Ok goes, next, left, called, ends))) =
        let step = steps f m (slice_range haystack m.start m.end) lent (Ok tt) next left called.1 in
        let later : Runs m.end ms next left result last new = subst (λ (b : Bool). MatchBool b (Runs m.end ms next left result last new) ((last ≡ next) × SinkTakes K stopped left (drop m.end haystack) result new)) called.0 ends in
        let (by, so, takes) = run_takes ms m.end next left result last new (step.1 ∙ same) later in (
          by,
          so,
          takes_later K old (slice_range haystack at m.start) _ gap
              (takes_later K lent (piece_for (pieces_by closure) m) _ (subst (λ (pieces : List (List ℕ)). SinkTakes K false lent (piece_for pieces m) (Ok tt) left) same step.3) takes),
        )

  module _ {A R : Type 0} (G : Ghosts A) (S : SourceGhosts R) (automaton : A) (p : Patterns) (of : G.is_of automaton p) (some : 1 ≤ shortest (map length p.words))
      (source source' : R) (last : F) (sink sink' : W) where
    abbrev pieces : List (List ℕ)
    pieces = pieces_by closure

    abbrev Leaves : Result (Unit {0}) StreamError → Type 0
    Leaves result = RunsAndLeaves S K (G.is_of automaton) calls source source' closure sink result last sink'

    -- what a run took, by the finds of any text that may come
    over_takes : (result : Result (Unit {0}) StreamError) (over : Leaves result) (q : Patterns) (bytes : List ℕ) (ms : List Occurrence)
        → G.is_of automaton q → MayBe over.given over.ended bytes → AreFinds q (plain_search bytes) None ms → Takes over.stopped bytes sink (replaced bytes ms pieces) result sink'
    over_takes result over q bytes ms of may found = run_takes over.stopped bytes ms 0 closure sink result last sink' refl (over.run q bytes ms of may found)

    whole : (result : Result (Unit {0}) StreamError) → Leaves result → OnOk result (ReplacesStream S K (G.is_of automaton) pieces source source' sink sink')
    whole (Err error) over = tt
    whole (Ok tt) over = record {
      given = over.given;
      gives = subst (SourceGave S source source' over.given) over.whole over.gives;
      writes = λ q ms of found. (over_takes (Ok tt) over q over.given ms of (no_more over.given over.ended) found).2.whole;
    }

    begun : (result : Result (Unit {0}) StreamError) (over : Leaves result) (ms : List Occurrence) → AreFinds p (plain_search over.given) None ms
        → OnErr result (BeginsReplacing S K (G.is_of automaton) pieces source source' sink sink')
    begun (Ok x) over ms found = tt
    begun (Err error) over ms found =
        let (part, wrote, begins) = one_beginning (K.taken sink) (K.taken sink') (replaced over.given ms pieces) (over_takes (Err error) over p over.given ms of (no_more over.given over.ended) found).2.beginning in
        record {
          given = over.given;
          ended = over.ended;
          gives = over.gives;
          written = part;
          writes = wrote;
          beginning = λ q bytes ms of may found. begins (replaced bytes ms pieces) (over_takes (Err error) over q bytes ms of may found).2.beginning;
        }

    -- what comes of it, by the finds of the bytes that were given
    ran : (result : Result (Unit {0}) StreamError) (over : Leaves result) (ms : List Occurrence) → AreFinds p (plain_search over.given) None ms → StreamOutcome S K (deed_of (plain_by p pieces)) source source' sink sink' result
    ran result over ms found =
        let (by, so, takes) = over_takes result over p over.given ms of (no_more over.given over.ended) found in
        let (fault, stops, only) = stops_as over.stopped by result so takes.only in
        outcome_plain S K p pieces source source' sink sink' (G.is_of automaton) of some result (whole result over) (begun result over ms found)
        (record { read_failed = over.read_failed ∙ ap (λ (b : Bool). counted b (S.failures source)) fault; write_failed = takes.write_failed; took_nothing = takes.took_nothing })
        (λ met. let at_limit = over.limit (stops met) met in (over.given, subst (SourceGave S source source' over.given) at_limit.1 over.gives, at_limit.0)) only

    -- before a stream was begun nothing is touched
    untouched : StreamOutcome S K (deed_of (plain_by p pieces)) source source sink sink (Err Memory)
    untouched =
        outcome_plain S K p pieces source source sink sink (G.is_of automaton) of some (Err Memory) tt
        (record {
          given = [];
          ended = false;
          gives = record { bytes = Consumes-nil (S.remaining source); end = refl };
          written = [];
          writes = Appends-nil (K.taken sink);
          beginning = λ q bytes ms of may found. refl;
        })
        (record { read_failed = refl; write_failed = refl; took_nothing = refl }) (λ (met : false ≡ true). absurd (cc)) tt

    abbrev Does : Result (Unit {0}) StreamError → Type 0
    Does result = (name_of last ≡ name_of closure) × DoesStream S K (deed_of (plain_by p pieces)) source source' sink sink' result (counts_of closure) (counts_of last)

    -- and no more was counted than the closure was called on
    run_does : (result : Result (Unit {0}) StreamError) → Leaves result → Does result
    run_does result over =
        let (ms, found) = finds-exist p (plain_search over.given) None (le_refl (length over.given)) in
        let first = run_calls (SinkTakes K over.stopped) (CallsOn calls) over.given HasCounted (λ f m matched old goes next new called. called.0) counted_one ms [] 0 closure sink result last sink'
        (refl, counts_none (counts_of closure)) (over.run p over.given ms of (no_more over.given over.ended) found) in
        let few = few_from p some over.given ms 0 None found (omega arith) in
        let sizes : length ms ≡ length first.called + length first.rest = ap length first.are ∙ length-append first.called first.rest in (
          first.holds.0,
          record {
            outcome = ran result over ms found;
            counted = by result over ms found first;
            most = λ measured. record { given = over.given; ended = over.ended; gives = over.gives; is = grow_few first.called (counts_of closure) (counts_of last) (length over.given) first.holds.1 (omega (arith, sizes, few)) };
          },
        )
      where
        by : (result : Result (Unit {0}) StreamError) (over : Leaves result) (ms : List Occurrence) → AreFinds p (plain_search over.given) None ms → CalledOnFirst HasCounted [] ms result last
            → OnOk result ((ranges : List Occurrence) × WholeStream S (λ text. AreFinds p (plain_search text) None ranges) source source' × CountsThese ranges (counts_of closure) (counts_of last))
        by (Err error) over ms found first = tt
        by (Ok x) over ms found first =
            let all : ms ≡ first.called = first.are ∙ ap (λ (ms : List Occurrence). first.called ++ ms) first.all ∙ append-nil first.called in (
              ms,
              record { text = over.given; gives = subst (SourceGave S source source' over.given) over.whole over.gives; is = found },
              subst (λ (ms : List Occurrence). CountsThese ms (counts_of closure) (counts_of last)) (sym all) first.holds.1,
            )

    -- whatever is answered
    pub lent_does : (result : Result (Unit {0}) StreamError) → RunsLent S K (G.is_of automaton) calls source source' closure sink result last sink' → Does result
    lent_does result (inl memory) = rw (memory.0.0, memory.0.1, memory.0.2, memory.1) (refl, record { outcome = untouched; counted = tt; most = λ measured. ungrown (counts_of closure) (Err Memory) untouched })
    lent_does result (inr over) = run_does result over
