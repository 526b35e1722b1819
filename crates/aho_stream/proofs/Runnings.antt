-- How far a replacement of a stream by a closure has come, from one chunk told to the next.
use Rattle.std.proofs.Common.{◌≡◌, inr, ℕ, ◌+◌, ◌-◌, ◌<◌, ◌≤◌, Bool, true, false, List, [], ◌++◌, length, drop, take, map, refl, sym, ◌∙◌, ap, subst, arith, append-nil}
use Rattle.std.specs.Prelude.{Option, Some, None, Result, Ok, Err, slice_range}
use Rattle.std.specs.Borrow.{Bor, MutBor}
use Rattle.std.specs.Fn.{Mut}
use Rattle.std.specs.Io.KnownBytes.{Appends}
use Rattle.std.proofs.KnownBytes.{Appends-trans}
use Rattle.std.proofs.Math.Seq.{take-add}
use Rattle.std.proofs.lemmas.List.{take-take, drop-drop, length-append}
use Rattle.aho_core.specs.declared.error.stream.StreamError.{StreamError}
use Rattle.aho_core.specs.declared.error.stream.StreamError.TheVariants.{Match as Refused, Read, Write, WriteZero, Memory, PositionLimit}
use Rattle.aho_core.specs.Answer.{IsAnswer}
use Rattle.aho_core.specs.ClosureRun.{CalledOn}
use Rattle.aho_core.specs.Iteration.{AreFinds}
use Rattle.aho_core.specs.Occurrence.{Occurrence}
use Rattle.aho_core.specs.Patterns.{Patterns}
use Rattle.aho_core.specs.Search.{plain_search}
use Rattle.aho_devices.specs.Counts.{AppendsBeginning, counted}
use Rattle.aho_devices.specs.Refusals.{IsFillRefusal, IsWriteRefusal, is_write_fault, is_write_of_nothing}
use Rattle.aho_devices.specs.declared.device.Sink.{Ghosts as SinkGhosts}
use Rattle.aho_devices.specs.declared.device.Source.{Ghosts as SourceGhosts}
use Rattle.aho_automaton.proofs.Places.{length_part}
use Rattle.aho_automaton.specs.declared.automaton.Automaton.{Ghosts}
use Rattle.aho_stream.specs.After.{IsAfter, MayFollow, greatest_position, kept_for, search_from}
use Rattle.aho_stream.specs.Chunks.{Advances, AnswerTells, TellsError, TellsFault, TellsMatch, TellsPlain, ends_between, tells_read_fault}
use Rattle.aho_stream.specs.Replacing.{MayBe, SourceGave}
use Rattle.aho_stream.specs.StreamRun.{RunsAndLeaves, RunsOver}
use Rattle.aho_stream.specs.declared.progress.StreamProgress.{StreamProgress}
use Rattle.aho_stream.specs.declared.progress.StreamPiece.{StreamPiece}
use Rattle.aho_stream.specs.declared.progress.StreamPiece.TheVariants.{NonMatch, Match}
use Rattle.aho_stream.proofs.Found.{same_fault}
use Rattle.aho_stream.proofs.GivenBytes.{part_stays}
use Rattle.aho_stream.proofs.PatternLengths.{occurs_some}
use Rattle.aho_stream.proofs.Replacings.{all_told, fault_told, fills_told, gives_nothing, gives_on, less_left, limit_told, might_be, refused_told}
use Rattle.aho_stream.proofs.StreamRuns.{LeftRun, Took, left_run_first, left_run_match, left_run_plain, runs_to_end, runs_to_refusal, runs_to_stop, runs_up_to}

-- an error that a fill can give is none of a write
no_write : (error : StreamError) → IsFillRefusal error → (is_write_fault {A = Unit {0}} (Err error) ≡ false) × (is_write_of_nothing {A = Unit {0}} (Err error) ≡ false)
no_write (Refused cause) fills = absurd fills
no_write (Read fault) fills = (refl, refl)
no_write (Write fault) fills = absurd fills
no_write WriteZero fills = absurd fills
no_write Memory fills = absurd fills
no_write PositionLimit fills = (refl, refl)

-- a beginning of what stands behind some bytes, and these before it
take_behind : (bytes : List ℕ) (from at end count : ℕ) → from ≤ at → count ≤ end - at → take ((at - from) + count) (drop from bytes) ≡ slice_range bytes from at ++ take count (slice_range bytes at end)
take_behind bytes from at end count ordered short =
    let place : from + (at - from) ≡ at = omega arith in
    take-add (at - from) count (drop from bytes)
    ∙ ap (λ (xs : List ℕ). slice_range bytes from at ++ take count xs) (drop-drop (at - from) from bytes ∙ ap (λ (k : ℕ). drop k bytes) place)
    ∙ ap (λ (xs : List ℕ). slice_range bytes from at ++ xs) (sym (take-take count (end - at) (drop at bytes) short))

module _ {A R F W : Type 0} (G : Ghosts A) (S : SourceGhosts R) (K : SinkGhosts W) (automaton : A)
    (calls : Mut F (Bor Occurrence × (Bor (List ℕ) × (MutBor W × Unit {0}))) (Result (Unit {0}) StreamError × (MutBor W × Unit {0})))
    (first : R) (closure : F) (begun : W) where
  abbrev IsOf : Patterns → Type 0
  IsOf = G.is_of automaton

  abbrev lengths : List ℕ
  lengths = G.lengths automaton

  abbrev pub After : Patterns → ℕ → StreamProgress → List ℕ → Type 0
  After = IsAfter G automaton

  -- so much was given, and what is left of the run goes on to the whole
  pub record Running (lookups : ℕ) (s : StreamProgress) (source : R) (now : F) (sink : W) : Type 0 where
    pub given : List ℕ
    pub gives : SourceGave S first source given s.ended
    pub after : (p : Patterns) → IsOf p → After p lookups s given
    pub rest : (p : Patterns) (bytes : List ℕ) (ms : List Occurrence) → IsOf p → MayBe given s.ended bytes → AreFinds p (plain_search bytes) None ms
        → LeftRun K calls closure begun p bytes ms s.from s.reported now sink

  pub running_first : (lookups : ℕ) (s : StreamProgress) → s.ended ≡ false → s.from ≡ 0 → s.reported ≡ 0
      → ((p : Patterns) → IsOf p → After p lookups s []) → Running lookups s first closure begun
  running_first lookups s not_ended from reported after = record {
    given = [];
    gives = gives_nothing S first s.ended not_ended;
    after = after;
    rest = λ p bytes ms of may finds.
        subst (λ (k : ℕ). LeftRun K calls closure begun p bytes ms k s.reported closure begun) (sym from)
        (subst (λ (k : ℕ). LeftRun K calls closure begun p bytes ms 0 k closure begun) (sym reported)
        (left_run_first K calls closure begun p bytes ms finds));
  }

  module _ (are : (p : Patterns) → IsOf p → lengths ≡ map length p.words) (lookups lookups' : ℕ) (s s' : StreamProgress) (source source' : R) (now : F) (sink : W)
      (answer : Option (Result StreamPiece StreamError)) (running : Running lookups s source now sink) (advance : Advances G automaton lookups lookups' s s' (S.remaining source) (S.remaining source') answer)
      (counts : S.empty_reads source' ≡ counted (ends_between s.ended s'.ended) (S.empty_reads source)) (stays : s.ended ≡ true → s'.ended ≡ true) where
    abbrev pub given : List ℕ
    given = running.given ++ advance.reads.bytes

    abbrev pub now_after : (p : Patterns) → IsOf p → After p lookups' s' given
    now_after p of = advance.reads.is_after p running.given of (running.after p of)

    now_gives : SourceGave S first source' given s'.ended
    now_gives = gives_on S first source source' running.given advance.reads.bytes s.ended s'.ended running.gives advance.reads.read counts stays

    tells_of : (p : Patterns) → IsOf p → (told : Option (Result StreamPiece StreamError)) → answer ≡ told → AnswerTells p s s' given told
    tells_of p of told is = subst (AnswerTells p s s' given) is (advance.tells p running.given of (running.after p of))

    -- the whole run ends so, and leaves this closure
    abbrev pub Over : Result (Unit {0}) StreamError → F → W → Type 0
    Over result last new = RunsAndLeaves S K IsOf calls first source' closure begun result last new

    module _ (p : Patterns) (of : IsOf p) (bytes : List ℕ) (ms : List Occurrence) (may : MayBe given s'.ended bytes) (finds : AreFinds p (plain_search bytes) None ms) where
      abbrev WasLeft : Type 0
      WasLeft = LeftRun K calls closure begun p bytes ms s.from s.reported now sink

      was : WasLeft
      was = running.rest p bytes ms of (might_be running.given advance.reads.bytes bytes s.ended s'.ended advance.reads.closed stays may) finds

      part : (start end : ℕ) → start ≤ end → end ≤ length given → slice_range bytes start end ≡ slice_range given start end
      part start end ordered within = ap (λ (xs : List ℕ). slice_range xs start end) may.1 ∙ part_stays given may.0 start end ordered within

      fits : length given ≤ length bytes
      fits = rw may.1 (omega (arith, length-append given may.0))

      plain_part : TellsPlain p s s' given → slice_range given s'.told s'.reported ≡ slice_range bytes s.reported s'.reported
      plain_part tells = ap (λ (k : ℕ). slice_range given k s'.reported) tells.told ∙ sym (part s.reported s'.reported (omega (arith, tells.some)) tells.read)

      match_answer : (m : Occurrence) → TellsMatch p s s' given m → IsAnswer p (search_from s.from bytes) (Some m)
      match_answer m tells = subst (λ (xs : List ℕ). IsAnswer p (search_from s.from xs) (Some m)) (sym may.1) (tells.answer may.0 may.2)

      match_part : (m : Occurrence) → TellsMatch p s s' given m → slice_range given s'.told s'.reported ≡ slice_range bytes m.start m.end
      match_part m tells =
          let some = occurs_some p lengths (are p of) m (match_answer m tells).0 ((now_after p of).no_empty) in
          ap (λ (k : ℕ). slice_range given k s'.reported) tells.told ∙ ap (λ (k : ℕ). slice_range given m.start k) tells.reported ∙ sym (part m.start m.end (omega (arith, some)) tells.read)

      after_plain : (sink' : W) → answer ≡ Some (Ok NonMatch) → Took K calls closure begun sink (slice_range given s'.told s'.reported) sink'
          → LeftRun K calls closure begun p bytes ms s'.from s'.reported now sink'
      after_plain sink' is took =
          let tells = tells_of p of (Some (Ok NonMatch)) is in
          subst (λ (k : ℕ). LeftRun K calls closure begun p bytes ms k s'.reported now sink') (sym tells.from)
          (left_run_plain K calls closure begun p bytes ms lengths (are p of) ((now_after p of).no_empty) s.from s.reported ((running.after p of).from_reported) now sink was s'.reported sink' (omega (arith, tells.some))
          (subst (λ (xs : List ℕ). Took K calls closure begun sink xs sink') (plain_part tells) took))

      after_match : (m : Occurrence) (next : F) (sink' : W) → answer ≡ Some (Ok (Match m)) → CalledOn calls now m (slice_range given s'.told s'.reported) sink (Ok tt) next sink'
          → LeftRun K calls closure begun p bytes ms s'.from s'.reported next sink'
      after_match m next sink' is called =
          let tells = tells_of p of (Some (Ok (Match m))) is in
          subst (λ (k : ℕ). LeftRun K calls closure begun p bytes ms k s'.reported next sink') (sym tells.from)
          (subst (λ (k : ℕ). LeftRun K calls closure begun p bytes ms m.end k next sink') (sym tells.reported)
          (left_run_match K calls closure begun p bytes ms lengths (are p of) ((now_after p of).no_empty) s.from s.reported ((running.after p of).from_reported) now sink was m (match_answer m tells) tells.starts next sink'
          (subst (λ (xs : List ℕ). CalledOn calls now m xs sink (Ok tt) next sink') (match_part m tells) called)))

    pub running_plain : (sink' : W) → answer ≡ Some (Ok NonMatch) → Took K calls closure begun sink (slice_range given s'.told s'.reported) sink' → Running lookups' s' source' now sink'
    running_plain sink' is took = record { given = given; gives = now_gives; after = now_after; rest = λ p bytes ms of may finds. after_plain p of bytes ms may finds sink' is took }

    pub running_match : (m : Occurrence) (next : F) (sink' : W) → answer ≡ Some (Ok (Match m)) → CalledOn calls now m (slice_range given s'.told s'.reported) sink (Ok tt) next sink' → Running lookups' s' source' next sink'
    running_match m next sink' is called = record { given = given; gives = now_gives; after = now_after; rest = λ p bytes ms of may finds. after_match p of bytes ms may finds m next sink' is called }

    pub less_run : (p : Patterns) → IsOf p → (piece : StreamPiece) → answer ≡ Some (Ok piece) → s'.limit ≡ s.limit → s'.limit - s'.reported < s.limit - s.reported
    less_run p of piece is same = less_left G automaton p lookups' s s' given piece (are p of) (now_after p of) (tells_of p of (Some (Ok piece)) is) same

    module _ (fails : S.failures source' ≡ counted (tells_read_fault answer) (S.failures first)) where
      read_failed_of : (told : Option (Result StreamPiece StreamError)) → answer ≡ told → S.failures source' ≡ counted (tells_read_fault told) (S.failures first)
      read_failed_of told is = fails ∙ ap (λ (a : Option (Result StreamPiece StreamError)). counted (tells_read_fault a) (S.failures first)) is

      -- no more was answered
      module _ (is : answer ≡ None) (below : s.refused ≡ false) (p₀ : Patterns) (of₀ : IsOf p₀) where
        over : (s'.ended ≡ true) × (s'.reported ≡ length given)
        over = all_told p₀ s s' given below (tells_of p₀ of₀ None is)

        bytes_given : (bytes : List ℕ) → MayBe given s'.ended bytes → bytes ≡ given
        bytes_given bytes may =
            let nothing : may.0 ≡ [] = subst (λ (b : Bool). MayFollow b may.0) over.0 may.2 in
            may.1 ∙ ap (λ (xs : List ℕ). given ++ xs) nothing ∙ append-nil given

        pub over_end : Over (Ok tt) now sink
        over_end = record {
          given = given;
          ended = s'.ended;
          stopped = false;
          gives = now_gives;
          whole = over.0;
          read_failed = read_failed_of None is;
          limit = λ stopped. cc;
          near = λ stopped. cc;
          run = λ p bytes ms of may finds.
              let tells = tells_of p of None is in
              let same = bytes_given bytes may in
              let none : IsAnswer p (search_from s.from bytes) None =
              subst (λ (xs : List ℕ). IsAnswer p (search_from s.from xs) None) (sym same)
              (subst (λ (k : ℕ). IsAnswer p (search_from k given) None) tells.still.from (tells.none (inr over.0))) in
              runs_to_end K calls closure begun p bytes ms lengths (are p of) ((now_after p of).no_empty) s.from s.reported ((running.after p of).from_reported) now sink
              (was p of bytes ms may finds) false none (ap (λ (xs : List ℕ). length xs) same ∙ sym over.1 ∙ tells.still.reported);
        }

      -- an error was answered
      module _ (error : StreamError) (is : answer ≡ Some (Err error)) (p₀ : Patterns) (of₀ : IsOf p₀) where
        tells_error : TellsError p₀ s s' given error
        tells_error = tells_of p₀ of₀ (Some (Err error)) is

        fault : TellsFault s s' given
        fault = fault_told p₀ s s' given error tells_error

        fills : IsFillRefusal error
        fills = fills_told p₀ s s' given error tells_error

        still_clear : (p : Patterns) (of : IsOf p) (bytes : List ℕ) (ms : List Occurrence) (may : MayBe given s'.ended bytes) (finds : AreFinds p (plain_search bytes) None ms)
            (m : Occurrence) → IsAnswer p (search_from s.from bytes) (Some m) → s'.reported ≤ m.start
        still_clear p of bytes ms may finds m found =
            (now_after p of).clear may.0 m may.2 (subst (λ (k : ℕ). IsAnswer p (search_from k (given ++ may.0)) (Some m)) (sym fault.still.from)
            (subst (λ (xs : List ℕ). IsAnswer p (search_from s.from xs) (Some m)) may.1 found))

        pub over_error : s.limit ≡ greatest_position → Over (Err error) now sink
        over_error greatest = record {
          given = given;
          ended = s'.ended;
          stopped = true;
          gives = now_gives;
          whole = tt;
          read_failed = read_failed_of (Some (Err error)) is ∙ ap (λ (b : Bool). counted b (S.failures first)) (same_fault StreamPiece (Unit {0}) error);
          limit = λ stopped met. (limit_told p₀ s s' given error tells_error met ∙ greatest, ((now_after p₀ of₀).stopped (refused_told p₀ s s' given error tells_error met)).1);
          near = λ stopped.
              let a' = now_after p₀ of₀ in (
                s.reported,
                omega (arith, fault.still.reported, a'.reported_walked, a'.walked_read, a'.count),
                λ p of. subst (λ (ns : List ℕ). length given ≤ s.reported + kept_for ns) (are p of) (omega (arith, fault.still.reported, fault.near, a'.least)),
                λ p bytes ms of may finds.
                    runs_up_to K calls closure begun p bytes ms lengths (are p of) (now_after p of).no_empty s.from s.reported ((running.after p of).from_reported) now sink
                    (was p of bytes ms may finds) true (λ m found. omega (arith, still_clear p of bytes ms may finds m found, fault.still.reported)),
              );
          run = λ p bytes ms of may finds.
              let left = was p of bytes ms may finds in
              let a = running.after p of in
              let a' = now_after p of in
              let clear = still_clear p of bytes ms may finds in
              runs_to_stop K calls closure begun p bytes ms lengths (are p of) a'.no_empty s.from s.reported a.from_reported now sink left
              true s'.reported (omega (arith, fits p of bytes ms may finds, a'.reported_walked, a'.walked_read, a'.count)) clear
              (s.reported - s.from) (omega (arith, a.from_reported, fault.still.reported)) error sink
              left.gap.bytes_are
              (left.gap.no_failure ∙ ap (λ (b : Bool). counted b (K.failures left.lent)) (sym (no_write error fills).0))
              (left.gap.no_empty_write ∙ ap (λ (b : Bool). counted b (K.empty_writes left.lent)) (sym (no_write error fills).1))
              fills;
        }

      -- a write of bytes outside of every match was refused
      module _ (is : answer ≡ Some (Ok NonMatch)) (sink' : W) (error : StreamError)
          (wrote : AppendsBeginning (K.taken sink) (K.taken sink') (slice_range given s'.told s'.reported))
          (failing : K.failures sink' ≡ counted (is_write_fault {A = Unit {0}} (Err error)) (K.failures sink))
          (nothing : K.empty_writes sink' ≡ counted (is_write_of_nothing {A = Unit {0}} (Err error)) (K.empty_writes sink))
          (only : IsWriteRefusal error) where
        pub over_write : Over (Err error) now sink'
        over_write = record {
          given = given;
          ended = s'.ended;
          stopped = false;
          gives = now_gives;
          whole = tt;
          read_failed = read_failed_of (Some (Ok NonMatch)) is;
          limit = λ stopped. cc;
          near = λ stopped. cc;
          run = λ p bytes ms of may finds.
              let tells = tells_of p of (Some (Ok NonMatch)) is in
              let left = was p of bytes ms may finds in
              let a = running.after p of in
              let clear = λ (m : Occurrence) (found : IsAnswer p (search_from s.from bytes) (Some m)).
              tells.clear may.0 m may.2 (subst (λ (xs : List ℕ). IsAnswer p (search_from s.from xs) (Some m)) may.1 found) in
              let short : wrote.0 ≤ s'.reported - s.reported =
              omega (
                arith,
                subst (λ (xs : List ℕ). wrote.0 ≤ length xs) (plain_part p of bytes ms may finds tells) wrote.1,
                length_part bytes s.reported s'.reported (omega (arith, tells.read, fits p of bytes ms may finds)),
              ) in
              runs_to_stop K calls closure begun p bytes ms lengths (are p of) a.no_empty s.from s.reported a.from_reported now sink left
              false s'.reported (omega (arith, fits p of bytes ms may finds, tells.read)) clear
              ((s.reported - s.from) + wrote.0) (omega (arith, a.from_reported, short, tells.some)) error sink'
              (subst (Appends (K.taken left.lent) (K.taken sink')) (sym (take_behind bytes s.from s.reported s'.reported wrote.0 a.from_reported short))
              (Appends-trans (K.taken left.lent) (K.taken sink) (K.taken sink') (slice_range bytes s.from s.reported) (take wrote.0 (slice_range bytes s.reported s'.reported)) left.gap.bytes_are
              (subst (λ (xs : List ℕ). Appends (K.taken sink) (K.taken sink') (take wrote.0 xs)) (plain_part p of bytes ms may finds tells) wrote.2)))
              (failing ∙ ap (counted (is_write_fault {A = Unit {0}} (Err error))) left.gap.no_failure)
              (nothing ∙ ap (counted (is_write_of_nothing {A = Unit {0}} (Err error))) left.gap.no_empty_write)
              only;
        }

      -- or the closure refused
      pub over_refusal : (m : Occurrence) → answer ≡ Some (Ok (Match m)) → (error : StreamError) (next : F) (sink' : W)
          → CalledOn calls now m (slice_range given s'.told s'.reported) sink (Err error) next sink' → Over (Err error) next sink'
      over_refusal m is error next sink' called = record {
        given = given;
        ended = s'.ended;
        stopped = false;
        gives = now_gives;
        whole = tt;
        read_failed = read_failed_of (Some (Ok (Match m))) is;
        limit = λ stopped. cc;
        near = λ stopped. cc;
        run = λ p bytes ms of may finds.
            let tells = tells_of p of (Some (Ok (Match m))) is in
            let a = running.after p of in
            runs_to_refusal K calls closure begun p bytes ms lengths (are p of) a.no_empty s.from s.reported a.from_reported now sink (was p of bytes ms may finds)
            m (match_answer p of bytes ms may finds m tells) tells.starts false error next sink'
            (subst (λ (xs : List ℕ). CalledOn calls now m xs sink (Err error) next sink') (match_part p of bytes ms may finds m tells) called);
      }

-- what is said of a closure that is left is said without it
pub over_any : {R F W : Type 0} (S : SourceGhosts R) (K : SinkGhosts W) (IsOf : Patterns → Type 0)
    (calls : Mut F (Bor Occurrence × (Bor (List ℕ) × (MutBor W × Unit {0}))) (Result (Unit {0}) StreamError × (MutBor W × Unit {0})))
    (source source' : R) (closure : F) (sink : W) (result : Result (Unit {0}) StreamError) (last : F) (sink' : W)
    → RunsAndLeaves S K IsOf calls source source' closure sink result last sink' → RunsOver S K IsOf calls source source' closure sink result sink'
over_any S K IsOf calls source source' closure sink result last sink' over = record {
  given = over.given;
  ended = over.ended;
  stopped = over.stopped;
  gives = over.gives;
  whole = over.whole;
  read_failed = over.read_failed;
  limit = over.limit;
  run = λ p bytes ms of may finds. (last, over.run p bytes ms of may finds);
  near = λ stopped. let near = over.near stopped in (near.0, near.1, near.2, λ p bytes ms of may finds. (last, near.3 p bytes ms of may finds));
}
