-- What is left of a run of a closure over a stream, from one chunk told to the next.
use Rattle.std.proofs.Common.{◌≡◌, ℕ, ◌+◌, ◌-◌, ◌≤◌, Bool, true, if◌then◌else◌, List, [], ◌∷◌, ◌++◌, length, drop, take, map, refl, sym, ◌∙◌, ap, subst, arith, append-nil, inl, inr}
use Rattle.std.specs.Prelude.{Option, Some, None, Result, Ok, Err, MatchBool, slice_range}
use Rattle.std.specs.Borrow.{Bor, MutBor}
use Rattle.std.specs.Fn.{Mut}
use Rattle.std.specs.Io.KnownBytes.{Appends}
use Rattle.std.proofs.KnownBytes.{Appends-nil, Appends-trans}
use Rattle.std.proofs.lemmas.Bool.{lt-ltb, le-ltb}
use Rattle.std.proofs.lemmas.List.{drop_all, drop-take, length-drop, length-take, take-take}
use Rattle.std.proofs.lemmas.List.Folds.{drop_split}
use Rattle.aho_core.specs.declared.error.stream.StreamError.{StreamError}
use Rattle.aho_core.specs.Answer.{IsAnswer}
use Rattle.aho_core.specs.ClosureRun.{CalledOn, ClosureRun}
use Rattle.aho_core.specs.Iteration.{AreFinds}
use Rattle.aho_core.specs.Laws.{shortest}
use Rattle.aho_core.specs.Occurrence.{Occurrence}
use Rattle.aho_core.specs.Patterns.{Patterns}
use Rattle.aho_core.specs.Search.{plain_search}
use Rattle.aho_devices.specs.Counts.{counted}
use Rattle.aho_devices.specs.Refusals.{IsFillRefusal, IsWriteRefusal, is_write_fault, is_write_of_nothing}
use Rattle.aho_devices.specs.declared.device.Sink.{Ghosts as SinkGhosts}
use Rattle.aho_automaton.proofs.NextFinds.{finds-next, finds-none}
use Rattle.aho_automaton.proofs.Places.{no_part, part_join}
use Rattle.aho_stream.specs.After.{search_from}
use Rattle.aho_stream.specs.StreamRun.{CallsOn, SinkTakes, starting_before}
use Rattle.aho_stream.proofs.PatternLengths.{occurs_some}
use Rattle.aho_stream.proofs.StreamFinds.{answer_of_find, find_of_answer}

-- a part of what stands before a place
part_cut : (bytes : List ℕ) (place start end : ℕ) → start ≤ end → end ≤ place → slice_range (take place bytes) start end ≡ slice_range bytes start end
part_cut bytes place start end ordered within =
    let split : start + (place - start) ≡ place = omega arith in
    ap (take (end - start)) (ap (λ (k : ℕ). drop start (take k bytes)) (sym split) ∙ drop-take start (place - start) bytes)
    ∙ take-take (end - start) (place - start) (drop start bytes) (omega arith)

module _ {F S : Type 0} (K : SinkGhosts S) (calls : Mut F (Bor Occurrence × (Bor (List ℕ) × (MutBor S × Unit {0}))) (Result (Unit {0}) StreamError × (MutBor S × Unit {0}))) (closure : F) (begun : S) where
  -- a sink took bytes, and none of its counts rose
  pub record Took (old : S) (bytes : List ℕ) (new : S) : Type 0 where
    pub bytes_are : Appends (K.taken old) (K.taken new) bytes
    pub no_failure : K.failures new ≡ K.failures old
    pub no_empty_write : K.empty_writes new ≡ K.empty_writes old

  -- a run of the closure
  abbrev pub Run : Bool → List ℕ → ℕ → List Occurrence → F → S → Result (Unit {0}) StreamError → F → S → Type 0
  Run stopped bytes = ClosureRun (SinkTakes K stopped) (CallsOn calls) bytes

  took_takes : (stopped : Bool) (old : S) (bytes : List ℕ) (new : S) → Took old bytes new → SinkTakes K stopped old bytes (Ok tt) new
  took_takes stopped old bytes new took = record { whole = took.bytes_are; beginning = tt; write_failed = took.no_failure; took_nothing = took.no_empty_write; only = tt }

  module _ (p : Patterns) (bytes : List ℕ) (ms : List Occurrence) where
    -- the closure and the sink stand so, the sink since the last call: it goes on to the whole run
    pub record LeftRun (from reported : ℕ) (now : F) (sink : S) : Type 0 where
      pub last : Option ℕ
      pub rest : List Occurrence
      pub finds : AreFinds p (search_from from bytes) last rest
      pub lent : S
      pub gap : Took lent (slice_range bytes from reported) sink
      pub whole : (stopped : Bool) (result : Result (Unit {0}) StreamError) (left : F) (new : S) → Run stopped bytes from rest now lent result left new → Run stopped bytes 0 ms closure begun result left new
      -- and the run up to a place to that up to the place
      pub up_to : (place : ℕ) → reported ≤ place → (stopped : Bool) (result : Result (Unit {0}) StreamError) (left : F) (new : S)
          → Run stopped (take place bytes) from (starting_before place rest) now lent result left new → Run stopped (take place bytes) 0 (starting_before place ms) closure begun result left new

    pub left_run_first : AreFinds p (plain_search bytes) None ms → LeftRun 0 0 closure begun
    left_run_first finds = record {
      last = None;
      rest = ms;
      finds = finds;
      lent = begun;
      gap = record { bytes_are = subst (Appends (K.taken begun) (K.taken begun)) (sym (no_part bytes 0)) (Appends-nil (K.taken begun)); no_failure = refl; no_empty_write = refl };
      whole = λ stopped result left new run. run;
      up_to = λ place after stopped result left new run. run;
    }

    module _ (lengths : List ℕ) (are : lengths ≡ map length p.words) (no_empty : 1 ≤ shortest lengths) (from reported : ℕ) (ordered : from ≤ reported) (now : F) (sink : S) (left : LeftRun from reported now sink) where
      -- bytes outside of every match were written
      pub left_run_plain : (reported' : ℕ) (sink' : S) → reported ≤ reported' → Took sink (slice_range bytes reported reported') sink' → LeftRun from reported' now sink'
      left_run_plain reported' sink' later took = record {
        last = left.last;
        rest = left.rest;
        finds = left.finds;
        lent = left.lent;
        gap = record {
          bytes_are = subst (Appends (K.taken left.lent) (K.taken sink')) (sym (part_join bytes from reported reported' ordered later))
              (Appends-trans (K.taken left.lent) (K.taken sink) (K.taken sink') (slice_range bytes from reported) (slice_range bytes reported reported') left.gap.bytes_are took.bytes_are);
          no_failure = took.no_failure ∙ left.gap.no_failure;
          no_empty_write = took.no_empty_write ∙ left.gap.no_empty_write;
        };
        whole = left.whole;
        up_to = λ place after. left.up_to place (omega (arith, after, later));
      }

      -- no more comes, and all was written
      pub runs_to_end : (stopped : Bool) → IsAnswer p (search_from from bytes) None → length bytes ≡ reported → Run stopped bytes 0 ms closure begun (Ok tt) now sink
      runs_to_end stopped none all =
          let over : left.rest ≡ [] = finds-none p (search_from from bytes) left.last left.rest left.finds (find_of_answer p lengths are no_empty bytes from left.last None none) in
          let rest : slice_range bytes from reported ≡ drop from bytes =
          sym (drop_split bytes from reported ordered ∙ ap (λ (xs : List ℕ). slice_range bytes from reported ++ xs) (drop_all reported bytes (omega (arith, all))) ∙ append-nil (slice_range bytes from reported)) in
          let run : Run stopped bytes from [] now left.lent (Ok tt) now sink =
          (refl, took_takes stopped left.lent (drop from bytes) sink (subst (λ (xs : List ℕ). Took left.lent xs sink) rest left.gap)) in
          left.whole stopped (Ok tt) now sink (subst (λ (ns : List Occurrence). Run stopped bytes from ns now left.lent (Ok tt) now sink) (sym over) run)

      none_before : ((m : Occurrence) → IsAnswer p (search_from from bytes) (Some m) → reported ≤ m.start) → (last : Option ℕ) (rest : List Occurrence)
          → AreFinds p (search_from from bytes) last rest → starting_before reported rest ≡ []
      none_before clear last [] finds = refl
      none_before clear last (m ∷ rest) finds =
          ap (λ (b : Bool). if b then m ∷ starting_before reported rest else [])
          (le-ltb m.start reported (clear m (answer_of_find p lengths are no_empty bytes from last (Some m) finds.0)))

      -- where the next match starts at what was reported or later, the run up to there has come to its end
      pub runs_up_to : (stopped : Bool) → ((m : Occurrence) → IsAnswer p (search_from from bytes) (Some m) → reported ≤ m.start)
          → Run stopped (take reported bytes) 0 (starting_before reported ms) closure begun (Ok tt) now sink
      runs_up_to stopped clear =
          let split : from + (reported - from) ≡ reported = omega arith in
          let gap : drop from (take reported bytes) ≡ slice_range bytes from reported = ap (λ (k : ℕ). drop from (take k bytes)) (sym split) ∙ drop-take from (reported - from) bytes in
          let run : Run stopped (take reported bytes) from [] now left.lent (Ok tt) now sink =
          (refl, took_takes stopped left.lent (drop from (take reported bytes)) sink (subst (λ (xs : List ℕ). Took left.lent xs sink) (sym gap) left.gap)) in
          left.up_to reported (omega arith) stopped (Ok tt) now sink
          (subst (λ (ns : List Occurrence). Run stopped (take reported bytes) from ns now left.lent (Ok tt) now sink) (sym (none_before clear left.last left.rest left.finds)) run)

      -- a beginning of the next gap was taken, and then it stopped
      module _ (stopped : Bool) (place : ℕ) (within : place ≤ length bytes) (clear : (m : Occurrence) → IsAnswer p (search_from from bytes) (Some m) → place ≤ m.start)
          (count : ℕ) (short : from + count ≤ place) (reason : StreamError) (new : S)
          (wrote : Appends (K.taken left.lent) (K.taken new) (take count (drop from bytes)))
          (failed : K.failures new ≡ counted (is_write_fault {A = Unit {0}} (Err reason)) (K.failures left.lent))
          (nothing : K.empty_writes new ≡ counted (is_write_of_nothing {A = Unit {0}} (Err reason)) (K.empty_writes left.lent))
          (only : MatchBool stopped (IsFillRefusal reason) (IsWriteRefusal reason)) where
        takes_beginning : (gap : List ℕ) → count ≤ length gap → take count gap ≡ take count (drop from bytes) → SinkTakes K stopped left.lent gap (Err reason) new
        takes_beginning gap fits same = record {
          whole = tt;
          beginning = (count, fits, subst (Appends (K.taken left.lent) (K.taken new)) (sym same) wrote);
          write_failed = failed;
          took_nothing = nothing;
          only = only;
        }

        stops_in : (last : Option ℕ) (rest : List Occurrence) → AreFinds p (search_from from bytes) last rest → Run stopped bytes from rest now left.lent (Err reason) now new
        stops_in last [] finds = (refl, takes_beginning (drop from bytes) (omega (arith, length-drop from bytes)) refl)
        stops_in last (m ∷ rest) finds =
            let behind = clear m (answer_of_find p lengths are no_empty bytes from last (Some m) finds.0) in
            let fits : count ≤ length (slice_range bytes from m.start) = rw (length-take, length-drop) (omega arith) in
            inl (reason, refl, refl, takes_beginning (slice_range bytes from m.start) fits (take-take count (m.start - from) (drop from bytes) (omega arith)))

        pub runs_to_stop : Run stopped bytes 0 ms closure begun (Err reason) now new
        runs_to_stop = left.whole stopped (Err reason) now new (stops_in left.last left.rest left.finds)

      module _ (m : Occurrence) (answer : IsAnswer p (search_from from bytes) (Some m)) (starts : m.start ≡ reported) where
        next_rest : (rest : List Occurrence) × (left.rest ≡ m ∷ rest) × AreFinds p (search_from m.end bytes) (Some m.end) rest
        next_rest = finds-next p (search_from from bytes) left.last m left.rest (omega arith) left.finds (find_of_answer p lengths are no_empty bytes from left.last (Some m) answer)

        took_gap : Took left.lent (slice_range bytes from m.start) sink
        took_gap = subst (λ (k : ℕ). Took left.lent (slice_range bytes from k) sink) (sym starts) left.gap

        -- the closure was called on a match, and goes on
        pub left_run_match : (next : F) (sink' : S) → CalledOn calls now m (slice_range bytes m.start m.end) sink (Ok tt) next sink' → LeftRun m.end m.end next sink'
        left_run_match next sink' called =
            let (rest, same, finds) = next_rest in
            record {
              last = Some m.end;
              rest = rest;
              finds = finds;
              lent = sink';
              gap = record { bytes_are = subst (Appends (K.taken sink') (K.taken sink')) (sym (no_part bytes m.end)) (Appends-nil (K.taken sink')); no_failure = refl; no_empty_write = refl };
              whole = λ stopped result last new run.
                  let whole_run : Run stopped bytes from (m ∷ rest) now left.lent result last new =
                  inr (sink, took_takes stopped left.lent (slice_range bytes from m.start) sink took_gap, (Ok true, next, sink', (refl, called), run)) in
                  left.whole stopped result last new (subst (λ (ns : List Occurrence). Run stopped bytes from ns now left.lent result last new) (sym same) whole_run);
              up_to = λ place after stopped result last new run.
                  let some = occurs_some p lengths are m answer.0 no_empty in
                  let cut : starting_before place left.rest ≡ m ∷ starting_before place rest =
                  ap (starting_before place) same ∙ ap (λ (b : Bool). if b then m ∷ starting_before place rest else []) (lt-ltb m.start place (omega (arith, some, after))) in
                  let gap = part_cut bytes place from m.start (omega (arith, starts, ordered)) (omega (arith, some, after)) in
                  let piece = part_cut bytes place m.start m.end (omega (arith, some)) after in
                  let cut_run : Run stopped (take place bytes) from (m ∷ starting_before place rest) now left.lent result last new =
                  inr (
                    sink,
                    took_takes stopped left.lent (slice_range (take place bytes) from m.start) sink (subst (λ (xs : List ℕ). Took left.lent xs sink) (sym gap) took_gap),
                    (Ok true, next, sink', (refl, subst (λ (xs : List ℕ). CalledOn calls now m xs sink (Ok tt) next sink') (sym piece) called), run),
                  ) in
                  left.up_to place (omega (arith, some, starts, after)) stopped result last new
                  (subst (λ (ns : List Occurrence). Run stopped (take place bytes) from ns now left.lent result last new) (sym cut) cut_run);
            }

        -- or it refused
        pub runs_to_refusal : (stopped : Bool) (reason : StreamError) (next : F) (sink' : S) → CalledOn calls now m (slice_range bytes m.start m.end) sink (Err reason) next sink'
            → Run stopped bytes 0 ms closure begun (Err reason) next sink'
        runs_to_refusal stopped reason next sink' called =
            let (rest, same, finds) = next_rest in
            let run : Run stopped bytes from (m ∷ rest) now left.lent (Err reason) next sink' =
            inr (sink, took_takes stopped left.lent (slice_range bytes from m.start) sink took_gap, (Err reason, next, sink', called, (refl, refl, refl))) in
            left.whole stopped (Err reason) next sink' (subst (λ (ns : List Occurrence). Run stopped bytes from ns now left.lent (Err reason) next sink') (sym same) run)
