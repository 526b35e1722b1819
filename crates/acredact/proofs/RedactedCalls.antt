-- What comes of a call whose patterns were loaded, behind what is told of these, by what comes of its files: of one that redacts them to the output, and of
-- one that replaces them, one after another.
use Rattle.acredact.proofs.Common.{AreCleanBy, AreLoaded, Bool, Call, CallOutcome, ComesOf, CountsOfNames, CountsThese, DoesJob, EachIsWritten, EndsCall, Err, Errors, Failure, FilesOutcome, FromWrite, Given, IfErr, IfErr-weaker, IfOk, IsLineOf, IsPlaceLine, IsSparedLine, IsUnreadLine, IsWarningLine, IsWordLine, List, Loaded, MatchBool, MayFail, Ok, OnOk, Option, Other, OutOfMemory, OutputFails, PlacesOutcome, Readers, ReadsVolume, Reason, Redactor, Result, Rule, SinkGhosts, StreamError, Streams, Strict, Task, Tells, TellsCounts, TellsOfFiles, TellsSome, TellsUnlessAll, Volume, WarnsLoaded, Work, Writers, [], ap, arith, bytes_left, counts_asked, counts_none, counts_then, failure_of_stream, false, has, inl, inr, is_input, is_some, names_asked, no_volume, on_ok_weaker, output_bytes, reading_by, refl, secrets_of, subst, sums_of, sym, task_of, true, unread_line, work_by, zeros, ℕ, ◌&&◌, ◌++◌, ◌∙◌, ◌∷◌, ◌≡◌, ◌⊎◌}
use Rattle.std.specs.Prelude.{IfSome}
use Rattle.acredact.specs.Calls.{DoneCall, IsCountsFailure, IsCountsLine, IsOfLoaded, LoadsCall, WarnsAndCounts, redactor_by_given}
use Rattle.acredact.specs.Counts.{secret_lines}
use Rattle.acredact.specs.Files.{TaskOutcome}
use Rattle.acredact.specs.Loading.{loaded_as}
use Rattle.acredact.specs.Summaries.{totals_text}
use Rattle.acredact.proofs.Calls.{clean_pieces, may_fail, none_are, run_failure, some_told, some_weaker, tells_both, tells_last, tells_same, tells_weaker, unread_of, warnings_may}
use Rattle.acredact.proofs.Done.{all_so, cut_of, redacted_of}
use Rattle.acredact.proofs.Hiding.{free_of}
use Rattle.acredact.proofs.Outcomes.{comes_early, files_then, status_says}
use Rattle.acredact.proofs.Totals.{bounded_from, one_added, one_counts, totals_told, volume_more}
use Rattle.std.specs.declared.alloc.AllocError.{AllocError}
use Rattle.acredact.specs.InPlace.{AreInTurn, BeginInTurn, CalledPlaces, IsFreed, IsPlaced, IsReplaced, IsSettled, IsSpared, IsSparedOf, PlaceOutcome, PlaceState, PlacesEach, PlacesStatus, ReachesCall, SparesCall, TellsEnd, TellsUnread}
use Rattle.acredact.specs.declared.outputs.Outputs.{Ghosts as Places}
use Rattle.acredact.proofs.Turns.{all_joined, also, told_then, told_any}

-- what comes of some files
module _ {R W E : Type 0} {Reads : Readers R} (Writes : Writers W) (K : SinkGhosts E) (task : Task) (names : List (List ℕ)) (old new : Streams R W E Reads) where
  -- where all were read nothing is told
  pub all_redacted : (result : Result Bool StreamError) → TaskOutcome Writes K task names result old new → result ≡ Ok true
      → EachIsWritten task names (bytes_left old.input) (bytes_left new.input) (output_bytes Writes old.output) (output_bytes Writes new.output)
  all_redacted result files is = let (lines, is_all, (done, told)) = rw is at files.done in redacted_of task names lines _ _ _ _ (none_are lines (sym is_all)) done

  -- of each other one it is told why it was not
  pub files_told : (result : Result Bool StreamError) → TaskOutcome Writes K task names result old new → TellsOfFiles K names result old.errors new.errors
  files_told (Ok true) files = files.quiet refl
  files_told (Ok false) files =
      let (lines, is_all, (done, told)) = files.done in
      some_told K (IsUnreadLine names) old.errors new.errors lines (unread_of task names lines _ _ _ _ (cut_of task names lines _ _ _ _ done)) told is_all
  files_told (Err error) files = let (lines, (cut, told)) = files.cut in record { told = lines; are_lines = unread_of task names lines _ _ _ _ cut; written = told }

-- the pieces of what redacts are clean, and all that occurs counts
abbrev pub FreesBy : Redactor → Type 0 → Type 0
FreesBy r Free = r.covers ≡ true → r.words ≡ false → AreCleanBy (is_some r.key) r.patterns r.pieces → Free

-- the counts of these rules are told, if that is so
abbrev pub TellsIf : {E : Type 0} → SinkGhosts E → List Given → List Rule → (counts : List ℕ) → Volume → (errors errors' : Errors E) → Bool → Type 0
TellsIf K given rules counts volume errors errors' counted = MatchBool counted (TellsCounts K given rules counts volume errors errors') (errors' ≡ errors)

-- as this line, where they are asked for
abbrev pub IsTotals : List Given → List Rule → (counts : List ℕ) → Volume → List ℕ → Type 0
IsTotals given rules counts volume line = (counts_asked given ≡ true) × (line ≡ totals_text given (secret_lines (secrets_of rules)) (sums_of (secrets_of rules) counts) volume)

-- where a new file does not take the place of the one of this name it is told why, or was told before
pub unput_told : {E : Type 0} (K : SinkGhosts E) (name : List ℕ) (Less More : List ℕ → Type 0) {Partly : Type 0} (old mid new : Errors E) → ((line : List ℕ) → Less line → More line) → ((reason : Reason) → More (unread_line name reason))
    → (Partly × (new ≡ mid)) ⊎ TellsUnread K name mid new → Tells K Less old mid → (Partly → TellsSome K Less old mid) → TellsSome K More old new
unput_told K name Less More old mid new weaker why (inl (partly, same)) told some = rw same (some_weaker K Less More old mid weaker (some partly))
unput_told K name Less More old mid new weaker why (inr (reason, line)) told some =
    tells_last K More old mid new (unread_line name reason) (tells_weaker K Less More old mid weaker told) (why reason) line

-- what is told of a file, and then of others
spared_more : {E : Type 0} (K : SinkGhosts E) (name : List ℕ) (names : List (List ℕ)) (whole : Bool) (result : Result Bool AllocError) (e mid e' : Errors E) → TellsUnlessAll {X = AllocError} K (IsSparedLine name) (Ok whole) e mid → TellsUnlessAll K (IsSparedOf names) result mid e'
    → TellsUnlessAll K (IsSparedOf (name ∷ names)) (also all_joined whole result) e e'
spared_more K name names = told_then K (IsSparedLine name) (IsSparedOf names) (IsSparedOf (name ∷ names)) (λ line is. (name, inl refl, is)) (λ line is. (is.0, inr is.1, is.2))

module _ {O Z : Type 0} (Writes : Writers Z) (U : Places O Z) (work : Work) where
  -- before any file
  begin_none : (names : List (List ℕ)) (outputs : O) → BeginInTurn (IsPlaced Writes U work) names outputs outputs
  begin_none [] outputs = refl
  begin_none (name ∷ names) outputs = inl refl

  -- where the pieces are clean no pattern is left
  freed_all : work.redactor.covers ≡ true → work.redactor.words ≡ false → AreCleanBy (is_some work.redactor.key) work.redactor.patterns work.redactor.pieces → (names : List (List ℕ)) (outputs outputs' : O)
      → AreInTurn (IsReplaced Writes U work) names outputs outputs' → AreInTurn (IsFreed Writes U work) names outputs outputs'
  freed_all covers every clean [] outputs outputs' all = all
  freed_all covers every clean (name ∷ names) outputs outputs' (mid, (file', new, left, left', redacted), others) =
      (mid, (file', new, left, left', free_of work covers every clean (name ∷ []) left left' _ _ redacted), freed_all covers every clean names mid outputs' others)

module _ {R O Z E : Type 0} {Reads : Readers R} {Writes : Writers Z} {K : SinkGhosts E} {U : Places O Z} {work : Work} where
  -- a file is spared
  pub place_spared : {name : List ℕ} {old new : PlaceState Reads O Z E} → IsSpared U name old.0 new.0 → TellsSome K (IsSparedLine name) old.1.errors new.1.errors → PlaceOutcome Writes K U work name (Ok false) old new
  place_spared spared told = record { replaced = λ (is : Ok false ≡ Ok true). absurd (cc); placed = inr spared; told = told }

  -- a new file was made, and was filled by the redaction of the one of this name
  module _ {name : List ℕ} {outputs : O} {old filled : Streams R Z E Reads} {counts counts' : List ℕ} {volume volume' : Volume} {done : Result Bool StreamError}
      (mid : O) (file : FromWrite Z) (made : U.makes outputs mid name (output_bytes Writes file)) (does : DoesJob Writes K (task_of work) (name ∷ []) done (record old { output = file }) filled counts counts' volume volume') where
    -- memory ran out, and it was removed
    pub place_cut : {outputs' : O} {error : AllocError} → U.removes mid outputs' name → PlaceOutcome Writes K U work name (Err error) (outputs, old, counts, volume) (outputs', filled, counts', volume')
    place_cut {error = error} removed =
        let told = told_any K (name ∷ []) (IsSparedLine name) done _ _ (λ line is. inl is) (files_told Writes K _ _ _ _ done does.outcome) in
        record { replaced = λ (is : Err error ≡ Ok true). absurd (cc); placed = inr (inr (inr (record { held = _; meanwhile = mid; made = made; kept = inl removed }))); told = told }

    -- or it was seen what becomes of it
    pub place_settled : {outputs' : O} {put : Bool} {errors : Errors E} → is_input name ≡ false → IfSome (output_bytes Writes file) (λ held. held ≡ []) → IsSettled Writes K U name done filled.output put mid outputs' filled.errors errors
        → PlaceOutcome Writes K U work name (Ok put) (outputs, old, counts, volume) (outputs', record filled { errors = errors }, counts', volume')
    place_settled {outputs' = outputs'} {put = true} named empty (all, quiet, puts) =
        let redacted = all_redacted Writes K _ _ _ _ done does.outcome all in
        let is : IsReplaced Writes U work name outputs outputs' =
        (filled.output, record { named = named; file = file; meanwhile = mid; made = made; empty = empty; flushed = rw all at does.flushed; puts = puts }, bytes_left old.input, bytes_left filled.input, redacted) in
        record { replaced = λ whole. (is, one_counts work name _ _ _ _ (does.counted all), does.read all); placed = inl is; told = quiet ∙ (rw all at (files_told Writes K _ _ _ _ done does.outcome)) }
    place_settled {put = false} {errors = errors} named empty (kept, unput) =
        let told = files_told Writes K _ _ _ _ done does.outcome in
        place_spared (inr (inr (record { held = _; meanwhile = mid; made = made; kept = kept })))
        (unput_told K name (IsUnreadLine (name ∷ [])) _ _ _ _ (λ line is. inl is) (λ reason. inl (name, inl refl, inl (reason, refl))) unput (told_any K (name ∷ []) _ done _ _ (λ line is. is) told) (λ part. rw part at told))

  -- of none
  pub places_none : (old : PlaceState Reads O Z E) → PlacesOutcome Writes K U work [] (Ok true) old old
  places_none old = record { replaced = λ is. (refl, ([], (refl, refl), counts_none old.2), record { bytes = (refl, refl); files = omega arith }); placed = refl; begun = refl; told = refl }

  module _ {name : List ℕ} {names : List (List ℕ)} {old mid : PlaceState Reads O Z E} where
    -- what comes of a file, and then of others
    pub places_more : {whole : Bool} → PlaceOutcome Writes K U work name (Ok whole) old mid → (result : Result Bool AllocError) (end : PlaceState Reads O Z E) → PlacesOutcome Writes K U work names result mid end
        → PlacesOutcome Writes K U work (name ∷ names) (also all_joined whole result) old end
    places_more {whole} one (Ok all) end more = record {
      replaced = λ is.
          let (first_so, rest_so) = all_so whole all (Ok (whole && all)) refl is in
          let (here, (first, has, grown), read) = one.replaced (ap Ok first_so) in
          let (there, (rest, have, later), reads) = more.replaced (ap Ok rest_so) in (
            (mid.0, here, there),
            (first ++ rest, (first, rest, refl, bytes_left mid.1.input, has, have), counts_then first rest old.2 mid.2 end.2 grown later),
            volume_more work.holds name names old.3 mid.3 end.3 _ _ _ (one_added work.holds name old.3 mid.3 _ _ read) read.files reads,
          );
      placed = (mid.0, one.placed, more.placed);
      begun = inr (mid.0, one.placed, more.begun);
      told = spared_more K name names whole (Ok all) old.1.errors mid.1.errors end.1.errors one.told more.told;
    }
    places_more {whole} one (Err error) end more =
        record { replaced = λ (is : Err error ≡ Ok true). absurd (cc); placed = tt; begun = inr (mid.0, one.placed, more.begun); told = spared_more K name names whole (Err error) _ mid.1.errors _ one.told more.told }

    -- or memory ran out at it
    pub place_ends : {error : AllocError} → PlaceOutcome Writes K U work name (Err error) old mid → PlacesOutcome Writes K U work (name ∷ names) (Err error) old mid
    place_ends {error} one =
        record { replaced = λ (is : Err error ≡ Ok true). absurd (cc); placed = tt; begun = inr (mid.0, one.placed, begin_none Writes U work names mid.0); told = tells_weaker K _ _ _ _ (λ line is. (name, inl refl, is)) one.told }

-- of patterns that were loaded as these rules the files were come to, whatever is done with each
module _ {R : Type 0} {Reads : Readers R} {W E : Type 0} (Writes : Writers W) (K : SinkGhosts E) (call : Call) (left : Option (List ℕ)) (rules : List Rule) (key : Option (List ℕ)) (old mid : Streams R W E Reads)
    (loaded : AreLoaded (reading_by call) call.given (loaded_as rules key) left (bytes_left old.input)) (first : Errors E) (warnings : WarnsLoaded K call (loaded_as rules key) first old.errors) where
  loads : {Is : Loaded → Option (List ℕ) → Type 0} → Is (loaded_as rules key) (bytes_left old.input) → LoadsCall call left Is
  loads is = record { load = loaded_as rules key; between = bytes_left old.input; loaded = loaded; is = is }

  -- what is told of patterns, and then of files that are redacted to the output
  warned_tell : (IsTold : List ℕ → Type 0) → ((line : List ℕ) → IsWarningLine call line → IsTold line) → Tells K IsTold first old.errors
  warned_tell IsTold may = warnings_may K call IsTold may (loaded_as rules key) left (bytes_left old.input) loaded first old.errors warnings

  words_told : (result : Result Bool StreamError) → FilesOutcome Writes K (work_by call (loaded_as rules key)) result old mid → Tells K (IsWordLine call) first mid.errors
  words_told result files =
      tells_both K (IsWordLine call) _ _ _ (warned_tell (IsWordLine call) (λ line is. inr is)) (told_any K (names_asked call.given) (IsWordLine call) result _ _ (λ line is. inl is) (files_told Writes K _ _ old mid result files))

  -- they are not redacted
  pub call_cut : (error : StreamError) → FilesOutcome Writes K (work_by call (loaded_as rules key)) (Err error) old mid
      → CallOutcome Writes K call left (bytes_left mid.input) (Err (Other (failure_of_stream error))) old.output mid.output first mid.errors
  call_cut error files =
      let (lines, (cut, told)) = files.cut in
      let words = words_told (Err error) files in
      record { comes = comes_early (inr (loads (lines, cut))) (tells_weaker K _ _ _ _ (λ line is. inl is) words) (may_fail call _ _ (run_failure Writes K (work_by call (loaded_as rules key)) error old mid files)); numbers = inl words }

  -- memory ran out at a file that is replaced
  pub places_cut : {O : Type 0} {U : Places O W} {outputs outputs' : O} {counts counts' : List ℕ} {volume volume' : Volume} {error : AllocError}
      → PlacesOutcome Writes K U (work_by call (loaded_as rules key)) (names_asked call.given) (Err error) (outputs, old, counts, volume) (outputs', mid, counts', volume')
      → CalledPlaces Writes K U call left (Err (Other OutOfMemory)) outputs outputs' first mid.errors
  places_cut {U = U} {outputs = outputs} {outputs' = outputs'} run =
      let begun : SparesCall Writes U call left outputs outputs' = loads run.begun in
      let told = tells_both K (IsPlaceLine call) _ _ _ (warned_tell (IsPlaceLine call) (λ line is. inl (inl (inr is)))) (tells_weaker K (IsSparedOf (names_asked call.given)) (IsPlaceLine call) _ _ (λ line is. inr is) run.told) in
      record { comes = comes_early (inr begun) told (record { may = may_fail call ⊥ (Other OutOfMemory) (inl refl); ends = inr (inr (refl, begun)) }); reaches = tt }

  -- or all were come to, and the counts are told, or they are not
  module _ (counts : List ℕ) (volume : Volume) (new : Errors E) (all : Bool) (result : Result Bool Failure) (same : IfOk result (λ done. done ≡ all)) (fails : IfErr result (IsCountsFailure (counts_asked call.given)))
      (are_told : OnOk result (TellsIf K call.given rules counts volume mid.errors new (counts_asked call.given))) (later : Tells K (IsTotals call.given rules counts volume) mid.errors new) where
    load_told : {Done Free Counts : Loaded → Option (List ℕ) → Type 0} {Begun : Type 0} {MayEnd : Failure → Type 0} (X : Type 0) (IsTold IsLine : List ℕ → Type 0) → ((line : List ℕ) → IsLine line → IsTold line)
        → ((line : List ℕ) → IsWarningLine call line → IsTold line) → ((line : List ℕ) → IsOfLoaded call (λ load. IsCountsLine call.given load.secrets line) → IsTold line) → TellsUnlessAll {X = X} K IsLine (Ok all) old.errors mid.errors
        → (all ≡ true → Done (loaded_as rules key) (bytes_left old.input) × FreesBy (redactor_by_given call.given (loaded_as rules key)) (Free (loaded_as rules key) (bytes_left old.input))
        × (WarnsAndCounts K call (loaded_as rules key) (bytes_left old.input) (bytes_left mid.input) first new → Counts (loaded_as rules key) (bytes_left old.input))
        × CountsOfNames (bytes_left old.input) (bytes_left mid.input) (zeros (counts_asked call.given) rules) counts (work_by call (loaded_as rules key)) (names_asked call.given)
        × ReadsVolume call.holds (names_asked call.given) no_volume volume (bytes_left old.input) (bytes_left mid.input)) → Begun → IfErr result MayEnd
        → ComesOf K IsTold (λ all. all) (λ all. DoneCall K call left (LoadsCall call left Done) (LoadsCall call left Free) (LoadsCall call left Counts) first new) (TellsSome K IsTold first new) Begun (Unit {0}) MayEnd result first new
    load_told X IsTold IsLine may warns counted told whole begun ends =
        let load = loaded_as rules key in
        files_then X K IsTold IsLine all first old.errors mid.errors new (warned_tell IsTold warns) may told
        (tells_weaker K (IsTotals call.given rules counts volume) IsTold mid.errors new (λ line is. counted line (load, left, bytes_left old.input, loaded, (is.0, _, _, is.1))) later) begun result same ends
        (λ is. on_ok_weaker result
        (λ (counts_told : TellsIf K call.given rules counts volume mid.errors new (counts_asked call.given)).
        let (done, free, so, (ranges, found, grown), read) = whole is in
        let quiet : mid.errors ≡ old.errors = rw is at told in (
          record {
            all = loads done;
            strict = λ asked. loads (free asked.covers asked.all (clean_pieces K (has Strict call.given) (redactor_by_given call.given load) warnings.0 old.errors asked.strict warnings.2 asked.covers));
            quiet = λ none. let same : new ≡ mid.errors = subst (TellsIf K call.given rules counts volume mid.errors new) none counts_told in loads (rw (same ∙ quiet) warnings);
            counts = λ some.
                let totals = totals_told K call.given rules ranges counts volume old.errors new (subst (λ (b : Bool). CountsThese ranges (zeros b rules) counts) some grown)
                (subst (λ (e : Errors E). TellsCounts K call.given rules counts volume e new) quiet (subst (TellsIf K call.given rules counts volume mid.errors new) some counts_told)) in
                loads (so (old.errors, warnings, (ranges, found, volume, read, totals)));
          },
          tt,
        )) are_told)

    pub call_told : DoesJob Writes K (task_of (work_by call (loaded_as rules key))) (names_asked call.given) (Ok all) old mid (zeros (counts_asked call.given) rules) counts no_volume volume
        → CallOutcome Writes K call left (bytes_left mid.input) result old.output mid.output first new
    call_told does =
        let work = work_by call (loaded_as rules key) in
        let Ends = OutputFails old.output mid.output in
        let (lines, is_all, (done, told)) = does.outcome.done in
        let bounded = bounded_from call.holds (names_asked call.given) (counts_asked call.given) rules counts volume _ _ (does.most refl) in
        record {
          comes = load_told StreamError (IsLineOf call Ends) (IsUnreadLine (names_asked call.given)) (λ line is. inl (inl is)) (λ line is. inl (inr is)) (λ line is. inr (inr is))
              (files_told Writes K (task_of work) (names_asked call.given) old mid (Ok all) does.outcome)
              (λ is.
              let redacted = all_redacted Writes K (task_of work) (names_asked call.given) old mid (Ok all) does.outcome (ap Ok is) in
              (redacted, λ covers every clean. free_of work covers every clean (names_asked call.given) _ _ _ _ redacted, λ told. (redacted, told), does.counted (ap Ok is), does.read (ap Ok is)))
              (inr (loads (lines, cut_of (task_of work) _ lines _ _ _ _ done))) (IfErr-weaker result _ _ (λ failure is. inr (inr (inl is))) fails);
          numbers = inr (loads (record { counts = sums_of (secrets_of rules) counts; volume = volume; bounded = bounded; meanwhile = mid.errors; words = words_told _ does.outcome; told = tells_weaker K _ _ _ _ (λ line is. is.1) later }));
        }

    pub places_told : {O : Type 0} {U : Places O W} {outputs outputs' : O}
        → PlacesOutcome Writes K U (work_by call (loaded_as rules key)) (names_asked call.given) (Ok all) (outputs, old, zeros (counts_asked call.given) rules, no_volume) (outputs', mid, counts, volume)
        → CalledPlaces Writes K U call left result outputs outputs' first new
    places_told {U = U} {outputs = outputs} {outputs' = outputs'} run =
        let reached : ReachesCall Writes U call left outputs outputs' = loads run.placed in
        record {
          comes = load_told AllocError (IsPlaceLine call) (IsSparedOf (names_asked call.given)) (λ line is. inr is) (λ line is. inl (inl (inr is))) (λ line is. inl (inr (inr is))) run.told
              (λ is.
              let (replaced, counted, read) = run.replaced (ap Ok is) in
              (replaced, λ covers every clean. freed_all Writes U (work_by call (loaded_as rules key)) covers every clean (names_asked call.given) outputs outputs' replaced, λ told. (bytes_left mid.input, told), counted, read))
              (inr (loads run.begun)) (IfErr-weaker result _ _ (λ failure is. record { may = inr (inr (inl is)); ends = inr (inl reached) }) fails);
          reaches = on_ok_weaker result (λ (counts_told : TellsIf K call.given rules counts volume mid.errors new (counts_asked call.given)). reached) are_told;
        }

-- what comes of a call that replaces files
module _ {O Z E : Type 0} {Writes : Writers Z} {K : SinkGhosts E} {U : Places O Z} {call : Call} {left : Option (List ℕ)} where
  -- it ends before a file is made
  pub places_early : {failure : Failure} {outputs : O} {old new : Errors E} → MayFail call ⊥ failure → Tells K (IsPlaceLine call) old new → CalledPlaces Writes K U call left (Err failure) outputs outputs old new
  places_early may told = record { comes = comes_early (inl refl) told (record { may = may; ends = inl refl }); reaches = tt }

  -- and nothing is told
  pub places_refused : {failure : Failure} {outputs : O} {errors : Errors E} → MayFail call ⊥ failure → CalledPlaces Writes K U call left (Err failure) outputs outputs errors errors
  places_refused {errors = errors} may = places_early may (tells_same K (IsPlaceLine call) errors errors refl)

  -- its status says what came of it
  pub places_status : (result : Result Bool Failure) (status : ℕ) {outputs outputs' : O} {old mid new : Errors E} → EndsCall K result status mid new → CalledPlaces Writes K U call left result outputs outputs' old mid
      → PlacesStatus Writes K U call left status outputs outputs' old new
  places_status result status {outputs} {outputs'} {old} {mid} {new} ends of = record {
    bound = (by result ends of).0;
    says = status_says K (IsPlaceLine call) (λ (e : Errors E). PlacesEach Writes K U call left outputs outputs' old e) status old mid new (λ failure line ended is. inl (inr (inl (failure, ended.may, is)))) (λ whole notes. whole) result ends of.comes;
    reaches = (by result ends of).1;
  }
    where
      by : (result : Result Bool Failure) → EndsCall K result status mid new → CalledPlaces Writes K U call left result outputs outputs' old mid
          → ((status ≡ 0) ⊎ (status ≡ 2)) × (ReachesCall Writes U call left outputs outputs' ⊎ TellsEnd Writes K U call left outputs outputs' old new)
      by (Ok true) (is, same) of = (inl is, inl of.reaches)
      by (Ok false) (is, same) of = (inr is, inl of.reaches)
      by (Err failure) (two, (line, is, last)) of = (inr two, inr (record { failure = failure; ends = of.comes.fails; meanwhile = mid; told = of.comes.told; line = line; is_line = is; last = last }))
