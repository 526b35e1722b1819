-- What comes of a call, by what comes of its files; what may be told before these, and why it may end there.
use Rattle.acredact.proofs.Common.{All, All-append, All-cons, All-head, All-nil, All-tail, All-weaker, AreCleanBy, AreCut, AreLoaded, Bool, Call, CallOutcome, Err, Errors, Failure, FilesOutcome, Folders, FromWrite, Given, IsDone, IsMember, IsUnreadLine, IsWarningLine, IsWordLine, Job, List, Loaded, MayFail, Memory, None, Option, Other, OutputFails, Readers, Redactor, Secret, SinkGhosts, Some, StreamError, Streams, Strict, Task, Tells, TellsBytes, TellsDoubts, TellsSome, WarnsLoaded, Work, Write, WriteZero, Writers, [], are_none, call_of, concat, failure_of_stream, false, has, inl, inr, is_some, member-get_or, output_line, patterns_by_given, patterns_in, reading_by, redactor_of, refl, subst, sym, true, unread_line, work_by, ℕ, ◌∙◌, ◌∷◌, ◌≡◌, ◌⊎◌}
use Rattle.tool_parts.proofs.Lines.{some-one, some-tells, tells-none}
use Rattle.acredact.specs.Calls.{CannotPrepare, IsRunFailure}
use Rattle.acredact.specs.Files.{work_of}
use Rattle.acredact.specs.Messages.{unclean_line}
use Rattle.acredact.specs.Ready.{IsJobFor}
use Rattle.acredact.specs.Doubts.{all_doubt_lines}
use Rattle.acredact.specs.Pieces.{TellsOfPieces}
-- the error of a call that is passed on
pub use Rattle.aho_cover.proofs.Going.{err_passed as passed_on}
-- lines behind lines, and lines that may be told of more
pub use Rattle.tool_parts.proofs.Lines.{some-then as some_then, some-weaker as some_weaker, tells-then as tells_both, tells-weaker as tells_weaker, then-some as some_behind}

-- no line is one
pub none_are : (lines : List (List ℕ)) → are_none lines ≡ true → lines ≡ []
none_are [] none = refl
none_are (line ∷ lines) none = absurd (cc)

-- the lines that are told of files tell each why one of them was not read to its end
pub unread_of : (task : Task) (names lines : List (List ℕ)) (left left' held held' : Option (List ℕ)) → AreCut task names lines left left' held held' → All (IsUnreadLine names) lines
unread_of task [] lines left left' held held' cut = rw cut.0 (All-nil (IsUnreadLine []))
unread_of task (name ∷ names) lines left left' held held' (inl cut) = rw cut.0 (All-nil (IsUnreadLine (name ∷ names)))
unread_of task (name ∷ names) lines left left' held held' (inr (first, rest, are, between, meanwhile, is, others)) =
    let later = All-weaker (IsUnreadLine names) (IsUnreadLine (name ∷ names)) (λ line is. (is.0, inr is.1, is.2)) rest (unread_of task names rest between left' meanwhile held' others) in
    rw are (All-append (IsUnreadLine (name ∷ names)) first rest (one is) later)
  where
    one : IsDone task name first left between held meanwhile → All (IsUnreadLine (name ∷ names)) first
    one (inl is) = rw is.0 (All-nil (IsUnreadLine (name ∷ names)))
    one (inr (inl is)) = rw is.1 (All-cons (IsUnreadLine (name ∷ names)) (unread_line name is.0) [] (name, inl refl, inl (is.0, refl)) (All-nil (IsUnreadLine (name ∷ names))))
    one (inr (inr is)) = rw is.0 (All-cons (IsUnreadLine (name ∷ names)) (output_line name) [] (name, inl refl, inr refl) (All-nil (IsUnreadLine (name ∷ names))))

-- nothing was told, where nothing has changed
pub tells_same : {E : Type 0} (K : SinkGhosts E) (IsLine : List ℕ → Type 0) (old new : Errors E) → new ≡ old → Tells K IsLine old new
tells_same K IsLine old new same = subst (Tells K IsLine old) (sym same) (tells-none K IsLine old)

-- one line was
pub tells_line : {E : Type 0} (K : SinkGhosts E) (IsLine : List ℕ → Type 0) (old new : Errors E) (line : List ℕ) → IsLine line → TellsBytes K old new line → Tells K IsLine old new
tells_line K IsLine old new line is told = some-tells K IsLine old new (some-one K IsLine old new line is told)

-- a line more
pub tells_last : {E : Type 0} (K : SinkGhosts E) (IsLine : List ℕ → Type 0) (old mid new : Errors E) (line : List ℕ) → Tells K IsLine old mid → IsLine line → TellsBytes K mid new line → TellsSome K IsLine old new
tells_last K IsLine old mid new line before is told = some_behind K IsLine old mid new before (some-one K IsLine mid new line is told)

-- what is told may be told of more
pub some_all : {E : Type 0} (K : SinkGhosts E) (Less More : List ℕ → Type 0) (old new : Errors E) → ((line : List ℕ) → Less line → More line) → TellsSome K Less old new → Tells K More old new
some_all K Less More old new weaker some = tells_weaker K Less More old new weaker (some-tells K Less old new some)

pub some_told : {E : Type 0} (K : SinkGhosts E) (IsLine : List ℕ → Type 0) (old new : Errors E) (lines : List (List ℕ)) → All IsLine lines → TellsBytes K old new (concat lines) → false ≡ are_none lines → TellsSome K IsLine old new
some_told K IsLine old new [] are told none = absurd (cc)
some_told K IsLine old new (line ∷ lines) are told none = record { first = line; is_line = All-head IsLine line lines are; more = lines; are_lines = All-tail IsLine line lines are; written = told }

-- why files are not redacted
pub run_failure : {R : Type 0} {Reads : Readers R} {W E : Type 0} (Writes : Writers W) (K : SinkGhosts E) (work : Work) (error : StreamError) (old new : Streams R W E Reads) → FilesOutcome Writes K work (Err error) old new
    → IsRunFailure (OutputFails old.output new.output) (Other (failure_of_stream error))
run_failure Writes K work (Write fault) old new files = inr (inl refl, inl files.fails.write_failed)
run_failure Writes K work WriteZero old new files = inr (inr refl, inr files.fails.took_nothing)
run_failure Writes K work Memory old new files = inl refl
run_failure Writes K work error old new files = absurd files.fails.only

-- what comes of a call that ends before its files
pub call_ended : {W E : Type 0} (Writes : Writers W) (K : SinkGhosts E) (call : Call) (left left' : Option (List ℕ)) (failure : Failure) (output : FromWrite W) (errors errors' : Errors E) → MayFail call (OutputFails output output) failure
    → Tells K (IsWordLine call) errors errors' → CallOutcome Writes K call left left' (Err failure) output output errors errors'
call_ended Writes K call left left' failure output errors errors' fails words =
    record { comes = record { whole = tt; begun = inl refl; told = tells_weaker K _ _ errors errors' (λ line is. inl is) words; partly = tt; notes = tt; fails = fails }; numbers = inl words }

-- nothing was told
pub call_refused : {W E : Type 0} (Writes : Writers W) (K : SinkGhosts E) (call : Call) (left left' : Option (List ℕ)) (failure : Failure) (output : FromWrite W) (errors : Errors E) → MayFail call (OutputFails output output) failure
    → CallOutcome Writes K call left left' (Err failure) output output errors errors
call_refused Writes K call left left' failure output errors fails =
    call_ended Writes K call left left' failure output errors errors fails (tells_same K (IsWordLine call) errors errors refl)

-- what may be told, and why
pub may_fail : (call : Call) (fails : Type 0) (failure : Failure) → IsRunFailure fails failure → MayFail call fails failure
may_fail call fails failure is = inr (inr (inr (inl is)))

-- what holds of the work of a job holds of what a call asks for
pub job_does : {F X : Type 0} (D : Folders F X) (folder : F) (given : List Given) (load : Loaded) (job : Job F) → IsJobFor folder given load job
    → (P : Work → Type 0) → P (work_of D job (redactor_of job (patterns_by_given given (patterns_in load.secrets)))) → P (work_by (call_of D folder given) load)
job_does D folder given load job is P done = rw (is.names, is.redactor, is.opens) at done

-- where they are to be refused, nothing is told and they are clean
pub clean_pieces : {E : Type 0} (K : SinkGhosts E) (strict : Bool) (r : Redactor) (old new : Errors E) → strict ≡ true → TellsOfPieces K strict r old new → r.covers ≡ true → AreCleanBy (is_some r.key) r.patterns r.pieces
clean_pieces K strict r old new is (None, judged, same) = judged
clean_pieces K strict r old new is (Some unclean, judged, (lax, told)) = let clash : true ≡ false = sym is ∙ lax in absurd (cc)

-- what is told of patterns of lists is one line after another
pub doubts_tell : {E : Type 0} (K : SinkGhosts E) (IsLine : List ℕ → Type 0) (strict : Bool) (given : List Given) (secrets : List Secret) (old new : Errors E) → (strict ≡ false → (line : List ℕ) → IsMember (all_doubt_lines given secrets) line → IsLine line)
    → TellsDoubts K strict given secrets old new → Tells K IsLine old new
doubts_tell K IsLine true given secrets old new may doubts = tells_same K IsLine old new doubts.1
doubts_tell K IsLine false given secrets old new may doubts = record { told = all_doubt_lines given secrets; are_lines = λ number d within. may refl _ (member-get_or (all_doubt_lines given secrets) number d within); written = doubts }

-- it may be told, where such a line may be
module _ {E : Type 0} (K : SinkGhosts E) (call : Call) (IsLine : List ℕ → Type 0) (may : (line : List ℕ) → IsWarningLine call line → IsLine line)
    (load : Loaded) (left between : Option (List ℕ)) (loaded : AreLoaded (reading_by call) call.given load left between) where
  doubts_may : (old new : Errors E) → TellsDoubts K (has Strict call.given) call.given load.secrets old new → Tells K IsLine old new
  doubts_may old new doubts = doubts_tell K IsLine (has Strict call.given) call.given load.secrets old new (λ lax line member. may line (lax, (load, left, between, loaded, inl member))) doubts

  pub unready_may : (old new : Errors E) → (new ≡ old) ⊎ TellsDoubts K (has Strict call.given) call.given load.secrets old new → Tells K IsLine old new
  unready_may old new (inl same) = tells_same K IsLine old new same
  unready_may old new (inr doubts) = doubts_may old new doubts

  -- and so may what is told of pieces behind it
  pub warnings_may : (old new : Errors E) → WarnsLoaded K call load old new → Tells K IsLine old new
  warnings_may old new (mid, doubts, (None, judged, same)) = rw same (doubts_may old mid doubts)
  warnings_may old new (mid, doubts, (Some unclean, judged, (lax, told))) =
      let line = may (unclean_line unclean) (lax, (load, left, between, loaded, inr (unclean, judged.0, judged.1, refl))) in
      tells_both K IsLine old mid new (doubts_may old mid doubts) (tells_line K IsLine mid new (unclean_line unclean) line told)

-- why nothing is ready may end a call
pub may_prepare : (call : Call) (load : Loaded) (left between : Option (List ℕ)) → AreLoaded (reading_by call) call.given load left between → (fails : Type 0) (failure : Failure) → CannotPrepare call.given load failure → MayFail call fails failure
may_prepare call load left between loaded fails failure cannot = inr (inr (inr (inr (load, left, between, loaded, cannot))))
