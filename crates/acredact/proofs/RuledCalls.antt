-- Calls with rules: what comes of the lines of a text, and how many are too long; and what comes of a redaction and of a check, and its status.
use Rattle.acredact.proofs.Common.{All-nil, AreLineRuns, AreRunsOf, BeginsLook, Bool, Call, CountsErrors, Covering, DoesJob, DoesStream, EachName, EndsCall, Err, Errors, Failure, Given, IfErr, IfOk, IfOk-weaker, IsMember, IsRuledTold, IsStreamEnd, IsUnreadLine, Keeps, Keeps-refl, Line, LineError, List, MatchBool, Memory, Occurrence, Ok, OnOk, Option, Patterns, PieceRule, Readers, Result, Secret, SeesFiles, SinkGhosts, SourceGhosts, StartsWith, StreamError, Streams, Tells, TellsBytes, TellsDoubts, Verdict, Volume, Writers, [], ap, arith, bytes_left, common_steps, counts_asked, false, has, if◌then◌else◌, inl, inr, length, length-append, length-map, min, names_asked, nat_eq, nat_lt, no_volume, reading_by, refl, replicate, runs_named, slice_index, stream_lines, subst, suc, sym, true, zero, ℕ, ◌++◌, ◌+◌, ◌-◌, ◌<◌, ◌==◌, ◌^◌, ◌∙◌, ◌∷◌, ◌≡◌, ◌≤◌}
use Rattle.secret_rules.specs.declared.error.LineError.TheVariants.{Stream, Mark}
use Rattle.std.proofs.lemmas.Bool.{ltb-true, cond_both, ltb-false}
use Rattle.std.specs.Prelude.{IsErr}
use Rattle.acredact.specs.Calls.{TellsWhole}
use Rattle.acredact.specs.Doubts.{last_of}
use Rattle.acredact.specs.LineRules.{most_asked}
use Rattle.acredact.specs.LongLines.{long_told, too_long_line, whole_number, HasLong, HaveLong, long_among}
use Rattle.acredact.specs.RunCounts.{run_totals_text, HasRuns, HaveRuns}
use Rattle.acredact.specs.Ruled.{AreRulesGiven, CountsByRules, NotesByRules, OutcomeOf, RedactsByRules, RuledCall, RuledLoad, RuledOutcome, RuledStatus, ruled_by, ruling_by, texts_asked, Between, RunsOf, BeginsLinesRedaction, deed_by, ruling_as}
use Rattle.acredact.proofs.Calls.{doubts_tell, none_are, some_behind, some_weaker, tells_both, tells_line, tells_same, some_told, tells_weaker}
use Rattle.acredact.proofs.Done.{cut_of}
use Rattle.acredact.proofs.RedactedCalls.{all_redacted, files_told}
use Rattle.acredact.proofs.Turns.{told_any}
use Rattle.acredact.proofs.Outcomes.{files_then, status_says, comes_early}
use Rattle.acredact.proofs.Totals.{totals_of}
use Rattle.std.proofs.KnownBytes.{Keeps-trans}
use Rattle.acredact.specs.RuledChecks.{BeginsLoadedCheck, CheckLoad, CheckedLines, RuledCheck, line_quest_by}
use Rattle.acredact.specs.declared.options.Word.TheVariants.{Summary}
use Rattle.aho_cover.proofs.Copied.{begins_longer}
use Rattle.secret_rules.specs.Covering.{lines_cover, CoveredIn, seen_line, whole_line}
use Rattle.secret_rules.specs.LineCovers.{BeginsLines, BeginsNextLine, IsCoverFailure, LeavesLines, all_of, of_devices}
use Rattle.secret_rules.specs.Writing.{line_cover}
use Rattle.secret_rules.specs.declared.rule.Rule.{Rule}
use Rattle.secret_rules.proofs.LineRuns.{lines_cover-append}
use Rattle.acredact.proofs.Redactions.{fault_ends}
use Rattle.std.proofs.Math.Seq.{take-append-add}
use Rattle.std.proofs.lemmas.List.Elements.{filter-append}
use Rattle.std.proofs.lemmas.Option.{slice_get_within}
use Rattle.aho_laws.proofs.CoverRuns.{runs-unique}
use Rattle.secret_rules.proofs.Covered.{whole-runs}
use Rattle.secret_rules.proofs.Picked.{counts-occurs}
use Rattle.acredact.proofs.Hiding.{named_as}

-- the cover of all lines begins with that of the first ones, and a beginning of that of the next
begins_cover : (rule : PieceRule) (lines : List Line) (runs : List (List Occurrence)) (part : List ℕ) (all : List Line) (all_runs : List (List Occurrence)) → length runs ≡ length lines
    → BeginsNextLine rule lines runs part all all_runs → StartsWith (lines_cover rule all all_runs) (lines_cover rule lines runs ++ part)
begins_cover rule lines runs part all all_runs same is =
    let front = lines_cover rule lines runs in
    rw (is.lines_are, is.runs_are, lines_cover-append rule lines (is.next ∷ is.later) runs (is.own ∷ is.more) same, length-append front part, take-append-add)
    (ap (λ (l : List ℕ). front ++ l) (begins_longer (line_cover rule is.next is.own) (lines_cover rule is.later is.more) part is.begins))

-- so what a cover of lines leaves is what is done by rules and patterns
module _ {R W : Type 0} (S : SourceGhosts R) (K : SinkGhosts W) (Searched : Patterns → Type 0) (words : Bool) (rules : List Rule) (most : ℕ) (rule : PieceRule) (p : Patterns) (sought : Searched p)
    (source source' : R) (sink sink' : W) (counts counts' : List ℕ) where
  -- a line that is not marked ends it as if memory had run out
  lined_fails : (fault : StreamError) → BeginsLines S K Searched words rules most rule source source' sink sink' counts counts' → IsStreamEnd fault → CountsErrors {A = Unit {0}} S K source source' sink sink' (Err fault)
      → DoesStream S K (deed_by (ruling_as words rules most rule p)) source source' sink sink' (Err fault) counts counts'
  lined_fails fault begun only errors =
      let part = lines_cover rule begun.lines begun.runs ++ begun.part in
      let begins : BeginsLinesRedaction (ruling_as words rules most rule p) begun.given begun.ended part = λ text redaction may is.
      rw is.is
      (begins_cover rule begun.lines begun.runs begun.part (stream_lines text) is.runs begun.as_many (begun.goes_on p text is.runs sought may is.runs_are)) in
      record {
        outcome = record {
          redacted = tt;
          begun = record { given = begun.given; ended = begun.ended; gives = begun.gives; is = (part, begins, begun.writes) };
          near = λ fills. record { given = begun.given; ended = begun.ended; gives = begun.gives; is = tt };
          errors = errors;
          limit = λ (told : false ≡ true). absurd (cc);
          only = only;
        };
        counted = tt;
        most = λ (told : false ≡ true). absurd (cc);
      }

  pub lined_does : (done : Result (Unit {0}) LineError) → LeavesLines S K Searched words rules most rule source source' sink sink' counts counts' done → CountsErrors S K source source' sink sink' (of_devices done)
      → IfErr done (IsCoverFailure rules) → DoesStream S K (deed_by (ruling_as words rules most rule p)) source source' sink sink' (of_devices done) counts counts'
  lined_does (Ok tt) leaves errors only =
      let whole = leaves.covered in
      record {
        outcome = record {
          redacted = record {
            text = whole.given;
            gives = whole.gives;
            is = (lines_cover rule (stream_lines whole.given) whole.runs, record { runs = whole.runs; runs_are = whole.runs_are p sought; is = refl }, whole.writes);
          };
          begun = tt;
          near = tt;
          errors = errors;
          limit = λ (told : false ≡ true). absurd (cc);
          only = tt;
        };
        counted = (all_of whole.runs, record { text = whole.given; gives = whole.gives; is = (whole.runs, whole.runs_are p sought, refl) }, whole.counted);
        most = λ (told : false ≡ true). absurd (cc);
      }
  lined_does (Err (Stream error)) leaves errors only = lined_fails error leaves.begun (fault_ends error only) errors
  lined_does (Err (Mark error)) leaves errors only = lined_fails Memory leaves.begun tt errors

-- what is covered of a line that is not too long has a smaller number
covered_below : (covering : Covering) (before : List (List ℕ)) (line : List ℕ) (m : Occurrence) → length line ≤ covering.most → CoveredIn covering before line m → m.pattern < whole_number covering
covered_below covering before line m short (inl (long, is)) = absurd (omega (arith, short, long))
covered_below covering before line m short (inr (fits, inl counts)) = let (occurs, there) = counts-occurs covering.words covering.patterns line m counts in omega (arith, occurs.numbered)
covered_below covering before line m short (inr (fits, inr marked)) =
    let below = slice_get_within covering.rules marked.mark.rule marked.marks.rule marked.marks.numbered in
    omega (arith, below, ap (λ (o : Occurrence). o.pattern) marked.same)

none_numbered : (number : ℕ) (runs : List Occurrence) → ((run : Occurrence) → IsMember runs run → run.pattern < number) → runs_named number runs ≡ 0
none_numbered number [] below = refl
none_numbered number (run ∷ runs) below = grind (arith, common_steps, below run (inl refl), none_numbered number runs (λ other there. below other (inr there)))

-- so the runs of that number are those of lines that are too long
long_one : (covering : Covering) (before : List (List ℕ)) (line : List ℕ) (own : List Occurrence) → AreRunsOf (CoveredIn covering before line) own
    → runs_named (whole_number covering) own ≡ (if nat_lt covering.most (length line) then 1 else 0)
long_one covering before line own are =
    cond_both {A = ℕ} (nat_lt covering.most (length line)) 1 0 (λ (n : ℕ). runs_named (whole_number covering) own ≡ n)
    (λ is. rw (runs-unique (CoveredIn covering before line) own (whole_line covering line ∷ []) are (whole-runs covering before line (ltb-true _ _ is))) (grind (arith, common_steps)))
    (λ is. none_numbered (whole_number covering) own (λ run there.
    let is_run = (are.members run).0 there in
    omega (arith, is_run.named, covered_below covering before line is_run.longest (omega (arith, ltb-false _ _ is)) is_run.longest_is.0.0)))

named_append : (number : ℕ) (xs ys : List Occurrence) → runs_named number (xs ++ ys) ≡ runs_named number xs + runs_named number ys
named_append number xs ys = rw (filter-append (λ (o : Occurrence). nat_eq o.pattern number) xs ys) (length-append _ _)

long_named : (covering : Covering) (before : List (List ℕ)) (lines : List Line) (runs : List (List Occurrence)) → AreLineRuns covering before lines runs
    → runs_named (whole_number covering) (all_of runs) ≡ long_among covering.most lines
long_named covering before [] [] are = refl
long_named covering before (line ∷ lines) (own ∷ runs) are =
    let rest = long_named covering (before ++ seen_line covering.most line.bytes ∷ []) lines runs are.1 in
    grind (arith, common_steps, named_append (whole_number covering) own (all_of runs), long_one covering before line.bytes own are.0, rest)
long_named covering before _ _ are = absurd are

-- so it is of all files
pub long_of_runs : (covering : Covering) (holds : List ℕ → Option (List ℕ)) (names : List (List ℕ)) (runs : List Occurrence) (left left' : Option (List ℕ)) → HaveRuns holds covering names runs left left'
    → HaveLong holds covering.most names (runs_named (whole_number covering) runs) left left'
long_of_runs covering holds [] runs left left' (none, same) = (ap (runs_named (whole_number covering)) none, same)
long_of_runs covering holds (name ∷ names) runs left left' (first, rest, are, between, has, others) = (
  runs_named (whole_number covering) first,
  runs_named (whole_number covering) rest,
  ap (runs_named (whole_number covering)) are ∙ named_append (whole_number covering) first rest,
  between,
  named_as holds name (HasRuns covering first) (HasLong covering.most (runs_named (whole_number covering) first)) (λ l l' has.
      let (by_line, lines, all) = has.is in
      record { text = has.text; reads = has.reads; is = ap (runs_named (whole_number covering)) all ∙ long_named covering [] (stream_lines has.text) by_line lines }) left between has,
  long_of_runs covering holds names rest between left' others,
)

-- there is a text for each pattern, each rule, and lines that are too long
pub texts_many : (given : List Given) (load : RuledLoad) → length (texts_asked given load) ≡ length load.secrets + length load.rules + 1
texts_many given load = simp (length-append, length-map) (omega arith)

module _ {E : Type 0} (K : SinkGhosts E) (call : Call) {V : Type 0} {all : V → Bool} {Whole : V → Type 0} {Begun Notes : Type 0} where
  -- a call ended early, and what was told may be
  pub outcome_early : {failure : Failure} {errors errors' : Errors E} → Begun → Tells K (IsRuledTold call) errors errors' → OutcomeOf K call all Whole Begun Notes (Err failure) errors errors'
  outcome_early begun told = comes_early begun told tt

  -- or nothing was
  pub outcome_none : {errors : Errors E} (result : Result V Failure) → IsErr result → Begun → OutcomeOf K call all Whole Begun Notes result errors errors
  outcome_none {errors} (Ok done) is begun = absurd (cc)
  outcome_none {errors} (Err failure) is begun = outcome_early begun (tells_same K (IsRuledTold call) errors errors refl)

  -- behind what was told before
  pub outcome_behind : {Wholly : V → Type 0} {Begins Noted : Type 0} (result : Result V Failure) (errors meanwhile errors' : Errors E) → Tells K (IsRuledTold call) errors meanwhile
      → ((done : V) → Whole done → Wholly done) → (Begun → Begins) → (Notes → Noted) → OutcomeOf K call all Whole Begun Notes result meanwhile errors' → OutcomeOf K call all Wholly Begins Noted result errors errors'
  outcome_behind result errors meanwhile errors' before wholly begins noted of = record {
    whole = IfOk-weaker result _ _ (λ done whole is. wholly done (whole is)) of.whole;
    begun = begins of.begun;
    told = tells_both K (IsRuledTold call) errors meanwhile errors' before of.told;
    partly = IfOk-weaker result _ _ (λ done partly is. some_behind K (IsRuledTold call) errors meanwhile errors' before (partly is)) of.partly;
    notes = IfOk-weaker result _ _ (λ done notes is. noted (notes is)) of.notes;
    fails = of.fails;
  }

module _ {E : Type 0} (K : SinkGhosts E) (call : Call) where
  -- doubtful patterns of lists may be told
  pub all_doubts_told : (secrets : List Secret) (errors errors' : Errors E) → TellsDoubts K false call.given secrets errors errors' → Tells K (IsRuledTold call) errors errors'
  all_doubts_told secrets errors errors' told = doubts_tell K (IsRuledTold call) false call.given secrets errors errors' (λ lax line member. inr (inr (inl (secrets, member)))) told

  -- and then a call may end before it comes to a file
  pub unbegun : (load : RuledLoad) (left held : Option (List ℕ)) (errors : Errors E) (result : Result Bool Failure) → IsErr result → RuledOutcome K call load result left left held held errors errors
  unbegun load left held errors (Ok all) is = absurd (cc)
  unbegun load left held errors (Err failure) is = record { behind = λ start first loaded doubted. comes_early (inl (Keeps-refl held)) (all_doubts_told load.secrets first errors doubted) tt }

  -- how many lines were too long may be told
  pub long_lines : (count : ℕ) (errors errors' : Errors E) → TellsBytes K errors errors' (long_told (most_asked call.given) count) → Tells K (IsRuledTold call) errors errors'
  long_lines count errors errors' told = by (count == 0) told
    where
      by : (b : Bool) → TellsBytes K errors errors' (if b then [] else too_long_line (most_asked call.given) count) → Tells K (IsRuledTold call) errors errors'
      by true none = record { told = []; are_lines = All-nil (IsRuledTold call); written = none }
      by false line = tells_line K (IsRuledTold call) errors errors' (too_long_line (most_asked call.given) count) (inr (inr (inr (inl (count, refl))))) line

  -- the counts are, where they are asked for
  pub counts_by_rules : (left left' : Option (List ℕ)) (errors errors' : Errors E) → counts_asked call.given ≡ true → NotesByRules K call left left' errors errors' → CountsByRules K call left left' errors'
  counts_by_rules left left' errors errors' is of =
      let runs = subst (λ (asked : Bool). RunsOf K call of.load asked of.between left' of.is.meanwhile errors') is of.is.runs in
      record { load = of.load; between = of.between; loaded = of.loaded; is = (of.is.meanwhile, runs) }

  -- its status says what came of it
  pub ruled_ends : (result : Result Bool Failure) (status : ℕ) (left left' held held' : Option (List ℕ)) (errors meanwhile errors' : Errors E) → EndsCall K result status meanwhile errors' → RuledCall K call result left left' held held' errors meanwhile
      → RuledStatus K call status left left' held held' errors errors'
  ruled_ends result status left left' held held' errors meanwhile errors' ends of =
      status_says K (IsRuledTold call) (λ (e : Errors E). RedactsByRules call left left' held held' × NotesByRules K call left left' errors e) status errors meanwhile errors'
      (λ failure line may is. inr (inl (failure, is))) (λ whole notes. (whole, notes)) result ends of

-- what comes of the files, by rules and patterns that were loaded
module _ {R W E : Type 0} {Reads : Readers R} (Writes : Writers W) (K : SinkGhosts E) (call : Call) (load : RuledLoad) (old new : Streams R W E Reads) (zeros counts' : List ℕ) (volume : Volume) where
  -- they were redacted, it is told how many lines were too long, and then the counts, which began at zero
  pub files_done : (all : Bool) (result : Result Bool Failure) (second errors' : Errors E) → DoesJob Writes K (ruled_by call load) (names_asked call.given) (Ok all) old new zeros counts' no_volume volume
      → zeros ≡ replicate (length load.secrets + length load.rules + 1) 0 → TellsBytes K new.errors second (long_told (most_asked call.given) (last_of counts')) → IfOk result (λ done. done ≡ all) → IfErr result (λ failure. Unit {0})
      → OnOk result (MatchBool (counts_asked call.given) (TellsWhole K (run_totals_text call.given load.secrets load.rules counts' volume) second errors') (errors' ≡ second))
      → Tells K (IsRuledTold call) second errors' → Between Writes (RuledOutcome K call load result) old (record new { errors = errors' })
  files_done all result second errors' does none long same fails counted later = record {
    behind = λ left first loaded doubted.
        let task = ruled_by call load in
        let names = names_asked call.given in
        let (lines, is_all, (done, told)) = does.outcome.done in
        files_then StreamError K (IsRuledTold call) (IsUnreadLine names) all first old.errors new.errors errors' (all_doubts_told K call load.secrets first old.errors doubted) (λ line is. inl is) (files_told Writes K task names old new (Ok all) does.outcome)
        (tells_both K (IsRuledTold call) new.errors second errors' (long_lines K call (last_of counts') new.errors second long) later)
        (inr (record { load = load; between = bytes_left old.input; loaded = loaded; is = (lines, cut_of task names lines _ _ _ _ done) })) result same fails
        (λ whole. IfOk-weaker result _ _ (λ one counts_told.
        let (runs, have, grown) = does.counted (ap Ok whole) in
        let covering = (ruling_by call.given load).covering in
        let totals = totals_of (length load.secrets + length load.rules + 1) runs zeros counts' none grown in
        let many : length covering.patterns.words ≡ length load.secrets = length-map load.secrets (λ secret. secret.pattern) in
        let place : length counts' - 1 ≡ whole_number covering = omega (arith, totals.one_each, many) in
        let last : last_of counts' ≡ min (runs_named (whole_number covering) runs) (2 ^ 64 - 1) = ap (slice_index counts') place ∙ totals.each (whole_number covering) (omega (arith, many)) in (
          record { load = load; between = bytes_left old.input; loaded = loaded; is = all_redacted Writes K task names old new (Ok all) does.outcome (ap Ok whole) },
          record {
            load = load;
            between = bytes_left old.input;
            loaded = loaded;
            is = record {
              warned = old.errors;
              doubted = doubted;
              meanwhile = second;
              long = record { count = runs_named (whole_number covering) runs; have = long_of_runs covering call.holds names runs _ _ have; told = rw (does.outcome.quiet (ap Ok whole), last) at long };
              runs = record { runs = runs; have = have; volume = volume; read = does.read (ap Ok whole); counted = record { counts = counts'; totals = totals; told = counts_told } };
            };
          },
        )) counted);
  }

  -- or not all of them
  pub files_failed : (error : StreamError) (failure : Failure) → DoesJob Writes K (ruled_by call load) (names_asked call.given) (Err error) old new zeros counts' no_volume volume → Between Writes (RuledOutcome K call load (Err failure)) old new
  files_failed error failure does = record {
    behind = λ left first loaded doubted.
        let (lines, (cut, told)) = does.outcome.cut in
        comes_early (inr (record { load = load; between = bytes_left old.input; loaded = loaded; is = (lines, cut) })) (tells_both K (IsRuledTold call) first old.errors new.errors (all_doubts_told K call load.secrets first old.errors doubted)
        (told_any K (names_asked call.given) (IsRuledTold call) (Err error) old.errors new.errors (λ line is. inl is) (files_told Writes K (ruled_by call load) (names_asked call.given) old new (Err error) does.outcome))) tt;
  }

-- what holds of an output holds of it where it is flushed
each_kept : (Does : List ℕ → (left left' held held' : Option (List ℕ)) → Type 0) (names : List (List ℕ)) (left left' held meanwhile held' : Option (List ℕ)) → EachName Does names left left' held meanwhile → Keeps meanwhile held' → EachName Does names left left' held held'
each_kept Does [] left left' held meanwhile held' (same, kept) more = (same, Keeps-trans held meanwhile held' kept more)
each_kept Does (name ∷ names) left left' held meanwhile held' (between, mid, one, rest) more = (between, mid, one, each_kept Does names between left' mid meanwhile held' rest more)

module _ {E : Type 0} (K : SinkGhosts E) (call : Call) where
  module _ (load : CheckLoad) (left left' held held' seen seen' : Option (List ℕ)) (errors errors' : Errors E) where
    -- what was found was told, or nothing was
    abbrev IsPut : Bool → Type 0
    IsPut tells = MatchBool tells ((seen ≡ held) × Keeps seen' held') (Keeps held held')

    begun_put : (tells : Bool) → IsPut tells → EachName (BeginsLook (line_quest_by call load)) (names_asked call.given) left left' seen seen' → BeginsLoadedCheck call left left' held held' load
    begun_put true (same, kept) begun = inr (each_kept (BeginsLook (line_quest_by call load)) (names_asked call.given) left left' held seen' held' (rw same at begun) kept)
    begun_put false kept begun = inl kept

    -- the files were looked at, or not all of them
    pub files_looked : (tells : Bool) → has Summary call.given ≡ tells → (result : Result Verdict Failure) → SeesFiles K (line_quest_by call load) (names_asked call.given) result left left' seen seen' errors errors' → IsPut tells
        → CheckedLines K call load result left left' held held' errors errors'
    files_looked tells is (Ok verdict) files put =
        let (is_all, quiet, are) = files.seen in
        record {
          whole = λ all. record { old = seen; new = seen'; told = λ asked. subst IsPut (sym is ∙ asked) put; are = rw (none_are files.told.told (sym is_all ∙ all)) at are };
          begun = begun_put tells put files.begun;
          told = tells_weaker K (IsUnreadLine (names_asked call.given)) (IsRuledTold call) errors errors' (λ line is. inl is) files.told;
          partly = λ part. some_weaker K (IsUnreadLine (names_asked call.given)) (IsRuledTold call) errors errors' (λ line is. inl is)
              (some_told K (IsUnreadLine (names_asked call.given)) errors errors' files.told.told files.told.are_lines files.told.written (sym part ∙ is_all));
          notes = quiet;
          fails = tt;
        }
    files_looked tells is (Err failure) files put =
        outcome_early K call (begun_put tells put files.begun) (tells_weaker K (IsUnreadLine (names_asked call.given)) (IsRuledTold call) errors errors' (λ line is. inl is) files.told)

  -- behind what is told of doubtful patterns what was loaded decides what comes of the call
  pub check_behind : (load : CheckLoad) (result : Result Verdict Failure) (left between left' held held' : Option (List ℕ)) (errors meanwhile errors' : Errors E)
      → AreRulesGiven (reading_by call) call.given load.secrets load.rules left between → TellsDoubts K false call.given load.secrets errors meanwhile
      → CheckedLines K call load result between left' held held' meanwhile errors' → RuledCheck K call result left left' held held' errors errors'
  check_behind load result left between left' held held' errors meanwhile errors' loaded doubted =
      outcome_behind K call result errors meanwhile errors' (all_doubts_told K call load.secrets errors meanwhile doubted)
      (λ verdict whole. record { load = load; between = between; loaded = loaded; is = whole })
      (λ begun. elim begun [
        | inl none ↦ inl none
        | inr some ↦ inr (record { load = load; between = between; loaded = loaded; is = some })
      ])
      (λ same. record { load = load; between = between; loaded = loaded; is = subst (TellsDoubts K false call.given load.secrets errors) (sym same) doubted })
