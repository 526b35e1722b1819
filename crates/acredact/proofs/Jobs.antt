-- What comes of the files of a job, one after another: what is written and told, what is counted, and how much is read.
use Rattle.acredact.proofs.Common.{AreCut, BeginsWriting, Bool, ComesOfReading, DoesJob, DoesText, DoesTold, Err, FailsByOutput, FromWrite, IsWriteRefusal, Keeps, List, None, Ok, Option, Readers, ReadsSize, Reason, Result, SinkGhosts, Some, StreamError, Streams, Task, TellsBytes, Volume, WholeText, Write, WriteZero, Writers, WritesText, [], ap, arith, bytes_left, counted, counts_none, counts_then, files_with, inl, inr, is_write_fault, is_write_of_nothing, output_bytes, refl, subst, sym, tells-later, tells-nothing, true, ℕ, ◌&&◌, ◌++◌, ◌∙◌, ◌∷◌, ◌≡◌}
use Rattle.acredact.specs.Back.{DoesNamed}
use Rattle.acredact.specs.Common.{FromRead}
use Rattle.acredact.specs.Faults.{IsOutputEnd}
use Rattle.acredact.specs.Files.{ComesOfFile, Does, NearsText}
use Rattle.acredact.specs.Volumes.{AddsBytes}
use Rattle.acredact.proofs.Totals.{grow_none, numbers_more, volume_more}
use Rattle.acredact.proofs.Done.{all_so, concat_both, none_both}
use Rattle.acredact.proofs.OneFile.{IsFileRead}
use Rattle.acredact.proofs.Turns.{all_joined, also}

-- how the streams stand, what was counted, and how much was read
abbrev pub JobState : {R : Type 0} → Readers R → (W E : Type 0) → Type 0
JobState {R} Reads W E = Streams R W E Reads × List ℕ × Volume

write_ends : (error : StreamError) → IsWriteRefusal error → IsOutputEnd error
write_ends (Write fault) is = tt
write_ends WriteZero is = tt
write_ends error is = absurd is

-- what comes of the file of a name that was read
comes_named : (task : Task) {name : List ℕ} {given rest left left' : Option (List ℕ)} (held held' : Option (List ℕ)) (file : IsFileRead task.holds name given rest left left') (result : Result (Option Reason) StreamError)
    → ComesOfReading (λ Reads. Reads file.known rest) (λ reason. ⊥) task.deed result held held' → ComesOfFile task name result left left' held held'
comes_named task held held' file (Ok None) whole = file.of (λ l l'. WritesText task.deed.writes l l' held held') whole
comes_named task held held' file (Ok (Some reason)) (inl (why, begun, near)) =
    inl (why, file.of (λ l l'. BeginsWriting task.deed.begins l l' held held') begun, file.of (λ l l'. NearsText task.deed l l' held held') near)
comes_named task held held' file (Ok (Some reason)) (inr none) = absurd none
comes_named task held held' file (Err error) begun = file.of (λ l l'. BeginsWriting task.deed.begins l l' held held') begun

pub named_does : {R W : Type 0} {Reads : Readers R} (Writes : Writers W) (task : Task) {name : List ℕ} {result : Result (Option Reason) StreamError} {output output' : FromWrite W} {counts counts' : List ℕ} {bytes bytes' : ℕ} {input input' : FromRead R Reads} {left left' : Option (List ℕ)}
    → IsFileRead task.holds name (bytes_left input) (bytes_left input') left left' → DoesText Writes result output output' counts counts' bytes bytes' input input' task.deed → DoesNamed Writes result output output' counts counts' bytes bytes' left left' task name
named_does Writes task {result = result} {bytes = bytes} {bytes' = bytes'} file does =
    let text = does.is file.known file.kept in
    record {
      comes = comes_named task _ _ file result text.comes;
      fails = text.fails;
      ranges = λ is. let (ranges, has, counted) = text.ranges is in (ranges, file.of (WholeText (λ text. task.deed.counts text ranges)) has, counted);
      read = λ is. file.of (AddsBytes bytes bytes') (text.read is);
      most = λ measured. let most = text.most measured in record { size = most.size; read = file.of (ReadsSize most.size) most.read; counted = most.counted; added = most.added };
    }

module _ {R W E : Type 0} {Reads : Readers R} (Writes : Writers W) (K : SinkGhosts E) (task : Task) where
  pub record ComesOfJob (names : List (List ℕ)) (result : Result Bool StreamError) (old new : JobState Reads W E) : Type 0 where
    pub is : DoesJob Writes K task names result old.0 new.0 old.1 new.1 old.2 new.2

  -- it ended early
  pub job_ended : {names : List (List ℕ)} {error : StreamError} {old new : JobState Reads W E} → (lines : List (List ℕ)) × Does Writes K old.0 new.0 (AreCut task names lines) lines
      → FailsByOutput {X = Bool} (Err error) old.0.output new.0.output → ComesOfJob names (Err error) old new
  job_ended {error = error} cut fails = record {
    is = record {
      outcome = record { done = tt; cut = cut; quiet = λ (is : Err error ≡ Ok true). absurd (cc); fails = fails };
      counted = λ (is : Err error ≡ Ok true). absurd (cc);
      read = λ (is : Err error ≡ Ok true). absurd (cc);
      most = λ measured. tt;
      flushed = tt;
    };
  }

  module _ {name : List ℕ} {names : List (List ℕ)} {old mid : JobState Reads W E} where
    -- what comes of a file, and then of others
    pub job_more : {whole : Bool} → DoesTold Writes K task name (Ok whole) old.0 mid.0 old.1 mid.1 old.2 mid.2
        → (result : Result Bool StreamError) (end : JobState Reads W E) → ComesOfJob names result mid end → ComesOfJob (name ∷ names) (also all_joined whole result) old end
    job_more {whole} told (Ok all) end others =
        let more = others.is in
        let (first, is_whole, (done, tells)) = told.done in
        let (rest, is_all, (does, later)) = more.outcome.done in
        record {
          is = record {
            outcome = record {
              done = (
                first ++ rest,
                none_both first rest whole all (whole && all) is_whole is_all refl,
                (
                  (first, rest, refl, bytes_left mid.0.input, output_bytes Writes mid.0.output, done, does),
                  subst (TellsBytes K old.0.errors end.0.errors) (sym (concat_both first rest)) (tells-later K tells later),
                ),
              );
              cut = tt;
              quiet = λ is. let both = all_so whole all (Ok (whole && all)) refl is in more.outcome.quiet (ap Ok both.1) ∙ (told.whole (ap Ok both.0)).0;
              fails = record { write_failed = more.outcome.fails.write_failed ∙ told.fails.write_failed; took_nothing = more.outcome.fails.took_nothing ∙ told.fails.took_nothing; only = tt };
            };
            counted = λ is.
                let both = all_so whole all (Ok (whole && all)) refl is in
                let (ranges, has, grown) = (told.whole (ap Ok both.0)).1 in
                let (behind, have, further) = more.counted (ap Ok both.1) in
                (ranges ++ behind, (ranges, behind, refl, bytes_left mid.0.input, has, have), counts_then ranges behind old.1 mid.1 end.1 grown further);
            read = λ is.
                let both = all_so whole all (Ok (whole && all)) refl is in
                volume_more task.holds name names old.2 mid.2 end.2 _ _ _ (told.whole (ap Ok both.0)).2 (told.files ∙ ap (λ (b : Bool). files_with b old.2.files) both.0) (more.read (ap Ok both.1));
            most = λ measured. numbers_more task.holds name names old.1 mid.1 end.1 old.2 mid.2 end.2 _ _ _ whole (told.most measured) told.files (more.most measured);
            flushed = more.flushed;
          };
        }
    job_more {whole} told (Err error) end others =
        let more = others.is in
        let (first, is_whole, (done, tells)) = told.done in
        let (rest, (cut, later)) = more.outcome.cut in
        job_ended (
          first ++ rest,
          (
            inr (first, rest, refl, bytes_left mid.0.input, output_bytes Writes mid.0.output, done, cut),
            subst (TellsBytes K old.0.errors end.0.errors) (sym (concat_both first rest)) (tells-later K tells later),
          ),
        )
        (record {
          write_failed = more.outcome.fails.write_failed ∙ ap (counted (is_write_fault {A = Bool} (Err error))) told.fails.write_failed;
          took_nothing = more.outcome.fails.took_nothing ∙ ap (counted (is_write_of_nothing {A = Bool} (Err error))) told.fails.took_nothing;
          only = more.outcome.fails.only;
        })

    -- the output fails at one
    pub job_failed : {error : StreamError} → DoesTold Writes K task name (Err error) old.0 mid.0 old.1 mid.1 old.2 mid.2 → ComesOfJob (name ∷ names) (Err error) old mid
    job_failed told = job_ended ([], (inl (refl, told.cut.0), told.cut.1)) told.fails

  -- behind all there is a flush, which may fail
  module _ {old : JobState Reads W E} {output : FromWrite W} (kept : Keeps (output_bytes Writes old.0.output) (output_bytes Writes output)) where
    pub job_flushed : output.failures ≡ old.0.output.failures → output.empty_writes ≡ old.0.output.empty_writes → output.device.flushed ≡ true → ComesOfJob [] (Ok all_joined.none) old (record old.0 { output = output }, old.1, old.2)
    job_flushed failures empty_writes flushed = record {
      is = record {
        outcome = record {
          done = ([], refl, ((refl, refl, kept), tells-nothing K old.0.errors));
          cut = tt;
          quiet = λ is. refl;
          fails = record { write_failed = failures; took_nothing = empty_writes; only = tt };
        };
        counted = λ is. ([], (refl, refl), counts_none old.1);
        read = λ is. record { bytes = (refl, refl); files = omega arith };
        most = λ measured. record { size = 0; read = (refl, refl); counted = grow_none old.1 0; bytes = omega arith; files = omega arith };
        flushed = flushed;
      };
    }

    pub job_unflushed : {error : StreamError} → output.failures ≡ counted (is_write_fault {A = Bool} (Err error)) old.0.output.failures → output.empty_writes ≡ counted (is_write_of_nothing {A = Bool} (Err error)) old.0.output.empty_writes
        → IsWriteRefusal error → ComesOfJob [] (Err error) old (record old.0 { output = output }, old.1, old.2)
    job_unflushed {error} failures empty_writes only =
        job_ended ([], ((refl, refl, kept), tells-nothing K old.0.errors)) (record { write_failed = failures; took_nothing = empty_writes; only = write_ends error only })
