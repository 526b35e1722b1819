-- No option gives a pattern; or what comes of the files, and then the counts, come behind what is told of patterns of lists and of pieces.
use Rattle.acredact.proofs.Common.{DoesJob, Err, FilesOutcome, Ok, Other, OutOfMemory, Work, all_given, bytes_left, call_of, failure_of_stream, inl, inr, key_in, loaded_in, no_volume, on_ok_weaker, refl, rules, task_of}
use Rattle.acredact.proofs.Calls.{call_ended, call_refused, job_does, may_fail, passed_on, may_prepare, unready_may}
use Rattle.acredact.proofs.RedactedCalls.{call_cut, call_told}
use Rattle.acredact.proofs.run.redact_asked.Goals as goal

pub returns-then-not-gives_pattern-clause-outcome : goal.returns-then-not-gives_pattern-clause-outcome
returns-then-not-gives_pattern-clause-outcome g c = call_refused g.W.Write g.E.Sink _ _ _ _ _ _ (inl (inr (refl, search rules)))

pub returns-in-Err-clause-outcome : goal.returns-in-Err-clause-outcome
returns-in-Err-clause-outcome g c = call_refused g.W.Write g.E.Sink _ _ _ c.in-Err.failure _ _ (inr (inl c.in-Err.ensures.fails))

pub returns-in-Err-prepare-clause-outcome : goal.returns-in-Err-prepare-clause-outcome
returns-in-Err-prepare-clause-outcome g c =
    let call = call_of g.F.Folder c.args.folder.now (all_given c.args.given.now) in
    let load = loaded_in c.in-Ok.secrets in
    call_ended g.W.Write g.E.Sink call _ _ c.in-Err-prepare.failure _ _ _ (may_prepare call load _ _ c.in-Ok.ensures.loaded _ c.in-Err-prepare.failure c.in-Err-prepare.ensures.fails)
    (unready_may g.E.Sink call _ (λ line is. inr is) load _ _ c.in-Ok.ensures.loaded _ _ c.in-Err-prepare.ensures.untold)

pub redact_by-requires : goal.redact_by-requires
redact_by-requires g c = record { ready = c.job_of-job.ensures.can c.in-Ok-prepare.ensures.ready }

pub returns-in_err-counted-clause-outcome : goal.returns-in_err-counted-clause-outcome
returns-in_err-counted-clause-outcome g c =
    let call = call_of g.F.Folder c.args.folder.now (all_given c.args.given.now) in
    rw (passed_on c.from_residual.result (Other OutOfMemory) c.from_residual.ensures.1) (call_refused g.W.Write g.E.Sink call _ _ (Other OutOfMemory) _ _ (may_fail call _ (Other OutOfMemory) (inl refl)))

pub returns-in_err-all-clause-outcome : goal.returns-in_err-all-clause-outcome
returns-in_err-all-clause-outcome g c =
    let call = call_of g.F.Folder c.args.folder.now (all_given c.args.given.now) in
    let load = loaded_in c.in-Ok.secrets in
    let begun = record c.args.streams.now { input = c.load.new.input; errors = c.prepare.new.errors } in
    let files = job_does g.F.Folder c.args.folder.now call.given load c.job_of-job.result (c.job_of-job.ensures.job c.in-Ok-prepare.ensures.ready)
    (λ (w : Work). FilesOutcome g.W.Write g.E.Sink w (Err c.in_err-all.field-0.0) begun c.redact_by.new.streams) (c.in_err-all.ensures.done _ c.in-Ok-prepare.ensures.ready.of).outcome in
    rw (passed_on c.from_residual-in_err-all.result (Other (failure_of_stream c.in_err-all.field-0.0)) c.from_residual-in_err-all.ensures.1)
    (call_cut g.W.Write g.E.Sink call (bytes_left c.args.streams.now.input) c.in-Ok.secrets.rules.items (key_in c.in-Ok.secrets.key) begun c.redact_by.new.streams c.in-Ok.ensures.loaded c.args.streams.now.errors c.in-Ok-prepare.ensures.told c.in_err-all.field-0.0 files)

pub returns-clause-outcome : goal.returns-clause-outcome
returns-clause-outcome g c =
    let call = call_of g.F.Folder c.args.folder.now (all_given c.args.given.now) in
    let begun = record c.args.streams.now { input = c.load.new.input; errors = c.prepare.new.errors } in
    let value = c.as_slice-rules.ensures.value in
    let does = job_does g.F.Folder c.args.folder.now call.given (loaded_in c.in-Ok.secrets) c.job_of-job.result (c.job_of-job.ensures.job c.in-Ok-prepare.ensures.ready)
    (λ (w : Work). DoesJob g.W.Write g.E.Sink (task_of w) w.names (Ok c.in_ok-all.all) begun c.redact_by.new.streams c.as_mut_slice-tally.result.now c.redact_by.new.counts no_volume c.redact_by.new.volume) (c.in_ok-all.ensures.done _ c.in-Ok-prepare.ensures.ready.of) in
    call_told g.W.Write g.E.Sink call (bytes_left c.args.streams.now.input) c.in-Ok.secrets.rules.items (key_in c.in-Ok.secrets.key) begun c.redact_by.new.streams c.in-Ok.ensures.loaded c.args.streams.now.errors c.in-Ok-prepare.ensures.told
    c.redact_by.new.counts c.redact_by.new.volume c.tell_counted.new.errors c.in_ok-all.all c.tell_counted.result c.tell_counted.ensures.all c.tell_counted.ensures.fails (rw value at c.tell_counted.ensures.told)
    (rw value at c.tell_counted.ensures.lines) (rw (c.as_mut_slice-tally.ensures.value, c.in_ok-counted.ensures.counts, c.counts.ensures.counts, value) at does)

pub returns-clause-flushed : goal.returns-clause-flushed
returns-clause-flushed g c = on_ok_weaker c.tell_counted.result (λ told. (c.in_ok-all.ensures.done _ c.in-Ok-prepare.ensures.ready.of).flushed) c.tell_counted.ensures.told
