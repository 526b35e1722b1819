-- What was loaded is what is redacted, and then the counts are told.
use Rattle.acredact.proofs.Common.{IsPlaceLine, Ok, Other, OutOfMemory, PlacesOutcome, Work, all_given, call_of, inl, inr, key_in, loaded_in, no_volume, refl, rules}
use Rattle.acredact.proofs.Calls.{job_does, may_fail, may_prepare, passed_on, unready_may}
use Rattle.acredact.proofs.RedactedCalls.{places_cut, places_early, places_refused, places_told}
use Rattle.acredact.proofs.in_place.load_places.Goals as goal

pub returns-then-not-gives_pattern : goal.returns-then-not-gives_pattern
returns-then-not-gives_pattern g c = places_refused (inl (inr (refl, search rules)))

pub returns-in-Err : goal.returns-in-Err
returns-in-Err g c = places_refused (inr (inl c.in-Err.ensures.fails))

pub returns-in_err-counted : goal.returns-in_err-counted
returns-in_err-counted g c =
    rw (passed_on c.from_residual.result (Other OutOfMemory) c.from_residual.ensures.1)
    (places_refused (may_fail (call_of g.F.Folder c.args.folder.now (all_given c.args.given.now)) ⊥ (Other OutOfMemory) (inl refl)))

pub returns-in-Err-prepare : goal.returns-in-Err-prepare
returns-in-Err-prepare g c =
    let call = call_of g.F.Folder c.args.folder.now (all_given c.args.given.now) in
    let load = loaded_in c.in-Ok.secrets in
    places_early (may_prepare call load _ _ c.in-Ok.ensures.loaded ⊥ c.in-Err-prepare.failure c.in-Err-prepare.ensures.fails)
    (unready_may g.E.Sink call (IsPlaceLine call) (λ line is. inl (inl (inr is))) load _ _ c.in-Ok.ensures.loaded _ _ c.in-Err-prepare.ensures.untold)

pub returns-in_err-all : goal.returns-in_err-all
returns-in_err-all g c =
    let job = c.job_of-job.ensures.job c.in-Ok-prepare.ensures.ready in
    let run = rw (job.names, job.redactor, job.opens) at (c.in_err-all.ensures _ c.in-Ok-prepare.ensures.ready.of) in
    let call = call_of g.F.Folder c.args.folder.now (all_given c.args.given.now) in
    rw (passed_on c.from_residual-in_err-all.result (Other OutOfMemory) c.from_residual-in_err-all.ensures.1)
    (places_cut g.O.File.Write g.E.Sink call _ c.in-Ok.secrets.rules.items (key_in c.in-Ok.secrets.key) _ _ c.in-Ok.ensures.loaded _ c.in-Ok-prepare.ensures.told run)

pub returns : goal.returns
returns g c =
    let given = all_given c.args.given.now in
    let begun = record c.args.streams.now { input = c.load.new.input; errors = c.prepare.new.errors } in
    let value = c.as_slice-rules.ensures.value in
    let run = job_does g.F.Folder c.args.folder.now given (loaded_in c.in-Ok.secrets) c.job_of-job.result (c.job_of-job.ensures.job c.in-Ok-prepare.ensures.ready)
    (λ (w : Work). PlacesOutcome g.O.File.Write g.E.Sink g.O.Outputs w w.names (Ok c.in_ok-all.all) (c.args.outputs.now, begun, c.as_mut_slice-tally.result.now, no_volume)
    (c.place_each.new.outputs, c.place_each.new.streams, c.place_each.new.counts, c.place_each.new.volume)) (c.in_ok-all.ensures _ c.in-Ok-prepare.ensures.ready.of) in
    let counted = c.tell_counted.ensures in
    places_told g.O.File.Write g.E.Sink (call_of g.F.Folder c.args.folder.now given) _ c.in-Ok.secrets.rules.items (key_in c.in-Ok.secrets.key) begun c.place_each.new.streams c.in-Ok.ensures.loaded _ c.in-Ok-prepare.ensures.told
    c.place_each.new.counts c.place_each.new.volume c.tell_counted.new.errors c.in_ok-all.all c.tell_counted.result counted.all counted.fails (rw value at counted.told) (rw value at counted.lines)
    (rw (c.as_mut_slice-tally.ensures.value, c.in_ok-counted.ensures.counts, c.counts.ensures.counts, value) at run)
