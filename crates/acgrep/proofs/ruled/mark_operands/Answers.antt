-- What was found was searched, and what cannot be read was told before.
use Rattle.acgrep.proofs.Common.{Covering, name_bytes}
use Rattle.std.proofs.Common.{◌<◌, ◌∙◌, ◌≡◌, [], ap, false, inl, inr, refl, subst, sym, ℕ}
use Rattle.acgrep.specs.Arguments.{shown_by}
use Rattle.acgrep.specs.Folders.{missed_of}
use Rattle.acgrep.specs.Listed.{listed_bytes}
use Rattle.acgrep.specs.MarkedFiles.{mark_work}
use Rattle.acgrep.specs.Runs.{are_several, status_reached}
use Rattle.acgrep.specs.Told.{TellsStatus}
use Rattle.acgrep.specs.ToldByRules.{IsMarkTold}
use Rattle.acgrep.proofs.InTurn.{begun_kept, or_kept, status_seen}
use Rattle.acgrep.proofs.MarksTold.{some-told}
use Rattle.acgrep.proofs.Reaching.{missed-told, reached-bound, reached-low}
use Rattle.acgrep.proofs.Told.{finished, status-seen, status-some, stays-bound, stays-low}
use Rattle.acgrep.proofs.ruled.mark_operands.Goals as goal

pub returns-in_default-clause-told : goal.returns-in_default-clause-told
returns-in_default-clause-told g c =
    let flags = c.args.given.now.flags in
    status-some g.E.Sink IsMarkTold flags.no_messages (shown_by flags) c.args.errors.now c.reach.new.errors (some-told g.E.Sink [] c.args.errors.now c.reach.new.errors (c.in_default.ensures.lost refl []))

pub returns : goal.returns
returns g c =
    let flags = c.args.given.now.flags in
    let files = listed_bytes c.in-Some.found.names.items in
    let unread = missed_of c.in-Some.found.unread.items in
    let job = c.job_of-job.result in
    let left = g.R.Read.remaining c.args.input.now in
    let held = g.W.Sink.taken c.args.output.now in
    let held' = g.W.Sink.taken c.mark_each-seen.new.output in
    let read = c.mark_each-seen.new.marking.input_read in
    let seen = c.mark_each-seen.result in
    let found = c.status-status.result in
    let is = c.status-status.ensures.seen in
    let Work = λ (covering : Covering). mark_work job covering (g.F.Open.holds c.args.files.now) left in
    let listed : listed_bytes c.as_slice-listed.result.now ≡ files = ap listed_bytes c.as_slice-listed.ensures.value in
    let several : c.are_several-several.result ≡ are_several flags (name_bytes c.args.names.now) files = c.are_several-several.ensures.several ∙ ap (are_several flags _) listed in
    let is_job = rw several at c.job_of-job.ensures.job in
    let status : c.status_below.result ≡ status_reached flags unread found = c.status_below.ensures.status ∙ ap (λ l. status_reached flags (missed_of l) found) c.as_slice.ensures.value in
    let told = subst (λ (n : ℕ). TellsStatus g.E.Sink IsMarkTold job.hushed job.shown n c.reach.new.errors c.mark_each-seen.new.errors) (sym is)
    (status-seen g.E.Sink IsMarkTold job.hushed job.shown seen c.reach.new.errors c.mark_each-seen.new.errors c.mark_each-seen.ensures.told) in
    let ends = c.finish.ensures.told in
    let same = λ (low : c.finish.result < 2). stays-low g.E.Sink c.status_below.result _ _ _ ends low in
    record {
      bound = stays-bound g.E.Sink _ _ _ _ ends (rw status (reached-bound flags unread found c.status-status.ensures.bound));
      searched = λ covering by low. record {
        files = files;
        unread = unread;
        reached = c.in-Some.ensures.reached;
        job = job;
        is_job = is_job;
        does = (
          found,
          (
            read,
            rw is (or_kept (Work covering) job.shown held' _ c.finish.ensures.kept files false read held _
                (status_seen (Work covering) job.shown files false read held held' seen (rw listed at c.mark_each-seen.ensures.seen covering by) (rw is at (reached-low flags unread found (rw (same low, status) at low))))),
          ),
          same low ∙ status,
        );
      };
      begun = λ covering by. inr (record {
        files = files;
        unread = unread;
        reached = c.in-Some.ensures.reached;
        job = job;
        is_job = is_job;
        does = begun_kept (Work covering) job.shown held' _ c.finish.ensures.kept files false false held (rw listed at c.mark_each-seen.ensures.seen covering by).begun;
      });
      told = finished g.E.Sink [] IsMarkTold (λ line is. inl ([], is)) flags.no_messages (shown_by flags) c.status_below.result c.finish.result c.args.errors.now c.mark_each-seen.new.errors c.finish.new.errors
          (rw status (missed-told g.E.Sink IsMarkTold flags unread (λ asked line is. inl (unread, is)) found _ _ _ c.in-Some.ensures.told (rw (is_job.hushed, is_job.shown) at told))) ends;
      flushed = c.finish.ensures.flushed;
    }
