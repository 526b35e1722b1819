-- What was found was searched, and what cannot be read was told before.
use Rattle.acgrep.proofs.Common.{Patterns, name_bytes, some-weaker}
use Rattle.std.proofs.Common.{◌∙◌, ◌≡◌, [], ap, inl, inr, refl, subst, sym, ℕ}
use Rattle.acgrep.specs.Arguments.{ending_by, said, shown_by}
use Rattle.acgrep.specs.Folders.{missed_of}
use Rattle.acgrep.specs.Listed.{listed_bytes}
use Rattle.acgrep.specs.Runs.{are_several, status_reached}
use Rattle.acgrep.specs.Selected.{HoldNoEnding}
use Rattle.acgrep.specs.Told.{IsMessage, MaySay, names_told}
use Rattle.acgrep.proofs.Reaching.{reached-bound, reached-low, reached-told}
use Rattle.acgrep.proofs.Told.{status-some}
use Rattle.acgrep.proofs.below.search_operands.Goals as goal

pub returns-in_default-clause-told : goal.returns-in_default-clause-told
returns-in_default-clause-told g c =
    let given = said c.args.given.now in
    let all = names_told given.flags.no_messages given.label [] _ in
    status-some g.E.Sink (MaySay _ given [] _) given.flags.no_messages (shown_by given.flags) c.args.errors.now c.reach.new.errors
    (some-weaker g.E.Sink (IsMessage all) (MaySay _ given [] _) c.args.errors.now c.reach.new.errors (λ line is. inl (inl is)) (c.in_default.ensures.lost refl all))

pub returns : goal.returns
returns g c =
    let given = said c.args.given.now in
    let flags = given.flags in
    let files = listed_bytes c.in-Some.found.names.items in
    let unread = missed_of c.in-Some.found.unread.items in
    let job = c.job_of-job.result in
    let found = c.search_names-status.result in
    let listed : listed_bytes c.as_slice-names.result.now ≡ files = ap listed_bytes c.as_slice-names.ensures.value in
    let several : c.are_several-several.result ≡ are_several flags (name_bytes c.args.operands.now.names.now) files = c.are_several-several.ensures.several ∙ ap (are_several flags _) listed in
    let is_job = rw several at c.job_of-job.ensures.job in
    let status : c.status_below.result ≡ status_reached flags unread found = c.status_below.ensures.status ∙ ap (λ l. status_reached flags (missed_of l) found) c.as_slice.ensures.value in
    let free = λ (p : Patterns) (plain : HoldNoEnding (ending_by flags) p). subst (λ (n : ℕ). HoldNoEnding n p) (sym is_job.ending) plain in
    let told = rw (listed, is_job.label, is_job.hushed, is_job.shown) at c.search_names-status.ensures.told in
    record {
      bound = rw status (reached-bound flags unread found c.search_names-status.ensures.bound);
      searched = λ p is plain low. record {
        files = files;
        unread = unread;
        reached = c.in-Some.ensures.reached;
        job = job;
        is_job = is_job;
        does = (found, rw listed at c.search_names-status.ensures.searched p is (free p plain) (reached-low flags unread found (rw status at low)), status);
      };
      begun = λ p is plain. inr (record {
        files = files;
        unread = unread;
        reached = c.in-Some.ensures.reached;
        job = job;
        is_job = is_job;
        does = rw listed at c.search_names-status.ensures.begun p is (free p plain);
      });
      told = rw status (reached-told _ given _ files unread c.in-Some.ensures.reached g.E.Sink _ _ _ found c.in-Some.ensures.told told);
    }
