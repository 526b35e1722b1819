-- A file more was searched, and the status tells what was seen.
use Rattle.acgrep.proofs.Common.{Keeps-refl, Patterns}
use Rattle.std.proofs.Common.{◌-◌, ◌∷◌, ◌≡◌, ap, drop, false, length, refl, take}
use Rattle.acgrep.specs.Files.{search_work}
use Rattle.acgrep.specs.Listed.{listed_bytes}
use Rattle.acgrep.specs.Searchers.{Seeks}
use Rattle.acgrep.specs.Selected.{HoldNoEnding}
use Rattle.acgrep.specs.Told.{IsMessage, files_told}
use Rattle.acgrep.proofs.InTurn.{begun_none, ends_by, names_cut, so_far_end, so_far_start, so_far_step, status_seen}
use Rattle.acgrep.proofs.NamesSearched.{name_has}
use Rattle.acgrep.proofs.Told.{if-more, status-seen, status-some, told-cut}
use Rattle.acgrep.proofs.files.search_names.Goals as goal

pub loop-rest-init : goal.loop-rest-init
loop-rest-init g c = record { so_far = λ p is plain. rw c.new-seen.ensures (so_far_start _ _ _ _ _); told = rw c.new-seen.ensures refl; within = λ name is. is }

pub loop-rest-preserved : goal.loop-rest-preserved
loop-rest-preserved g c =
    let job = c.args.query.now.job in
    let rest = c.loop-rest.rest.now in
    let name = c.as_slice.result.now in
    let more = listed_bytes (take (length rest - 1) (drop 1 rest)) in
    let seen = c.loop-rest.seen in
    let cut : listed_bytes rest ≡ name ∷ more = names_cut (λ n. n.items) rest c.index-rest-0.result c.index-rest-0.result name (c.goes_on.ensures.some c.loop-rest-test.true) c.index-rest-0.is c.as_slice.ensures.value in
    let all = files_told job.hushed job.label.now (listed_bytes c.args.names.now) in
    let within = told-cut job.hushed job.label.now name more (listed_bytes rest) all (ap (files_told job.hushed job.label.now) cut) c.loop-rest.invariant.within in
    record {
      so_far = λ p is plain. rw c.after-seen.ensures
          (so_far_step _ job.shown _ _ _ name more _ _ _ _ seen _ (c.goes_on.ensures.going c.loop-rest-test.true) (rw cut at c.loop-rest.invariant.so_far p is plain)
          c.search_name-outcome.ensures.leaves (c.search_name-outcome.ensures.searched p is plain) (c.search_name-outcome.ensures.begun p is plain) (name_has p job _ seen.selected name _ _ _ _));
      told = rw c.after-seen.ensures (if-more g.E.Sink (IsMessage all) job.hushed c.args.errors.now c.loop-rest.errors c.search_name-outcome.new.errors _ job.shown seen
          c.loop-rest.invariant.told (c.search_name-outcome.ensures.told all within.0));
      within = within.1;
    }

pub returns-in_default-clause-begun : goal.returns-in_default-clause-begun
returns-in_default-clause-begun g c = λ p is plain.
    begun_none (search_work p c.args.query.now.job (g.F.Open.holds c.args.files.now)) c.args.query.now.job.shown false (listed_bytes c.args.names.now) (g.R.Read.remaining c.args.input.now) _ _ (Keeps-refl _)

pub returns-in_default-clause-told : goal.returns-in_default-clause-told
returns-in_default-clause-told g c =
    let names = files_told c.args.query.now.job.hushed c.args.query.now.job.label.now (listed_bytes c.args.names.now) in
    status-some g.E.Sink (IsMessage names) c.args.query.now.job.hushed c.args.query.now.job.shown c.args.errors.now c.tell_memory.new.errors (c.tell_memory.ensures.told names)

pub returns : goal.returns
returns g c =
    let job = c.args.query.now.job in
    let seen = c.loop-rest.seen in
    let are = λ (p : Patterns) (is : Seeks c.args.query.now p) (plain : HoldNoEnding job.style.ending p).
    so_far_end _ _ _ _ _ _ _ seen _ (ends_by c.loop-rest.rest.now seen (c.goes_on.ensures.stops c.loop-rest-test.false)) (c.loop-rest.invariant.so_far p is plain) in
    record {
      bound = c.status.ensures.bound;
      searched = λ p is plain low. rw c.status.ensures.seen (status_seen _ _ _ _ _ _ _ seen (are p is plain) (rw c.status.ensures.seen at low));
      begun = λ p is plain. (are p is plain).begun;
      told = rw c.status.ensures.seen (status-seen g.E.Sink (IsMessage (files_told job.hushed job.label.now (listed_bytes c.args.names.now))) job.hushed job.shown seen c.args.errors.now c.loop-rest.errors
          c.loop-rest.invariant.told);
    }
