-- A file more was searched.
use Rattle.acgrep.proofs.Common.{Covering, Job, is_input, stream_lines}
use Rattle.std.proofs.Common.{◌-◌, ◌∙◌, ◌∷◌, ◌≡◌, Bool, List, Option, [], ap, append-nil, drop, false, inl, inr, length, refl, sym, take, true, ℕ}
use Rattle.std.proofs.lemmas.Bool.{or_parts}
use Rattle.std.specs.Prelude.{◌&&◌}
use Rattle.acgrep.specs.Files.{known_of}
use Rattle.acgrep.specs.Listed.{listed_bytes}
use Rattle.acgrep.specs.MarkedFiles.{HasMarkedLine, MarksFile, MarksInput, MarksName, mark_work}
use Rattle.acgrep.specs.ToldByRules.{IsMarkTold}
use Rattle.acgrep.proofs.FilesMarked.{still_marks}
use Rattle.acgrep.proofs.InTurn.{ends_by, if_searched, names_cut, so_far_end, so_far_start, so_far_step}
use Rattle.acgrep.proofs.Told.{if-more}
use Rattle.acgrep.proofs.marked_files.mark_each.Goals as goal

-- a file of which a line is selected has one
has_one : (job : Job) (covering : Covering) (known held held' : Option (List ℕ)) → MarksFile job covering known held held' true → HasMarkedLine job covering known
has_one job covering known held held' (inl whole) =
    let lines = stream_lines whole.text in
    (record { text = whole.text; of = whole.of; lines = lines; first = ([], sym (append-nil lines)); runs = whole.runs; are = whole.are }, sym whole.any_is)
has_one job covering known held held' (inr told) = (told.has, told.selected)

input_one : (job : Job) (covering : Covering) (again : Bool) (known held held' : Option (List ℕ)) → MarksInput job covering again known held held' true → HasMarkedLine job covering known
input_one job covering true known held held' file = let clash : true ≡ false = file.is_any in absurd (cc)
input_one job covering false known held held' file = has_one job covering known held held' file

name_has : (job : Job) (covering : Covering) (holds : List ℕ → Option (List ℕ)) (left : Option (List ℕ)) (read : Bool) (name : List ℕ) (held held' : Option (List ℕ))
    → MarksName job covering holds left read name held held' true → (mark_work job covering holds left).Has name read
name_has job covering holds left read name held held' marks =
    (marks.named, marks.is_named, input_one marks.named covering (read && is_input name) (known_of holds name left) held held' marks.file)

pub loop-rest-init : goal.loop-rest-init
loop-rest-init g c =
    record {
      can = c.requires.ready;
      unread = λ unread. refl;
      told = rw c.new-seen.ensures refl;
      so_far = λ covering by. (by, rw (c.new-seen.ensures, c.requires.unread) (so_far_start _ _ _ _ _));
    }

pub loop-rest-preserved : goal.loop-rest-preserved
loop-rest-preserved g c =
    let job = c.args.job.now in
    let names = listed_bytes c.args.names.now in
    let first = g.W.Sink.taken c.args.output.now in
    let held = g.W.Sink.taken c.loop-rest.output in
    let held' = g.W.Sink.taken c.mark_name-outcome.new.output in
    let rest = c.loop-rest.rest.now in
    let name = c.as_slice.result.now in
    let more = listed_bytes (take (length rest - 1) (drop 1 rest)) in
    let seen = c.loop-rest.seen in
    let cut : listed_bytes rest ≡ name ∷ more = names_cut (λ n. n.items) rest c.index-rest-0.result c.index-rest-0.result name (c.goes_on.ensures.some c.loop-rest-test.true) c.index-rest-0.is c.as_slice.ensures.value in
    let read = c.loop-rest.marking.input_read in
    let read' = c.mark_name-outcome.new.marking.input_read in
    record {
      can = c.mark_name-outcome.ensures.ready;
      unread = λ unread.
          let both = or_parts read (is_input name) (sym c.mark_name-outcome.ensures.read ∙ unread) in
          ap g.R.Read.remaining (c.mark_name-outcome.ensures.leaves both.1) ∙ c.loop-rest.invariant.unread both.0;
      told = rw c.after-seen.ensures (if-more g.E.Sink IsMarkTold job.hushed c.args.errors.now c.loop-rest.errors c.mark_name-outcome.new.errors _ job.shown seen c.loop-rest.invariant.told c.mark_name-outcome.ensures.told);
      so_far = λ covering by.
          let work = mark_work job covering _ _ in
          let before = c.loop-rest.invariant.so_far covering by in
          let comes = c.mark_name-outcome.ensures.comes covering before.0 _ c.loop-rest.invariant.unread in
          let does = if_searched _ _ (work.Does seen.selected name read read' held held') (λ any marks. (c.mark_name-outcome.ensures.read, marks)) comes.searched in (
            still_marks g.A.Automaton c.loop-rest.marking.cover c.mark_name-outcome.new.marking.cover covering c.mark_name-outcome.ensures.ready.can c.mark_name-outcome.ensures.same.cover before.0,
            rw c.after-seen.ensures (so_far_step work job.shown names false first name more read read' held held' seen _ (c.goes_on.ensures.going c.loop-rest-test.true) (rw cut at before.1)
                c.mark_name-outcome.ensures.read does comes.begun (λ marks. name_has job covering _ _ read name held held' marks.1)),
          );
    }

pub returns-clause-seen : goal.returns-clause-seen
returns-clause-seen g c = λ covering by.
    so_far_end (mark_work c.args.job.now covering (g.F.Open.holds c.args.files.now) (g.R.Read.remaining c.args.input.now)) c.args.job.now.shown (listed_bytes c.args.names.now) false
    c.loop-rest.marking.input_read (g.W.Sink.taken c.args.output.now) (g.W.Sink.taken c.loop-rest.output) c.loop-rest.seen (listed_bytes c.loop-rest.rest.now)
    (ends_by c.loop-rest.rest.now c.loop-rest.seen (c.goes_on.ensures.stops c.loop-rest-test.false)) (c.loop-rest.invariant.so_far covering by).1
