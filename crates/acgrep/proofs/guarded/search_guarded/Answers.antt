-- The lines before the first that holds a zero byte, and whether one of the others is selected.
use Rattle.acgrep.proofs.Common.{Appends-nil, Job, Keeps-refl, lt-ltb, or-false, or_right}
use Rattle.std.proofs.Common.{◌∙◌, Bool, [], ap, false, inr, refl, sym, true}
use Rattle.std.proofs.lemmas.Bool.{le-ltb}
use Rattle.std.specs.Prelude.{◌||◌, nat_lt}
use Rattle.acgrep.specs.Binary.{takes_text}
use Rattle.acgrep.specs.Files.{total_if}
use Rattle.acgrep.proofs.Beginnings.{on_err}
use Rattle.acgrep.proofs.BinaryTold.{begins_found, begins_nothing, finds_sought, reader_found, reader_full, reader_past}
use Rattle.acgrep.proofs.FilesBegun.{file_begins, total_none}
use Rattle.acgrep.proofs.Streams.{reads_both}
use Rattle.acgrep.proofs.StreamsBegun.{behind_searched}
use Rattle.acgrep.proofs.guarded.search_guarded.Goals as goal

pub returns-in_err-binary-clause-begun : goal.returns-in_err-binary-clause-begun
returns-in_err-binary-clause-begun g c = λ p is plain.
    on_err c.from_residual.result
    (file_begins p c.args.query.now.job true (ap (λ (b : Bool). b || takes_text c.args.query.now.job) c.requires.guarded) c.begin.new.self c.search_front.new.state (g.R.Read.remaining c.args.input.now) (g.W.Sink.taken c.args.output.now) _ _
    c.begin.ensures.begin (c.in_err-binary.ensures.begun p is plain) (total_none c.args.query.now.job c.search_front.new.state.selected _ _ (Keeps-refl _)))

pub returns-then-not-binary-clause-searched : goal.returns-then-not-binary-clause-searched
returns-then-not-binary-clause-searched g c = λ p is plain.
    reader_past p _ c.requires.guarded _ _ _ _ _ _ c.begin.ensures.begin
    (rw c.if-not-binary.true at c.in_ok-binary.ensures.front p is plain)

-- the lines up to the first with a zero byte were searched
pub returns-then-is_full-clause-searched : goal.returns-then-is_full-clause-searched
returns-then-is_full-clause-searched g c = λ p is plain.
    let (asked, front, binary) = rw c.if-not-binary.false at c.in_ok-binary.ensures.front p is plain in
    reader_full p _ c.requires.guarded _ _ _ _ _ _ c.begin.ensures.begin _ front binary (sym c.is_full.ensures.full ∙ c.if-is_full.true)

-- the same lines are sought among the others
pub returns-in_err-search_behind-clause-begun : goal.returns-in_err-search_behind-clause-begun
returns-in_err-search_behind-clause-begun g c = λ p is plain.
    let job = c.args.query.now.job in
    let same = c.seeking-seeking.ensures.seeking in
    let (asked, front, binary) = rw c.if-not-binary.false at c.in_ok-binary.ensures.front p is plain in
    let written = begins_nothing p c.seeking-seeking.result _ _ _ _ _ _ (ap (λ (j : Job). j.shown) same) (c.in_err-search_behind.ensures.begun p is (rw same plain)) in
    on_err c.from_residual-in_err-search_behind.result
    (file_begins p job true (ap (λ (b : Bool). b || takes_text job) c.requires.guarded) _ _ _ _ _ _ c.begin.ensures.begin (behind_searched p job true _ _ _ _ _ _ _ _ front.some (inr front.whole))
    (record { begun = []; missing = total_if job.shown job.style c.search_front.new.state.selected; cut = refl; written = written }))

pub returns-in_err-search_behind-clause-reads : goal.returns-in_err-search_behind-clause-reads
returns-in_err-search_behind-clause-reads g c = reads_both _ _ _ c.search_front.ensures.reads c.search_behind.ensures.reads

pub returns-in_err-write_binary-clause-begun : goal.returns-in_err-write_binary-clause-begun
returns-in_err-write_binary-clause-begun g c = λ p is plain.
    let same = c.seeking-seeking.ensures.seeking in
    let (asked, front, binary) = rw c.if-not-binary.false at c.in_ok-binary.ensures.front p is plain in
    let found = finds_sought p c.args.query.now.job _ same _ _ _ _ _ _ _ _ _ c.begin-2.ensures.begin (c.in_ok-search_behind.ensures.front p is (rw same plain)) in
    on_err c.from_residual-in_err-write_binary.result
    (begins_found p _ c.requires.guarded _ _ _ _ _ _ c.begin.ensures.begin _ front binary _ _ _ (sym c.is_full.ensures.full ∙ c.if-is_full.false) _ found
    (lt-ltb 0 c.search_behind.new.state.selected c.if-found.true) c.write_binary.ensures.begun)

pub returns-in_err-write_binary-clause-reads : goal.returns-in_err-write_binary-clause-reads
returns-in_err-write_binary-clause-reads g c = reads_both _ _ _ c.search_front.ensures.reads c.search_behind.ensures.reads

pub returns-then-found-clause-searched : goal.returns-then-found-clause-searched
returns-then-found-clause-searched g c = λ p is plain.
    let same = c.seeking-seeking.ensures.seeking in
    let (asked, front, binary) = rw c.if-not-binary.false at c.in_ok-binary.ensures.front p is plain in
    let found = finds_sought p c.args.query.now.job _ same _ _ _ _ _ _ _ _ _ c.begin-2.ensures.begin (c.in_ok-search_behind.ensures.front p is (rw same plain)) in
    reader_found p _ c.requires.guarded _ _ _ _ _ _ c.begin.ensures.begin _ front binary _ _ _ (sym c.is_full.ensures.full ∙ c.if-is_full.false) true
    (rw (lt-ltb 0 c.search_behind.new.state.selected c.if-found.true) at found) true c.in_ok-write_binary.ensures.written (sym (or_right (nat_lt 0 c.search_front.new.state.selected) true refl))

pub returns-then-found-clause-reads : goal.returns-then-found-clause-reads
returns-then-found-clause-reads g c = reads_both _ _ _ c.search_front.ensures.reads c.search_behind.ensures.reads

pub returns-clause-searched : goal.returns-clause-searched
returns-clause-searched g c = λ p is plain.
    let same = c.seeking-seeking.ensures.seeking in
    let (asked, front, binary) = rw c.if-not-binary.false at c.in_ok-binary.ensures.front p is plain in
    let found = finds_sought p c.args.query.now.job _ same _ _ _ _ _ _ _ _ _ c.begin-2.ensures.begin (c.in_ok-search_behind.ensures.front p is (rw same plain)) in
    reader_found p _ c.requires.guarded _ _ _ _ _ _ c.begin.ensures.begin _ front binary _ _ _ (sym c.is_full.ensures.full ∙ c.if-is_full.false) false
    (rw (le-ltb 0 c.search_behind.new.state.selected c.if-found.false) at found) _ (Appends-nil _) (sym (or-false (nat_lt 0 c.search_front.new.state.selected)))

pub returns-clause-reads : goal.returns-clause-reads
returns-clause-reads g c = reads_both _ _ _ c.search_front.ensures.reads c.search_behind.ensures.reads
